-- What the functions that make a text promise: how it grows, and which bytes it holds.
use Rattle.std.specs.Prelude.{◌≡◌, List, ◌++◌, ℕ, ◌+◌, ◌≤◌, length, take, Result, Ok, Err}
use Rattle.book.specs.declared.Question.{Question}
use Rattle.book.specs.Numbers.{number}
use Rattle.line_text.specs.Text.{refused_text}
use Rattle.line_text.specs.declared.growing.Text.{Text}

-- a text with `more` bytes behind those that it had
pub record Grown (before after : Text) (more : List ℕ) : Type 0 where
  pub first : take after.len after.bytes ≡ take before.len before.bytes ++ more
  pub long : after.len ≡ before.len + length more

-- a text of just these bytes
pub record Holds (text : Text) (bytes : List ℕ) : Type 0 where
  pub first : take text.len text.bytes ≡ bytes
  pub long : text.len ≡ length bytes

-- a text of just these bytes, or the question whose refusal they say
abbrev pub Says : Result Text Question → List ℕ → Type 0
Says (Ok text) bytes = Holds text bytes
Says (Err question) bytes = refused_text (number question) ≡ bytes
