-- Which of questions 6 to 8 fails first, by the tests that a counter meets.
use mathlib.Core.Path.{◌≡◌}
use mathlib.Core.Bool.{Bool, true, false}
use Prim.Native.Nat.{ℕ, ◌≤◌, ◌<◌}
use borrow.Author.Tests.{lt-ltb, le-ltb, le-leb, lt-leb}
use Rattle.book.specs.Questions.{zero_if_asked, counter_question}

module _ (mark : ℕ) (zeros : Bool) (before v : ℕ) where
  pub is_mark : mark ≤ v → 6 ≡ counter_question mark zeros before v
  unfolding counter_question
  is_mark h = rw (le-ltb v mark h)

  pub not_zero : v < mark → zero_if_asked zeros v ≡ false → 7 ≡ counter_question mark zeros before v
  unfolding counter_question
  not_zero h k = rw (lt-ltb v mark h, k)

  pub fell : v < mark → zero_if_asked zeros v ≡ true → v < before → 8 ≡ counter_question mark zeros before v
  unfolding counter_question
  fell h k f = rw (lt-ltb v mark h, k, lt-leb before v f)

  pub good : v < mark → zero_if_asked zeros v ≡ true → before ≤ v → 0 ≡ counter_question mark zeros before v
  unfolding counter_question
  good h k f = rw (lt-ltb v mark h, k, le-leb before v f)
