-- What the answer of `accept` says.
use mathlib.Core.Path.{◌≡◌, refl, sym, ap, subst, ◌∙◌}
use Prim.Native.Nat.{ℕ, zero, suc, ◌≤◌}
use native.Mathlib.Omega.{arith}
use Rattle.std.specs.Prelude.{Result, Ok, Err}
use Rattle.book.specs.declared.Question.{Question}
use Rattle.book.specs.InTurn.{answer_with}
use Rattle.book.specs.Lent.{Tables}
use Rattle.book.specs.Numbers.{number, by_number}
use Rattle.book.proofs.Refusals.{refused_by, is_refused, is_accepted, value_is}
use Rattle.accepted.specs.declared.lent.Accepted.{Accepted}
use Rattle.accepted.specs.Holding.{tables_in, accepted_in}

-- the same answer with the tables as the definitions speak of them
abbrev seen : Result Accepted Question → Result Tables Question
seen (Ok accepted) = Ok (tables_in accepted)
seen (Err question) = Err question

seen_in : (r : Result Accepted Question) → by_number (seen r) ≡ accepted_in r
seen_in (Ok accepted) = refl
seen_in (Err question) = refl

-- the question that refuses
pub refused_with : {r : Result Accepted Question} {e : Question} (q : ℕ) (t : Tables) → accepted_in r ≡ answer_with q t → r ≡ Err e → q ≡ number e
refused_with {r} q t answered is = refused_by q t (seen_in r ∙ answered) (ap seen is)

pub not_with : {r : Result Accepted Question} {e : Question} (q : ℕ) (t : Tables) → accepted_in r ≡ answer_with q t → r ≡ Err e → q ≡ 0 → ⊥
not_with {r} q t answered is = is_refused q t (seen_in r ∙ answered) (ap seen is)

-- none does, and the accepted tables are those that were lent
pub passes_with : {r : Result Accepted Question} {a : Accepted} (q : ℕ) (t : Tables) → accepted_in r ≡ answer_with q t → r ≡ Ok a → q ≡ 0
passes_with {r} q t answered is = is_accepted q t (seen_in r ∙ answered) (ap seen is)

pub tables_are : {r : Result Accepted Question} {a : Accepted} (q : ℕ) (t : Tables) → accepted_in r ≡ answer_with q t → r ≡ Ok a → tables_in a ≡ t
tables_are {r} q t answered is = value_is q t (seen_in r ∙ answered) (ap seen is)
