-- The flags of a set's processes, place by place.
use mathlib.Core.Path.{◌≡◌, sym}
use mathlib.Core.Bool.{Bool, true, false, ◌||◌, or-true, or-false}
use mathlib.Core.List.{List}
use Prim.Native.Nat.{ℕ, ◌≤◌, ◌<◌}
use borrow.Author.Tests.{lt-ltb, le-ltb}
use Rattle.line_theory.specs.Sets.{View, received_more}
use Rattle.line_theory.specs.Search.{sent_to}
use Rattle.line_theory.proofs.Tests.{permitted_out, refused_by}
use Rattle.finder.specs.Steps.{must_step_back, flagged}

-- ---- whether one must step back, partner by partner

pub must_here : (v : View) (c : ℕ → ℕ) (j p : ℕ) → p < v.n → v.S p (c p) j < v.R j (c j) p → true ≡ must_step_back v c j
must_here v c j p k more = rw (refused_by v.n (v.R j (c j)) (sent_to v c j) p k more)

pub need_not : (v : View) (c : ℕ → ℕ) (j : ℕ) → ((p : ℕ) → p < v.n → v.R j (c j) p ≤ v.S p (c p) j) → false ≡ must_step_back v c j
need_not v c j all = rw (permitted_out v.n (v.R j (c j)) (sent_to v c j) all)

-- ---- flags set beside those that are set

-- the flag of p then: it is set where p received more from j than j has sent, and is else as it was
module _ (v : View) (c : ℕ → ℕ) (j : ℕ) (before : List Bool) (p : ℕ) where
  abbrev pub beside : Bool
  beside = flagged before p || received_more v c p j

  pub beside_set : v.S j (c j) p < v.R p (c p) j → true ≡ beside
  beside_set more = rw (lt-ltb (v.S j (c j) p) (v.R p (c p) j) more) (sym (or-true (flagged before p)))

  pub beside_kept : v.R p (c p) j ≤ v.S j (c j) p → flagged before p ≡ beside
  beside_kept less = rw (le-ltb (v.S j (c j) p) (v.R p (c p) j) less) (sym (or-false (flagged before p)))
