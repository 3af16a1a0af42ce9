-- The newest set, from which the call starts, and from what the finder ends on to the definitions.
use mathlib.Core.Path.{◌≡◌, sym, ap, ap₂, subst, ◌∙◌}
use mathlib.Core.List.{List}
use Prim.Native.Nat.{ℕ, ◌≤◌}
use native.Mathlib.Omega.{arith}
use lib.ListN.{get_or-eq_default}
use Rattle.book.specs.declared.Checkpoint.{Checkpoint}
use Rattle.book.specs.View.{count}
use Rattle.book.specs.Lent.{Tables}
use Rattle.book.specs.Check.{tables_question}
use Rattle.book.specs.Accepted.{AreAccepted}
use Rattle.book.proofs.Questions.{kept_passed}
use Rattle.line_theory.specs.Sets.{View, newer_than, cut}
use Rattle.line_theory.specs.Search.{line}
use Rattle.line_theory.specs.OfTables.{view_of}
use Rattle.line_theory.proofs.Accepted.{accepted_absent, accepted_book}
use Rattle.finder.specs.declared.Line.{Line}
use Rattle.consistency.specs.Set.{chosen}
use Rattle.consistency.specs.Given.{AllNamed}
use Rattle.finder.specs.Line.{checkpoints, no_line, line_found, passed_found, found_in, IsLineOf}
use Rattle.finder.proofs.Sixteen.{chosen_of}

module _ {t : Tables} (accepted : AreAccepted t) where
  chosen_newest : chosen (checkpoints (count t.shape)) ≡ count t.shape
  chosen_newest = chosen_of (count t.shape) (λ j k. get_or-eq_default t.shape.counts 0 {n = j} (omega (arith, accepted.sixteen)))

  pub newest_named : AllNamed t.shape (checkpoints (count t.shape))
  newest_named j k = rw chosen_newest ((accepted_book accepted).some j k, omega arith)

  pub newest_absent : (j : ℕ) → t.shape.n ≤ j → chosen (checkpoints (count t.shape)) j ≡ 0
  newest_absent j k = ap (λ (c : ℕ → ℕ). c j) chosen_newest ∙ accepted_absent accepted j k

  -- a book cut to its newest set is the book
  pub line_found_lem : (found : Line) → IsLineOf (cut (view_of t) (chosen (checkpoints (count t.shape)))) found
      → (found.set ≡ line_found t) × (found.passed ≡ passed_found t)
  unfolding line_found passed_found
  line_found_lem found h =
      let v : View = view_of t in
      let whole : IsLineOf v found = subst (λ (c : ℕ → ℕ). IsLineOf (cut v c) found) chosen_newest h in (
        whole.0 ∙ sym (kept_passed (tables_question t) no_line (checkpoints (line v)) accepted.passed),
        whole.1 ∙ sym (kept_passed (tables_question t) 0 (newer_than v (line v)) accepted.passed),
      )

  pub found_is : (found : Line) → IsLineOf (cut (view_of t) (chosen (checkpoints (count t.shape)))) found → found ≡ found_in t
  found_is found h =
      let parts = line_found_lem found h in
      let made : List Checkpoint → ℕ → Line = λ s k. record { set = s; passed = k } in
      ap₂ made parts.0 parts.1
