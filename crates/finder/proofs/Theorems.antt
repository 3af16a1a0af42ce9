-- The statements of `specs/Statements.antt` hold.
-- Assumes nothing.
use mathlib.Core.Path.{◌≡◌, sym, ap, subst, ◌∙◌}
use Prim.Native.Nat.{ℕ, ◌≤◌}
use native.Mathlib.Omega.{arith}
use Rattle.book.specs.Lent.{Tables}
use Rattle.book.specs.Bounds.{mark}
use Rattle.book.specs.Check.{tables_question}
use Rattle.book.proofs.Questions.{kept_passed}
use Rattle.line_theory.specs.Sets.{View, IsLine, newer_than}
use Rattle.line_theory.specs.Search.{line}
use Rattle.line_theory.specs.OfTables.{view_of}
use Rattle.line_theory.proofs.Accepted.{passed_size, accepted_book}
use Rattle.line_theory.proofs.Line.{line_absent}
use Rattle.line_theory.proofs.Theorems.{line_is_line}
use Rattle.consistency.specs.Set.{chosen}
use Rattle.finder.specs.Line.{checkpoints, no_line, line_found, passed_found}
use Rattle.finder.specs.Statements.{FoundIsLine}
use Rattle.finder.proofs.Sixteen.{chosen_of}

-- the numbers of the line that is found
found_numbers : (t : Tables) → tables_question t ≡ 0 → chosen (line_found t) ≡ line (view_of t)
unfolding line_found
found_numbers t none =
    let v : View = view_of t in
    ap chosen (kept_passed (tables_question t) no_line (checkpoints (line v)) none)
    ∙ chosen_of (line v) (λ j k. line_absent v j (omega (arith, (passed_size t none).1)))

found_passed : (t : Tables) → tables_question t ≡ 0 → passed_found t ≡ newer_than (view_of t) (line (view_of t))
unfolding passed_found
found_passed t none =
    let v : View = view_of t in
    kept_passed (tables_question t) 0 (newer_than v (line v)) none

pub found_is_line : FoundIsLine
found_is_line t accepted =
    let v : View = view_of t in
    let P : (ℕ → ℕ) → Type 0 = λ c. IsLine v c × ((j : ℕ) → t.shape.n ≤ j → c j ≡ 0) × (passed_found t ≡ newer_than v c) in
    subst P (sym (found_numbers t accepted.passed))
    (line_is_line mark v (accepted_book accepted), λ j k. line_absent v j k, found_passed t accepted.passed)
