-- The line checkpoints of accepted tables.
use mathlib.Core.Path.{◌≡◌, sym, ap, ◌∙◌}
use mathlib.Core.Bool.{Bool, true, false}
use mathlib.Core.List.{List}
use Prim.Native.Nat.{ℕ, ◌≤◌, ◌<◌}
use Rattle.book.specs.declared.Checkpoint.{Checkpoint}
use Rattle.book.specs.View.{count}
use Rattle.book.specs.Lent.{Tables}
use Rattle.book.specs.Check.{tables_question}
use Rattle.book.specs.Accepted.{AreAccepted}
use Rattle.book.proofs.Questions.{kept_passed}
use Rattle.line_theory.specs.Sets.{View, cut}
use Rattle.line_theory.specs.Search.{line}
use Rattle.line_theory.specs.OfTables.{view_of}
use Rattle.line_theory.proofs.Accepted.{accepted_size, accepted_book}
use Rattle.line_theory.proofs.Line.{line_absent}
use Rattle.consistency.specs.Set.{chosen}
use Rattle.consistency.specs.Given.{AllNamed}
use Rattle.lists.specs.Pick.{pick}
use Rattle.finder.specs.declared.Line.{Line}
use Rattle.finder.specs.Line.{checkpoints, no_line, line_found, IsLineOf}
use Rattle.finder.proofs.Calls.{line_found_lem}
use Rattle.restart.specs.Plan.{advances, line_checkpoint}
use Rattle.restart.specs.Values.{present}
use Rattle.restart.proofs.Values.{checkpoint_at, present_all}
use Rattle.restart.proofs.Plans.{line_is_set}

-- ---- the line checkpoints

-- as sixteen
abbrev pub line_of : View → ℕ → List Checkpoint
line_of v purpose = checkpoints (present v.n (line_checkpoint v purpose))

-- checkpoint 1 stays the oldest, or the line becomes it
pub line_stays : (v : View) (purpose : ℕ) → advances purpose ≡ false → checkpoints (present v.n (λ _. 1)) ≡ line_of v purpose
line_stays v purpose e = ap (λ (b : Bool). checkpoints (present v.n (λ j. pick b (line v j) 1))) (sym e)

line_advances : (v : View) (purpose : ℕ) → advances purpose ≡ true → checkpoints (line v) ≡ line_of v purpose
line_advances v purpose e =
    ap checkpoints (sym (present_all v.n (line v) (line_absent v)))
    ∙ ap (λ (b : Bool). checkpoints (present v.n (λ j. pick b (line v j) 1))) (sym e)

module _ {t : Tables} (a : AreAccepted t) where
  pub few_processes : t.shape.n ≤ 16
  few_processes = (accepted_size a).1

  -- they are checkpoints that there are
  pub line_among : (purpose : ℕ) (set : List Checkpoint) → set ≡ line_of (view_of t) purpose → (t.shape.n ≤ 16) × AllNamed t.shape set
  line_among purpose set is = (few_processes, λ j h. at j h)
    where
      v : View
      v = view_of t

      at : (j : ℕ) → j < t.shape.n → (1 ≤ chosen set j) × (chosen set j ≤ count t.shape j)
      at j h =
          let set_is = ap (λ (s : List Checkpoint). chosen s j) is ∙ checkpoint_at t.shape.n few_processes (line_checkpoint v purpose) j h in
          let there = line_is_set v purpose (accepted_book a) in
          rw set_is (there.some j h, there.among j h)

  -- the line that the finder finds from the newest set
  pub line_advanced : (purpose : ℕ) (found : Line) → advances purpose ≡ true
      → IsLineOf (cut (view_of t) (chosen (checkpoints (count t.shape)))) found → found.set ≡ line_of (view_of t) purpose
  unfolding line_found
  line_advanced purpose found e h =
      let v : View = view_of t in
      (line_found_lem a found h).0
      ∙ (kept_passed (tables_question t) no_line (checkpoints (line v)) a.passed ∙ line_advances v purpose e)
