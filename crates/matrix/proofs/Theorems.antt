-- The statements of `specs/Statements.antt` hold.
-- Assumes nothing.
use mathlib.Core.Path.{◌≡◌, refl, sym, ap, subst, ◌∙◌}
use mathlib.Core.Bool.{Bool, true}
use mathlib.Core.List.{List}
use Prim.Native.Nat.{ℕ, ◌≤◌, ◌<◌}
use borrow.Author.Tests.{eqb-true, eq-eqb, ne_eqb}
use lib.Dec.{eqb}
use Rattle.book.specs.declared.Count.{Count}
use Rattle.lists.proofs.Over.{all_in, all_out}
use Rattle.consistency.specs.Known.{counters}
use Rattle.lists.specs.Pick.{pick}
use Rattle.matrix.specs.Matrix.{entry, with_row}
use Rattle.matrix.specs.Entries.{differing, changed, diff, patch, same, all_lower}
use Rattle.matrix.specs.Statements.{EntriesOfFunction, RowWithRow, OtherRows, ColumnWithRow, Fallen, PatchDiff, DiffLower, DiffNone, PatchNotRaised, SameIsSame}
use Rattle.matrix.proofs.Rows.{row_is, row_length, counter_of_row, entry_of_matrix}
use Rattle.matrix.proofs.News.{lower, differing_same, differing_none, differing_lower, changed_differing, changed_lower}

pub entries_of_function : EntriesOfFunction
entries_of_function = (entry_of_matrix, counter_of_row)

-- ---- another row

pub entry_with_row : (matrix entries : List Count) (j i p : ℕ) → i < 16 → p < 16
    → entry (with_row matrix j entries) i p ≡ pick (eqb i j) (counters entries p) (entry matrix i p)
entry_with_row matrix entries j i p h m =
    entry_of_matrix (λ k q. pick (eqb k j) (counters entries q) (entry matrix k q)) i p h m

pub row_with_row : RowWithRow
row_with_row matrix entries j p h m =
    counter_of_row (λ q. entry (with_row matrix j entries) j q) p m
    ∙ (entry_with_row matrix entries j j p h m ∙ ap (λ (t : Bool). pick t (counters entries p) (entry matrix j p)) (eq-eqb j j refl))

pub other_rows : OtherRows
other_rows matrix entries j i p h m ne =
    counter_of_row (λ q. entry (with_row matrix j entries) i q) p m
    ∙ (entry_with_row matrix entries j i p h m
    ∙ (ap (λ (t : Bool). pick t (counters entries p) (entry matrix i p)) (ne_eqb i j ne) ∙ sym (counter_of_row (λ q. entry matrix i q) p m)))

pub column_with_row : ColumnWithRow
column_with_row matrix entries j i p h m =
    counter_of_row (λ k. entry (with_row matrix j entries) k p) i h
    ∙ (entry_with_row matrix entries j i p h m
    ∙ ap (λ (v : ℕ). pick (eqb i j) (counters entries p) v) (sym (counter_of_row (λ k. entry matrix k p) i h)))

-- ---- news

pub diff_at : (now' held : List Count) (p : ℕ) → p < 16 → counters (diff now' held) p ≡ differing (counters now' p) (counters held p)
diff_at now' held p h = counter_of_row (λ q. differing (counters now' q) (counters held q)) p h

pub patch_at : (held news : List Count) (p : ℕ) → p < 16 → counters (patch held news) p ≡ changed (counters held p) (counters news p)
patch_at held news p h = counter_of_row (λ q. changed (counters held q) (counters news q)) p h

pub patch_diff_at : (now' held : List Count) → Fallen now' held → (p : ℕ) → p < 16 → counters (patch held (diff now' held)) p ≡ counters now' p
patch_diff_at now' held fallen p h =
    patch_at held (diff now' held) p h
    ∙ (ap (changed (counters held p)) (diff_at now' held p h)
    ∙ changed_differing (counters now' p) (counters held p) (fallen p h).0 (fallen p h).1)

pub patch_diff : PatchDiff
patch_diff now' held fallen =
    row_is (counters now') (patch held (diff now' held)) (row_length (λ p. changed (counters held p) (counters (diff now' held) p)))
    (patch_diff_at now' held fallen)

pub diff_lower : DiffLower
unfolding all_lower
diff_lower now' held fallen =
    all_out 16 (λ p. lower (counters (diff now' held) p) (counters held p))
    (λ p h.
    subst (λ (v : ℕ). lower v (counters held p) ≡ true) (sym (diff_at now' held p h))
    (differing_lower (counters now' p) (counters held p) (fallen p h).0 (fallen p h).1))

pub same_is_same : SameIsSame
unfolding same
same_is_same a b =
    let f : ℕ → Bool = λ p. eqb (counters a p) (counters b p) in (
      λ e p h. eqb-true (counters a p) (counters b p) (all_in 16 f e p h),
      λ at. all_out 16 f (λ p h. eq-eqb (counters a p) (counters b p) (at p h)),
    )

pub diff_none : DiffNone
diff_none now' held fallen = (
  λ e p h. diff_at now' held p h ∙ differing_same (counters now' p) (counters held p) ((same_is_same now' held).0 e p h),
  λ at. (same_is_same now' held).1
      (λ p h.
      differing_none (counters now' p) (counters held p) (fallen p h).0 (fallen p h).1 (sym (diff_at now' held p h) ∙ at p h)),
)

pub patch_not_raised : PatchNotRaised
unfolding all_lower
patch_not_raised held news all p h =
    subst (λ (v : ℕ). v ≤ counters held p) (sym (patch_at held news p h))
    (changed_lower (counters held p) (counters news p) (all_in 16 (λ q. lower (counters news q) (counters held q)) all p h))
