-- The place of an absent process: what each test leaves to the later ones.
use mathlib.Core.Path.{◌≡◌, refl, sym, ap, ◌∙◌}
use mathlib.Core.Bool.{Bool, true, false, ◌&&◌, and-false}
use mathlib.Core.List.{List}
use Prim.Native.Nat.{ℕ}
use borrow.Author.Tests.{eq-eqb, ne_eqb}
use lib.ListN.{replicate}
use lib.Dec.{eqb}
use Rattle.book.specs.declared.Count.{Count}
use Rattle.lists.specs.Over.{tab_from}
use Rattle.matrix.specs.Matrix.{as_row}
use Rattle.matrix.specs.Entries.{same}
use Rattle.lists.proofs.Tests.{and_first, and_rest}
use Rattle.participant.specs.declared.Participant.{Participant}
use Rattle.session.specs.Fits.{is_before, is_absent}

-- a row of zeros as the code writes it
pub zero_row : replicate {A = Count} 16 (record { 0 = 0 }) ≡ as_row (λ q. 0)
unfolding as_row tab_from
zero_row = refl

pub zero_same : (row none : List Count) → none ≡ as_row (λ q. 0) → same row none ≡ same row (as_row (λ q. 0))
zero_same row none e = ap (same row) e

-- a test that is put only where the ones before it passed
pub past_yes : {before test v : Bool} → before ≡ true → v ≡ test → v ≡ (before && test)
past_yes {before} {test} h is = is ∙ sym (and_rest before test h)

pub past_no : {before v : Bool} (test : Bool) → before ≡ false → v ≡ before → v ≡ (before && test)
past_no {before} test h is = is ∙ h ∙ sym (and_first before test h)

regroup : (a b d e f g h i : Bool) → (((((((a && b) && d) && e) && f) && g) && h) && i) ≡ (a && (b && (d && (e && (f && (g && (h && i)))))))
regroup true true true true true true true i = refl
regroup true true true true true true false i = refl
regroup true true true true true false h i = refl
regroup true true true true false g h i = refl
regroup true true true false f g h i = refl
regroup true true false e f g h i = refl
regroup true false d e f g h i = refl
regroup false b d e f g h i = refl

-- the tests one after another
module _
    (p : Participant)
    {v0 v1 v2 v3 v4 v5 : Bool}
    (e0 : v0 ≡ (eqb p.n 0 && eqb p.me.0 0))
    (e1 : v1 ≡ (v0 && eqb p.initiator.0 0))
    (e2 : v2 ≡ (v1 && eqb p.purpose 0))
    (e3 : v3 ≡ (v2 && is_before p.stage))
    (e4 : v4 ≡ (v3 && eqb p.candidate.0 0))
    (e5 : v5 ≡ (v4 && same p.row (as_row (λ q. 0))))
  where
    pub absent_is : (v5 && same p.column (as_row (λ q. 0))) ≡ is_absent p
    unfolding is_absent
    absent_is =
        rw (e5, e4, e3, e2, e1, e0)
        (regroup (eqb p.n 0) (eqb p.me.0 0) (eqb p.initiator.0 0) (eqb p.purpose 0) (is_before p.stage) (eqb p.candidate.0 0)
        (same p.row (as_row (λ q. 0))) (same p.column (as_row (λ q. 0))))

-- ---- with its strand

module _ (p : Participant) (waits : ℕ) where
  pub something_waits : (waits ≡ 0 → ⊥) → false ≡ (is_absent p && eqb waits 0)
  something_waits h = rw (ne_eqb waits 0 h) (sym (and-false (is_absent p)))

  pub not_absent : is_absent p ≡ false → false ≡ (is_absent p && eqb waits 0)
  not_absent h = rw h

  pub nothing_there : is_absent p ≡ true → waits ≡ 0 → true ≡ (is_absent p && eqb waits 0)
  nothing_there h z = rw (h, eq-eqb waits 0 z)
