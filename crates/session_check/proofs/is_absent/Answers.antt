-- `is_absent` meets its contract.
use mathlib.Core.Path.{◌≡◌, refl, ◌∙◌}
use mathlib.Core.Bool.{◌&&◌}
use mathlib.Core.List.{List}
use borrow.Author.Rules.{rules}
use lib.ListN.{length, replicate}
use Rattle.book.specs.declared.Count.{Count}
use borrow.Author.Tests.{eq-eqb, ne_eqb}
use lib.Dec.{eqb}
use Rattle.matrix.specs.Matrix.{as_row}
use Rattle.matrix.specs.Entries.{same}
use Rattle.matrix.proofs.Equal.{rows_same}
use Rattle.session.specs.Fits.{is_before, is_absent}
use Rattle.session_check.proofs.Variants.{before_is}
use Rattle.session_check.proofs.Absent.{zero_row, zero_same, past_yes, past_no, absent_is}
use Rattle.session_check.proofs.is_absent.Goals as goal
use Rattle.session_check.proofs.is_absent.Goals.{Joined-eq-4, then-p-eq0, else-p-eq0, then-eq, else-eq, then-eq-2, else-eq-2, then-p-eq0-2, else-p-eq0-2, then-eq-3, else-eq-3, then-eq-4, else-eq-4}

-- a row of zeros as the code writes it
abbrev zeros : List Count
zeros = replicate {A = Count} 16 (record { 0 = 0 })

zeros_long : length zeros ≡ 16
zeros_long = refl

-- the tests before the last, and it
tested : (c : Joined-eq-4) → (c.if-eq-4.value && same c.args.p.column (as_row (λ q. 0))) ≡ is_absent c.args.p
tested c =
    let p = c.args.p in
    let row = zero_same p.row _ zero_row in
    let long : length p.row ≡ 16 = search rules in
    let e0 : c.if-p-eq0.value ≡ (eqb p.n 0 && eqb p.me.0 0) = elim c.if-p-eq0.branch [
      | then-p-eq0 w ↦ past_yes (eq-eqb p.n 0 w.if-p-eq0.true) (w.value-is ∙ w.eq.ensures)
      | else-p-eq0 w ↦ past_no _ (ne_eqb p.n 0 w.if-p-eq0.false) w.value-is
    ] in
    let e1 : c.if-eq.value ≡ (c.if-p-eq0.value && eqb p.initiator.0 0) = elim c.if-eq.branch [
      | then-eq w ↦ past_yes w.if-eq.true (w.value-is ∙ w.eq-then-eq.ensures)
      | else-eq w ↦ past_no _ w.if-eq.false w.value-is
    ] in
    let e2 : c.if-eq-2.value ≡ (c.if-eq.value && eqb p.purpose 0) = elim c.if-eq-2.branch [
      | then-eq-2 w ↦ past_yes w.if-eq-2.true w.value-is
      | else-eq-2 w ↦ past_no _ w.if-eq-2.false w.value-is
    ] in
    let e3 : c.if-p-eq0-2.value ≡ (c.if-eq-2.value && is_before p.stage) = elim c.if-p-eq0-2.branch [
      | then-p-eq0-2 w ↦ past_yes w.if-p-eq0-2.true (w.value-is ∙ (w.eq-then-p-eq0-2.ensures ∙ before_is p.stage))
      | else-p-eq0-2 w ↦ past_no _ w.if-p-eq0-2.false w.value-is
    ] in
    let e4 : c.if-eq-3.value ≡ (c.if-p-eq0-2.value && eqb p.candidate.0 0) = elim c.if-eq-3.branch [
      | then-eq-3 w ↦ past_yes w.if-eq-3.true (w.value-is ∙ w.eq-then-eq-3.ensures)
      | else-eq-3 w ↦ past_no _ w.if-eq-3.false w.value-is
    ] in
    let e5 : c.if-eq-4.value ≡ (c.if-eq-3.value && same p.row (as_row (λ q. 0))) = elim c.if-eq-4.branch [
      | then-eq-4 w ↦ past_yes w.if-eq-4.true (w.value-is ∙ (rows_same p.row zeros _ long zeros_long w.eq-then-eq-4.ensures ∙ row))
      | else-eq-4 w ↦ past_no _ w.if-eq-4.false w.value-is
    ] in
    absent_is p e0 e1 e2 e3 e4 e5

pub returns-then-eq-5 : goal.returns-then-eq-5
returns-then-eq-5 c =
    let long : length c.args.p.column ≡ 16 = search rules in
    past_yes c.if-eq-5.true (rows_same c.args.p.column zeros _ long zeros_long c.eq-then-eq-5.ensures ∙ zero_same c.args.p.column _ zero_row)
    ∙ tested (goal.at.returns-then-eq-5 c).Joined-eq-4

pub returns-else-eq-5 : goal.returns-else-eq-5
returns-else-eq-5 c = past_no _ c.if-eq-5.false refl ∙ tested (goal.at.returns-else-eq-5 c).Joined-eq-4
