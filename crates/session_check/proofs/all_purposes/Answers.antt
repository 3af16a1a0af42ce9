use mathlib.Core.Path.{◌≡◌, sym, ap, ◌∙◌}
use mathlib.Core.List.{List}
use Prim.Native.Nat.{ℕ, ◌<◌}
use borrow.Author.Rules.{rules}
use lib.ListN.{length, get_or}
use Rattle.lists.proofs.Before.{before_none, before_more, all_pass, one_fails}
use Rattle.book.specs.Names.{is_purpose}
use Rattle.participant.specs.declared.Participant.{Participant}
use Rattle.session.specs.Fits.{is_absent}
use Rattle.session_check.specs.Parts.{at}
use Rattle.lists.proofs.Tests.{or_first, or_second, none_or}
use Rattle.session.proofs.Places.{beyond}
use Rattle.session_check.proofs.Naming.{read_at}
use Rattle.session_check.proofs.all_purposes.Goals as goal
use Rattle.session_check.proofs.all_purposes.Goals.{else-not-is_absent-via-then-not-is_absent+else-not-is_purpose, else-not-is_absent-via-else-not-is_absent}

-- the tests of the machine that was read
module _ (participants : List Participant) (k : ℕ) (long : length participants ≡ 16) (h : k < 16) where
  its_empty : is_absent (get_or participants k beyond) ≡ is_absent (at participants k)
  its_empty = ap is_absent (read_at participants k long h)

  its : is_purpose (get_or participants k beyond).purpose ≡ is_purpose (at participants k).purpose
  its = ap (λ (p : Participant). is_purpose p.purpose) (read_at participants k long h)

pub loop-k-init : goal.loop-k-init
loop-k-init c = before_none

pub returns-then-not-is_purpose : goal.returns-then-not-is_purpose
returns-then-not-is_purpose c =
    let a = c.args in
    let k = c.loop-k.k in
    let here = c.loop-k-test.true in
    let long : length a.participants ≡ 16 = search rules in
    one_fails c.loop-k.invariant here
    (none_or (is_absent (at a.participants k)) (is_purpose (at a.participants k).purpose)
    (sym (c.is_absent.ensures ∙ its_empty a.participants k long here) ∙ c.if-not-is_absent.true)
    (sym (c.is_purpose.ensures ∙ its a.participants k long here) ∙ c.if-not-is_purpose.true))

pub loop-k-preserved : goal.loop-k-preserved
loop-k-preserved c =
    let a = c.args in
    let k = c.loop-k.k in
    let here = c.loop-k-test.true in
    let long : length a.participants ≡ 16 = search rules in
    let empty = is_absent (at a.participants k) in
    let purposed = is_purpose (at a.participants k).purpose in
    before_more c.loop-k.invariant here
    (elim c.else-not-is_absent.branch [
      | else-not-is_absent-via-then-not-is_absent+else-not-is_purpose w ↦
          or_second empty purposed (sym (w.is_purpose.ensures ∙ its a.participants k long here) ∙ w.if-not-is_purpose.false)
      | else-not-is_absent-via-else-not-is_absent w ↦
          or_first empty purposed (sym (c.is_absent.ensures ∙ its_empty a.participants k long here) ∙ w.if-not-is_absent.false)
    ])

pub returns : goal.returns
returns c = all_pass c.loop-k.invariant c.loop-k-test.false
