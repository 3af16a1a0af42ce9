use mathlib.Core.Path.{◌≡◌, sym, ap, ◌∙◌}
use mathlib.Core.List.{List}
use Prim.Native.Nat.{ℕ, ◌<◌}
use borrow.Author.Rules.{rules}
use lib.ListN.{length, get_or}
use Rattle.lists.proofs.Before.{before_none, before_more, all_pass, one_fails}
use Rattle.machine.specs.Named.{participant_named}
use Rattle.participant.specs.declared.Participant.{Participant}
use Rattle.session.specs.Fits.{is_absent}
use Rattle.session_check.specs.Parts.{at}
use Rattle.lists.proofs.Tests.{or_first, or_second, none_or}
use Rattle.session.proofs.Places.{beyond}
use Rattle.session_check.proofs.Naming.{read_at}
use Rattle.session_check.proofs.all_named.Goals as goal
use Rattle.session_check.proofs.all_named.Goals.{else-not-is_absent-via-then-not-is_absent+else-not-participant_named, else-not-is_absent-via-else-not-is_absent}

-- the tests of the machine that was read
module _ (n : ℕ) (participants : List Participant) (k : ℕ) (long : length participants ≡ 16) (h : k < 16) where
  its_empty : is_absent (get_or participants k beyond) ≡ is_absent (at participants k)
  its_empty = ap is_absent (read_at participants k long h)

  its : participant_named n (get_or participants k beyond).me.0 (get_or participants k beyond).initiator.0
      ≡ participant_named n (at participants k).me.0 (at participants k).initiator.0
  its = ap (λ (p : Participant). participant_named n p.me.0 p.initiator.0) (read_at participants k long h)

pub loop-k-init : goal.loop-k-init
loop-k-init c = before_none

pub returns-then-not-participant_named : goal.returns-then-not-participant_named
returns-then-not-participant_named c =
    let a = c.args in
    let k = c.loop-k.k in
    let here = c.loop-k-test.true in
    let long : length a.participants ≡ 16 = search rules in
    one_fails c.loop-k.invariant here
    (none_or (is_absent (at a.participants k)) (participant_named a.n (at a.participants k).me.0 (at a.participants k).initiator.0)
    (sym (c.is_absent.ensures ∙ its_empty a.n a.participants k long here) ∙ c.if-not-is_absent.true)
    (sym (c.participant_named.ensures ∙ its a.n a.participants k long here) ∙ c.if-not-participant_named.true))

pub loop-k-preserved : goal.loop-k-preserved
loop-k-preserved c =
    let a = c.args in
    let k = c.loop-k.k in
    let here = c.loop-k-test.true in
    let long : length a.participants ≡ 16 = search rules in
    let empty = is_absent (at a.participants k) in
    let named = participant_named a.n (at a.participants k).me.0 (at a.participants k).initiator.0 in
    before_more c.loop-k.invariant here
    (elim c.else-not-is_absent.branch [
      | else-not-is_absent-via-then-not-is_absent+else-not-participant_named w ↦
          or_second empty named (sym (w.participant_named.ensures ∙ its a.n a.participants k long here) ∙ w.if-not-participant_named.false)
      | else-not-is_absent-via-else-not-is_absent w ↦
          or_first empty named (sym (c.is_absent.ensures ∙ its_empty a.n a.participants k long here) ∙ w.if-not-is_absent.false)
    ])

pub returns : goal.returns
returns c = all_pass c.loop-k.invariant c.loop-k-test.false
