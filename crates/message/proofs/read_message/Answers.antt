-- `read_message` meets its contract.
use mathlib.Core.Path.{sym, subst, ◌∙◌}
use native.Mathlib.Omega.{arith}
use Rattle.message.specs.Parts.{HeadFound}
use Rattle.message.proofs.Messages.{head_sender, no_head, no_pairs, no_invited, read_whole}
use Rattle.message.proofs.read_message.Goals as goal
use Rattle.message.proofs.read_message.Goals.{In_ok-head}
use Rattle.std.specs.Prelude.{Some}

pub returns-in_err-head : goal.returns-in_err-head
returns-in_err-head c = let a = c.args in
    c.from_residual.ensures ∙ no_head a.n a.me.0 a.initiator.0 a.s.now (subst (HeadFound a.n a.s.now) c.in_err-head.was c.read_head.ensures)

found : (c : In_ok-head) → HeadFound c.args.n c.args.s.now (Some (c.in_ok-head.head, c.in_ok-head.at))
found c = let a = c.args in subst (HeadFound a.n a.s.now) c.in_ok-head.was c.read_head.ensures

pub returns-in_err-news : goal.returns-in_err-news
returns-in_err-news c = let a = c.args in
    c.from_residual-in_err-news.ensures ∙ no_pairs a.n a.me.0 a.initiator.0 a.s.now _ _ (found (goal.at.returns-in_err-news c).In_ok-head) _ c.participant_end-end.ensures
    c.read_pairs.ensures c.in_err-news.was

pub invitation_formed-requires : goal.invitation_formed-requires
invitation_formed-requires c =
    let named = head_sender c.args.n _ _ _ (found (goal.at.invitation_formed-requires c).In_ok-head).1 in
    (named.0, omega arith)

pub returns-then-not-invitation_formed : goal.returns-then-not-invitation_formed
returns-then-not-invitation_formed c = let a = c.args in
    no_invited a.n a.me.0 a.initiator.0 a.s.now _ _ (found (goal.at.returns-then-not-invitation_formed c).In_ok-head) _ c.participant_end-end.ensures
    c.read_pairs.ensures c.in_ok-news.was (sym c.invitation_formed.ensures ∙ c.if-not-invitation_formed.true)

pub returns : goal.returns
returns c = let a = c.args in
    read_whole a.n a.me.0 a.initiator.0 a.s.now _ _ (found (goal.at.returns c).In_ok-head) _ c.participant_end-end.ensures
    c.read_pairs.ensures c.in_ok-news.was (sym c.invitation_formed.ensures ∙ c.if-not-invitation_formed.false)
