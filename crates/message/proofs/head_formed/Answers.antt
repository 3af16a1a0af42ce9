-- `head_formed` meets its contract.
use mathlib.Core.Path.{◌≡◌, sym, ◌∙◌}
use mathlib.Core.Logic.{⊎_elim}
use mathlib.Core.Bool.{true}
use borrow.Author.Tests.{eq-eqb, ne_eqb}
use Rattle.book.specs.Names.{is_purpose, is_named}
use Rattle.message.specs.Formed.{is_kind}
use Rattle.message.proofs.Heads.{head_no_kind, head_no_purpose, head_no_sender, is_kind_1, is_kind_2, head_last}
use Rattle.message.proofs.head_formed.Goals as goal
use Rattle.message.proofs.head_formed.Goals.{Joined-else-kind-ne1, Else-not-is_purpose, Else-not-is_named}

pub returns-then-kind-ne2 : goal.returns-then-kind-ne2
returns-then-kind-ne2 c = let a = c.args in
    sym (head_no_kind a.n a.kind a.purpose a.sender c.if-kind-ne1.true c.if-kind-ne2.true)

pub returns-then-not-is_purpose : goal.returns-then-not-is_purpose
returns-then-not-is_purpose c = let a = c.args in
    sym (head_no_purpose a.n a.kind a.purpose a.sender (sym c.is_purpose.ensures ∙ c.if-not-is_purpose.true))

pub returns-then-not-is_named : goal.returns-then-not-is_named
returns-then-not-is_named c = let a = c.args in
    sym (head_no_sender a.n a.kind a.purpose a.sender (sym c.is_named.ensures ∙ c.if-not-is_named.true))

-- a kind
kind : (c : Joined-else-kind-ne1) → is_kind c.args.kind ≡ true
kind c =
    let a = c.args in
    ⊎_elim (λ t. is_kind_2 a.kind t.1) (λ t. is_kind_1 a.kind t) c.else-kind-ne1.either

purpose : (c : Else-not-is_purpose) → is_purpose c.args.purpose ≡ true
purpose c = sym c.is_purpose.ensures ∙ c.if-not-is_purpose.false

sender : (c : Else-not-is_named) → is_named c.args.n c.args.sender ≡ true
sender c = sym c.is_named.ensures ∙ c.if-not-is_named.false

pub returns-then-purpose-ne2 : goal.returns-then-purpose-ne2
returns-then-purpose-ne2 c = let a = c.args in
    rw (
      head_last a.n a.kind a.purpose a.sender (kind (goal.at.returns-then-purpose-ne2 c).Joined-else-kind-ne1) (purpose (goal.at.returns-then-purpose-ne2 c).Else-not-is_purpose) (sender (goal.at.returns-then-purpose-ne2 c).Else-not-is_named),
      ne_eqb a.purpose 2 c.if-purpose-ne2.true,
    )

pub returns-else-purpose-ne2 : goal.returns-else-purpose-ne2
returns-else-purpose-ne2 c = let a = c.args in
    rw (
      head_last a.n a.kind a.purpose a.sender (kind (goal.at.returns-else-purpose-ne2 c).Joined-else-kind-ne1) (purpose (goal.at.returns-else-purpose-ne2 c).Else-not-is_purpose) (sender (goal.at.returns-else-purpose-ne2 c).Else-not-is_named),
      eq-eqb a.purpose 2 c.if-purpose-ne2.false,
    )
