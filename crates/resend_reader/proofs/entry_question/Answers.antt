-- `entry_question` meets its contract.
use mathlib.Core.Path.{refl, sym}
use Rattle.book.specs.declared.Question.TheVariants.{Named, ListFormed}
use Rattle.book.proofs.Refusals.{refuses, accepts}
use Rattle.resend_reader.proofs.Formed.{sender_not_named, receiver_not_named, not_formed, entry_passes}
use Rattle.std.proofs.Common.{◌∙◌}
use Rattle.resend_reader.proofs.entry_question.Goals as goal

pub returns-then-not-is_named : goal.returns-then-not-is_named
returns-then-not-is_named c = let a = c.args in
    refuses Named tt
    (sender_not_named a.n a.s a.r a.entry.sender a.entry.receiver a.entry.first a.entry.last
    ((sym c.is_named.ensures ∙ c.if-not-is_named.true)))

pub returns-then-not-is_named-2 : goal.returns-then-not-is_named-2
returns-then-not-is_named-2 c = let a = c.args in
    refuses Named tt
    (receiver_not_named a.n a.s a.r a.entry.sender a.entry.receiver a.entry.first a.entry.last
    ((sym c.is_named-2.ensures ∙ c.if-not-is_named-2.true)))

pub returns-then-not-entry_formed : goal.returns-then-not-entry_formed
returns-then-not-entry_formed c = let a = c.args in
    refuses ListFormed tt
    (not_formed a.n a.s a.r a.entry.sender a.entry.receiver a.entry.first a.entry.last
    ((sym c.is_named.ensures ∙ c.if-not-is_named.false))
    ((sym c.is_named-2.ensures ∙ c.if-not-is_named-2.false))
    ((sym c.entry_formed.ensures ∙ c.if-not-entry_formed.true)))

pub returns : goal.returns
returns c = let a = c.args in
    accepts
    (entry_passes a.n a.s a.r a.entry.sender a.entry.receiver a.entry.first a.entry.last
    ((sym c.is_named.ensures ∙ c.if-not-is_named.false))
    ((sym c.is_named-2.ensures ∙ c.if-not-is_named-2.false))
    ((sym c.entry_formed.ensures ∙ c.if-not-entry_formed.false)))
    refl
