-- `take_receipt` meets its contract: both are named, so that the channel has its place.
use mathlib.Core.Path.{◌≡◌, refl, sym, ap, ◌∙◌}
use Prim.Native.Nat.{ℕ}
use native.Mathlib.Omega.{arith}
use borrow.Author.Rules.{rules}
use Rattle.book.specs.declared.Question.TheVariants.{Named, Underway}
use Rattle.book.proofs.Refusals.{refuses, accepts}
use Rattle.journal_reader.specs.Asking.{lowered, receipt_question}
use Rattle.journal_reader.proofs.Taken.{named_places, receipt_unnamed, receipt_none, receipt_some}
use Rattle.journal_reader.proofs.asking.take_receipt.Goals as goal

pub returns-then-not-are_named : goal.returns-then-not-are_named
returns-then-not-are_named c =
    let a = c.args in
    let asked : 10 ≡ receipt_question a.n a.process.0 a.partner.0 a.underway.now
    = receipt_unnamed a.n a.process.0 a.partner.0 a.underway.now (sym c.are_named.ensures ∙ c.if-not-are_named.true) in
    record { asked = refuses Named tt (sym asked); taken = λ z. absurd (omega arith) }

pub channel-c-requires : goal.channel-c-requires
channel-c-requires c =
    let a = c.args in
    let is = named_places a.n a.process.0 a.partner.0 c.requires.0 (sym c.are_named.ensures ∙ c.if-not-are_named.false) in
    search rules

pub returns-then-underway-c-eq0 : goal.returns-then-underway-c-eq0
returns-then-underway-c-eq0 c =
    let a = c.args in
    let asked : 20 ≡ receipt_question a.n a.process.0 a.partner.0 a.underway.now
    = receipt_none a.n a.process.0 a.partner.0 a.underway.now
    (sym c.are_named.ensures ∙ c.if-not-are_named.false) c.channel-c.result c.channel-c.ensures.at
    c.if-underway-c-eq0.true in
    record { asked = refuses Underway tt (sym asked); taken = λ z. absurd (omega arith) }

pub returns : goal.returns
returns c =
    let a = c.args in
    record {
      asked =
          accepts (sym (receipt_some a.n a.process.0 a.partner.0 a.underway.now
          (sym c.are_named.ensures ∙ c.if-not-are_named.false) c.channel-c.result c.channel-c.ensures.at
          c.if-underway-c-eq0.false)) refl;
      taken = λ z. ap (λ (i : ℕ). lowered i a.underway.now) c.channel-c.ensures.at;
    }
