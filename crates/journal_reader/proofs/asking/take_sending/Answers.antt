-- `take_sending` meets its contract: both are named, so that the channel has its place.
use mathlib.Core.Path.{◌≡◌, refl, sym, ap, ◌∙◌}
use Prim.Native.Nat.{ℕ}
use native.Mathlib.Omega.{arith}
use Rattle.book.specs.declared.Question.TheVariants.{Named}
use Rattle.book.specs.InTurn.{ask}
use Rattle.book.proofs.Questions.{ask_yes, ask_no}
use Rattle.book.proofs.Refusals.{refuses, accepts}
use Rattle.journal_reader.specs.Asking.{are_named, raised}
use Rattle.journal_reader.proofs.Taken.{named_places}
use Rattle.journal_reader.proofs.asking.take_sending.Goals as goal

pub returns-then-not-are_named : goal.returns-then-not-are_named
returns-then-not-are_named c =
    let a = c.args in
    let asked : ask 10 (are_named a.n a.process.0 a.partner.0) ≡ 10
    = ask_no 10 (are_named a.n a.process.0 a.partner.0) (sym c.are_named.ensures ∙ c.if-not-are_named.true) in
    record { asked = refuses Named tt asked; taken = λ z. absurd (omega arith) }

pub channel-c-requires : goal.channel-c-requires
channel-c-requires c =
    let a = c.args in
    named_places a.n a.process.0 a.partner.0 c.requires.0 (sym c.are_named.ensures ∙ c.if-not-are_named.false)

pub overflow_add-underway : goal.overflow_add-underway
overflow_add-underway c = let channel = c.channel-c in
    omega (arith, c.requires.1.room channel.result channel.ensures.inside)

pub returns : goal.returns
returns c =
    let a = c.args in
    record {
      asked =
          accepts (ask_yes 10 (are_named a.n a.process.0 a.partner.0) (sym c.are_named.ensures ∙ c.if-not-are_named.false)) refl;
      taken = λ z. ap (λ (i : ℕ). raised i a.underway.now) c.channel-c.ensures.at;
    }
