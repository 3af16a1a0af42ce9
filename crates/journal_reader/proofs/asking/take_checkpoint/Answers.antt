-- `take_checkpoint` meets its contract: the process is named, so that its count has its place.
use mathlib.Core.Path.{◌≡◌, refl, sym, ◌∙◌}
use Prim.Native.Nat.{◌-◌}
use native.Mathlib.Omega.{arith}
use Rattle.book.specs.declared.Question.TheVariants.{Checkpoints, Named}
use Rattle.book.proofs.Names.{named_in}
use Rattle.book.proofs.Refusals.{refuses, accepts}
use Rattle.journal_reader.specs.Asking.{checkpoint_event_question}
use Rattle.journal_reader.proofs.Taken.{checkpoint_unnamed, checkpoint_many, checkpoint_few}
use Rattle.journal_reader.proofs.asking.take_checkpoint.Goals as goal

pub returns-then-not-is_named : goal.returns-then-not-is_named
returns-then-not-is_named c =
    let a = c.args in
    let asked : 10 ≡ checkpoint_event_question a.n a.process.0 a.total
    = checkpoint_unnamed a.n a.process.0 a.total (sym c.is_named.ensures ∙ c.if-not-is_named.true) in
    record { asked = refuses Named tt (sym asked); taken = λ z. absurd (omega arith) }

pub returns-then-total-ge-MOST_CHECKPOINTS : goal.returns-then-total-ge-MOST_CHECKPOINTS
returns-then-total-ge-MOST_CHECKPOINTS c =
    let a = c.args in
    let asked : 5 ≡ checkpoint_event_question a.n a.process.0 a.total
    = checkpoint_many a.n a.process.0 a.total (sym c.is_named.ensures ∙ c.if-not-is_named.false) c.if-total-ge-MOST_CHECKPOINTS.true in
    record { asked = refuses Checkpoints tt (sym asked); taken = λ z. absurd (omega arith) }

pub overflow_sub-j : goal.overflow_sub-j
overflow_sub-j c =
    let a = c.args in
    let place = named_in a.n a.process.0 (sym c.is_named.ensures ∙ c.if-not-is_named.false) in
    omega arith

pub offset_bounds-counts-j : goal.offset_bounds-counts-j
offset_bounds-counts-j c =
    let a = c.args in
    let place = named_in a.n a.process.0 (sym c.is_named.ensures ∙ c.if-not-is_named.false) in
    omega arith

pub bounds-counts-j : goal.bounds-counts-j
bounds-counts-j c =
    let a = c.args in
    let place = named_in a.n a.process.0 (sym c.is_named.ensures ∙ c.if-not-is_named.false) in
    omega arith

pub overflow_add-counts : goal.overflow_add-counts
overflow_add-counts c =
    let a = c.args in
    let place = named_in a.n a.process.0 (sym c.is_named.ensures ∙ c.if-not-is_named.false) in
    omega (arith, c.requires.1.room (a.process.0 - 1) (omega arith))

pub bounds-counts-j-2 : goal.bounds-counts-j-2
bounds-counts-j-2 c =
    let a = c.args in
    let place = named_in a.n a.process.0 (sym c.is_named.ensures ∙ c.if-not-is_named.false) in
    omega arith

pub returns : goal.returns
returns c =
    let a = c.args in
    record {
      asked =
          accepts (sym (checkpoint_few a.n a.process.0 a.total (sym c.is_named.ensures ∙ c.if-not-is_named.false)
          c.if-total-ge-MOST_CHECKPOINTS.false)) refl;
      taken = λ z. refl;
    }
