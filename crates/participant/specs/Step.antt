-- Document 01, "A search", and K 5.3: a participant's step, on its state and a message as data.
use Rattle.std.specs.Prelude.{Bool, false, ◌&&◌, List, ℕ, ◌-◌, eqb}
use Rattle.book.specs.declared.Process.{Process}
use Rattle.book.specs.declared.Count.{Count}
use Rattle.lists.specs.Pick.{pick}
use Rattle.matrix.specs.Matrix.{not_known_row}
use Rattle.matrix.specs.Entries.{diff, patch}
use Rattle.message.specs.declared.Message.{Message}
use Rattle.machine.specs.Own.{Own, sent_row, newest_permitted}
use Rattle.machine.specs.Sends.{other_head, nothing, only_to, is_termination}
use Rattle.participant.specs.declared.Participant.{Participant}
use Rattle.participant.specs.declared.ParticipantStep.{ParticipantStep}
use Rattle.participant.specs.declared.Stage.{Stage}
use Rattle.participant.specs.declared.Stage.TheVariants.{Before, Searching, Ended}

-- "Every state names its process, the initiator and the purpose from the start." "Each process begins at its newest
-- checkpoint." Before the invitation nothing is known. Of n processes, `newest` being its newest checkpoint:
abbrev pub first_of : ℕ → ℕ → Process → Process → ℕ → Participant
first_of n newest me initiator purpose =
    record {
      n = n;
      me = me;
      initiator = initiator;
      purpose = purpose;
      stage = Before;
      candidate = record { 0 = newest };
      row = not_known_row n (me.0 - 1);
      column = not_known_row n (me.0 - 1);
    }

abbrev pub first : Own → Process → Process → ℕ → Participant
first own me initiator purpose = first_of own.n own.count me initiator purpose

-- question 15: "Is it awaited here: right sender, purpose, kind": the invitation first, then other messages, and nothing
-- once it has ended
abbrev pub kind_awaited : Stage → ℕ → Bool
kind_awaited Before kind = eqb kind 1
kind_awaited Searching kind = eqb kind 2
kind_awaited Ended kind = false

unfoldable pub awaits : Participant → Message → Bool
awaits state m =
    eqb m.head.sender.0 state.initiator.0
    && (eqb m.head.purpose state.purpose && kind_awaited state.stage m.head.kind)

-- further on in the same search: n, the names and the purpose stay
abbrev pub onward : Participant → (stage : Stage) (candidate : ℕ) (row column : List Count) → Participant
onward state stage candidate row column =
    record {
      n = state.n;
      me = state.me;
      initiator = state.initiator;
      purpose = state.purpose;
      stage = stage;
      candidate = record { 0 = candidate };
      row = row;
      column = column;
    }

-- "with 2 the invitation itself ends each participant on checkpoint 1" (K 5.3, step 2)
unfoldable pub end_on_oldest : Participant → Participant
end_on_oldest state = onward state Ended 1 state.row state.column

-- "A participant has ended once a termination was delivered to it": it stays on its candidate (K 5.3, step 6).
unfoldable pub end : Participant → Participant
end state = onward state Ended state.candidate.0 state.row state.column

-- "A participant takes its newest checkpoint whose received counters are at most the known sent counters": the message's
-- counters are known from now on (K 5.3, steps 1 and 6), then the candidate follows, and its row is what is reported (step 5).
unfoldable pub step_back : Own → Participant → Message → Participant
step_back own state m =
    let known = patch state.column m.news in
    let r : ℕ = newest_permitted own known in
    onward state Searching r (sent_row own r) known

-- "It reports each sent counter that differs from what it last reported", to the initiator.
unfoldable pub report_of : Participant → Participant → ParticipantStep
report_of before after =
    record {
      state = after;
      outgoing =
          only_to (other_head before.purpose before.me) (before.initiator.0 - 1) (diff after.row before.row);
    }

-- it ends, and sends nothing
abbrev pub silent : Participant → ParticipantStep
silent state = record { state = state; outgoing = nothing (other_head state.purpose state.me) }

-- What a participant does with a message that it awaits (K 5.3): the invitation of purpose 2 ends it, and so does a
-- termination; any other message makes it step back and report.
unfoldable pub step : Own → Participant → Message → ParticipantStep
step own state m =
    pick (eqb m.head.purpose 2) (silent (end_on_oldest state))
    (pick (is_termination m) (silent (end state))
    (report_of state (step_back own state m)))
