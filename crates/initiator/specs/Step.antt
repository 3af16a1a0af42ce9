-- Document 01, "A search", and K 5.2, steps 4 to 9: the initiator takes a report in, on its state and a message as data.
use Rattle.std.specs.Prelude.{Bool, true, ◌&&◌, ◌||◌, not, List, ℕ, ◌-◌, eqb}
use Rattle.book.specs.declared.Count.{Count}
use Rattle.book.specs.Bounds.{most_processes}
use Rattle.lists.specs.Over.{tab}
use Rattle.lists.specs.Pick.{pick}
use Rattle.matrix.specs.Matrix.{row, column, with_row, not_known_row}
use Rattle.matrix.specs.Entries.{patch, same}
use Rattle.matrix.specs.Whole.{polls}
use Rattle.message.specs.declared.Message.{Message}
use Rattle.mail.specs.declared.Outgoing.{Outgoing}
use Rattle.message.specs.Layout.{pair_count}
use Rattle.machine.specs.Own.{Own, sent_row, newest_permitted}
use Rattle.machine.specs.Named.{is_participant}
use Rattle.machine.specs.Sends.{other_head, no_pairs, nothing}
use Rattle.machine.specs.Flags.{flag, someone, participants}
use Rattle.initiator.specs.declared.Initiator.{Initiator}
use Rattle.initiator.specs.declared.InitiatorStep.{InitiatorStep}
use Rattle.initiator.specs.Begin.{onward, wait}

-- the sender's row, which counts from 0
abbrev pub sender_of : Message → ℕ
sender_of m = m.head.sender.0 - 1

-- "in a first report (the sender's row all 'not known') n − 1 pairs"
abbrev pub whole_if_first : Initiator → Message → Bool
whole_if_first state m =
    not (same (row state.matrix (sender_of m)) (not_known_row state.n (sender_of m)))
    || eqb (pair_count m.news) (state.n - 1)

-- question 15: "Is it awaited here: right sender, purpose, kind", and a whole first report
unfoldable pub awaits : Initiator → Message → Bool
awaits state m =
    not state.ended
    && (flag state.awaited (sender_of m)
    && (eqb m.head.purpose state.purpose && (eqb m.head.kind 2 && whole_if_first state m)))

-- K 5.2, step 5: the report's counters go into the sender's row, and it is awaited no more
unfoldable pub take_report : Initiator → Message → Initiator
take_report state m =
    let j : ℕ = sender_of m in
    onward state state.ended state.candidate.0 state.rounds
    (tab most_processes (λ p. flag state.awaited p && not (eqb p j)))
    (with_row state.matrix j (patch (row state.matrix j) m.news))
    state.copy

-- "When all awaited reports are in, it first steps back itself in the same way." (K 5.2, step 6) The known sent counters are
-- its column, and the new candidate's are its row.
unfoldable pub step_back : Own → Initiator → Initiator
step_back own state =
    let me : ℕ = state.me.0 - 1 in
    let r : ℕ = newest_permitted own (column state.matrix me) in
    onward state state.ended r state.rounds state.awaited (with_row state.matrix me (sent_row own r)) state.copy

-- "each participant whose column differs from the copy"
unfoldable pub polled : Initiator → List Bool
polled state =
    tab most_processes
    (λ p. is_participant state.n (state.me.0 - 1) p && not (same (column state.matrix p) (column state.copy p)))

-- what it sends beside its invitations
abbrev pub sends : Initiator → (to : List Bool) (news : List Count) → Outgoing
sends state to news = record { head = other_head state.purpose state.me; to = to; news = news }

-- "Then it polls each participant whose column differs from the copy, with the differing entries only." (K 5.2, steps 8, 9)
unfoldable pub poll : Initiator → InitiatorStep
poll state =
    record {
      state = wait state (polled state);
      outgoing = sends state (polled state) (polls state.matrix state.copy);
    }

-- "If none differs, it sends every participant a termination", and has ended (K 5.2, step 7)
unfoldable pub terminate : Initiator → InitiatorStep
terminate state =
    record {
      state = onward state true state.candidate.0 state.rounds state.awaited state.matrix state.copy;
      outgoing = sends state (participants state.n (state.me.0 - 1)) no_pairs;
    }

-- K 5.2, steps 7 and 8: it compares with the copy, and polls if some participant's column differs
unfoldable pub compare : Initiator → InitiatorStep
compare state = pick (someone (polled state)) (poll state) (terminate state)

-- reports are still out: it goes on waiting
abbrev pub silent : Initiator → InitiatorStep
silent state = record { state = state; outgoing = nothing (other_head state.purpose state.me) }

-- What the initiator does with a report that it awaits (K 5.2): it takes it in; once it is the last, it steps back itself,
-- and only then compares.
unfoldable pub step : Own → Initiator → Message → InitiatorStep
step own state m =
    let taken = take_report state m in
    pick (someone taken.awaited) (silent taken) (compare (step_back own taken))
