-- The two machines: the values of their arrays and counts stay in range, from the beginning on and with every message taken.
use mathlib.Core.Path.{◌≡◌}
use mathlib.Core.Bool.{Bool, true, ◌&&◌, not}
use mathlib.Core.List.{List}
use Prim.Native.Nat.{ℕ, ◌+◌, ◌*◌, ◌-◌, ◌<◌}
use native.Mathlib.Omega.{arith}
use lib.ListN.{length}
use lib.Dec.{eqb}
use Rattle.lists.proofs.Pick.{pick_each}
use Rattle.book.specs.declared.Count.{Count}
use Rattle.book.specs.declared.Process.{Process}
use Rattle.lists.proofs.Over.{length_tab}
use Rattle.matrix.specs.Matrix.{row, column, with_row, not_known_matrix}
use Rattle.matrix.specs.Entries.{patch, all_lower}
use Rattle.message.specs.declared.Message.{Message}
use Rattle.machine.specs.Own.{Own, has_checkpoint, sent_row, newest_permitted}
use Rattle.machine.specs.Named.{tally_limit}
use Rattle.machine.specs.Flags.{flag, someone, participants}
use Rattle.machine_laws.specs.Own.{IsOwn}
use Rattle.machine_laws.proofs.Checkpoints.{checkpoint_in, checkpoint_out}
use Rattle.machine_laws.proofs.Rows.{row_at}
use Rattle.machine_laws.proofs.Theorems.{newest_exists}
use Rattle.participant.specs.declared.Participant.{Participant}
use Rattle.participant.specs.declared.ParticipantStep.{ParticipantStep}
use Rattle.participant.specs.Step as participant
use Rattle.participant.specs.Calls.{no_participant}
use Rattle.participant_laws.proofs.Steps.{by_step}
use Rattle.initiator.specs.declared.Initiator.{Initiator}
use Rattle.initiator.specs.declared.InitiatorStep.{InitiatorStep}
use Rattle.initiator.specs.Begin.{wait, without_wait, begin_search, begin_restart, begin}
use Rattle.initiator.specs.Step.{sender_of, take_report, step_back, polled, poll, terminate, step}
use Rattle.initiator.specs.Calls.{no_initiator}
use Rattle.initiator_laws.proofs.Stepped.{step_cases}
use Rattle.words.specs.Words.{matrix_length}
use Rattle.word_laws.specs.Values.{AreCounts, IsParticipant, IsInitiator}
use Rattle.demand3_words.proofs.Counters.{unknown_row, unknown_matrix, zero_row, zero_matrix, row_counts, row_put, news_put}

-- ---- a process's own checkpoints: sent counters of a book are below the mark

module _ (own : Own) (j : ℕ) (is : IsOwn own j) where
  sent_counts : (r : ℕ) → has_checkpoint own r ≡ true → AreCounts 16 (sent_row own r)
  sent_counts r there =
      let c = checkpoint_in own r there in
      row_counts (λ p. own.S r p) (λ p h. omega (arith, is.below r p h c.0 c.1))

  permitted_counts : (known : List Count) → AreCounts 16 (sent_row own (newest_permitted own known))
  permitted_counts known = sent_counts (newest_permitted own known) (newest_exists own j known is)

  newest_counts : AreCounts 16 (sent_row own own.count)
  newest_counts = sent_counts own.count (checkpoint_out own own.count is.some (omega arith))

-- ---- a participant

pub first_is : (own : Own) (me initiator : Process) (purpose : ℕ) → IsParticipant (participant.first own me initiator purpose)
first_is own me initiator purpose =
    record { row = unknown_row own.n (me.0 - 1); column = unknown_row own.n (me.0 - 1) }

pub absent_is : IsParticipant no_participant
unfolding no_participant
absent_is = record { row = zero_row; column = zero_row }

pub participant_kept : (own : Own) (j : ℕ) → IsOwn own j → (state : Participant) (m : Message) → IsParticipant state
    → all_lower m.news state.column ≡ true → IsParticipant (participant.step own state m).state
unfolding participant.end_on_oldest participant.end participant.step_back participant.report_of
participant_kept own j is_own state m is lower =
    by_step own state m (λ (s : ParticipantStep). IsParticipant s.state)
    (λ _. record { row = is.row; column = is.column })
    (λ _ _. record { row = is.row; column = is.column })
    (λ _ _. record {
      row = permitted_counts own j is_own (patch state.column m.news);
      column = news_put state.column m.news is.column.low lower;
    })

-- ---- the initiator begins

without_wait_is : (n : ℕ) (me : Process) (purpose candidate : ℕ) (matrix : List Count) → AreCounts matrix_length matrix
    → IsInitiator (without_wait n me purpose candidate matrix)
unfolding without_wait
without_wait_is n me purpose candidate matrix are =
    record { rounds = omega arith; awaited = length_tab 16 _; matrix = are; copy = are }

wait_is : (state : Initiator) (awaited : List Bool) → state.rounds < tally_limit → length awaited ≡ 16
    → AreCounts matrix_length state.matrix → IsInitiator (wait state awaited)
unfolding wait
wait_is state awaited few long are = record { rounds = omega arith; awaited = long; matrix = are; copy = are }

pub nobody_is : IsInitiator no_initiator
unfolding no_initiator
nobody_is = without_wait_is 0 (record { 0 = 0 }) 0 0 _ zero_matrix

pub begin_is : (own : Own) (me : Process) (purpose : ℕ) → IsOwn own (me.0 - 1) → IsInitiator (begin own me purpose).state
unfolding begin begin_search begin_restart participants without_wait
begin_is own me purpose is =
    let n : ℕ = own.n in
    let others : List Bool = participants n (me.0 - 1) in
    let matrix : List Count = with_row (not_known_matrix n) (me.0 - 1) (sent_row own own.count) in
    let start : Initiator = without_wait n me purpose own.count matrix in
    let are : AreCounts matrix_length matrix
    = row_put (not_known_matrix n) (sent_row own own.count) (me.0 - 1) (unknown_matrix n) (newest_counts own (me.0 - 1) is) in
    pick_each (λ (s : InitiatorStep). IsInitiator s.state) (eqb purpose 2) (begin_restart n me purpose) (begin_search own me purpose)
    (without_wait_is n me purpose 1 (not_known_matrix n) (unknown_matrix n))
    (pick_each IsInitiator (someone others) (wait start others) start
    (wait_is start others (omega arith) (length_tab 16 _) are)
    (without_wait_is n me purpose own.count matrix are))

-- ---- it takes a report

module _ (own : Own) (j : ℕ) (is_own : IsOwn own j) (state : Initiator) (m : Message) (is : IsInitiator state)
    (lower : all_lower m.news (row state.matrix (sender_of m)) ≡ true) (there : sender_of m < 16) where
  abbrev taken : Initiator
  taken = take_report state m

  taken_is : IsInitiator taken
  unfolding take_report
  taken_is =
      let from : ℕ = sender_of m in
      let held : List Count = row state.matrix from in
      record {
        rounds = is.rounds;
        awaited = length_tab 16 (λ p. flag state.awaited p && not (eqb p from));
        matrix =
            row_put state.matrix (patch held m.news) from is.matrix
            (news_put held m.news
            (λ p h. omega (arith, row_at state.matrix from p h, is.matrix.low (from * 16 + p) (omega arith))) lower);
        copy = is.copy;
      }

  back_is : IsInitiator (step_back own taken)
  unfolding step_back
  back_is =
      let me : ℕ = taken.me.0 - 1 in
      record {
        rounds = taken_is.rounds;
        awaited = taken_is.awaited;
        matrix =
            row_put taken.matrix (sent_row own (newest_permitted own (column taken.matrix me))) me taken_is.matrix
            (permitted_counts own j is_own (column taken.matrix me));
        copy = taken_is.copy;
      }

  back_few : state.rounds < tally_limit → (step_back own taken).rounds < tally_limit
  unfolding step_back take_report
  back_few few = few

  polled_long : length (polled (step_back own taken)) ≡ 16
  unfolding polled
  polled_long = length_tab 16 _

  pub initiator_kept : state.rounds < tally_limit → IsInitiator (step own state m).state
  unfolding poll terminate
  initiator_kept few =
      let back : Initiator = step_back own taken in
      step_cases IsInitiator own state m
      (λ _. taken_is)
      (λ _. wait_is back (polled back) (back_few few) polled_long back_is.matrix)
      (record { rounds = back_is.rounds; awaited = back_is.awaited; matrix = back_is.matrix; copy = back_is.copy })
