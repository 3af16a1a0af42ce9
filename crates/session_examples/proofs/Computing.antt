-- All that the examples compute with, under one name: `unfolding computing` unfolds it.
-- Assumes nothing.
use mathlib.Core.Option as option
use Rattle.varint.specs.Number as number
use Rattle.varint.specs.Sequence as sequence
use Rattle.book.specs.Layout as layout
use Rattle.book.specs.Tables as tables
use Rattle.book.specs.View as view
use Rattle.book.specs.InTurn as in_turn
use Rattle.book.specs.Questions as questions
use Rattle.book.specs.Along as along
use Rattle.book.specs.Check as check
use Rattle.book.specs.Read as read
use Rattle.lists.specs.Over as over
use Rattle.line_theory.specs.Sets as sets
use Rattle.line_theory.specs.Search as search
use Rattle.consistency.specs.Set as set
use Rattle.finder.specs.Line as line
use Rattle.matrix.specs.Matrix as matrix
use Rattle.matrix.specs.Entries as entries
use Rattle.matrix.specs.Whole as whole
use Rattle.message.specs.Layout as message_layout
use Rattle.message.specs.Formed as formed
use Rattle.message.specs.Read as message
use Rattle.machine.specs.Flags as flags
use Rattle.machine.specs.Sends as sends
use Rattle.participant.specs.Fits as participant_fits
use Rattle.participant.specs.Step as participant_step
use Rattle.participant.specs.Calls as participant
use Rattle.initiator.specs.Begin as begin
use Rattle.initiator.specs.Fits as initiator_fits
use Rattle.initiator.specs.Step as initiator_step
use Rattle.initiator.specs.Calls as initiator
use Rattle.strands.specs.Strands as strands
use Rattle.session.specs.Held as held
use Rattle.session.specs.Fits as fits
use Rattle.session.specs.Steps as steps
use Rattle.session.specs.Calls as session
use Rattle.session.specs.Turns as turns
use Rattle.searches.specs.Lowest as lowest

unfoldable pub computing : Unit {0}
unfolding option.or_else option.bind number.groups_of number.encode number.read_groups number.read_number sequence.encode_all sequence.scan sequence.numbers_at layout.joined layout.numbers_of_processes layout.checkpoints_in layout.processes_in tables.table_row tables.process_rows tables.rows_from tables.counts_of tables.others tables.checkpoints_of tables.processes_of view.sum in_turn.answer_with questions.counter_question questions.all_zero questions.unused_of questions.unused_from along.counters_question along.sent_zeros along.received_zeros along.checkpoint_question along.checkpoints_question along.processes_question along.book_question check.counts_question check.rows_question check.contents_question check.tables_question read.read_question read.shape_read read.sent_read read.received_read over.all_to over.sum_to over.tab_from over.last_to over.lowest over.lowest_pair sets.newer_than search.permitted search.newest search.stepped search.settled search.line_set set.all_there set.test_question set.answer_to_test line.checkpoints line.line_found line.passed_found matrix.as_row matrix.as_matrix entries.same entries.rest_zero entries.none_above entries.all_lower whole.all_rest_zero whole.all_not_known whole.all_none_above message_layout.pairs_to message_layout.message_bytes formed.head_formed formed.pair_formed formed.pairs_formed formed.news_in formed.invitation_formed formed.numbers_formed formed.message_formed message.no_message message.message_read flags.someone flags.only_participants flags.participants sends.nothing sends.only_to participant_fits.search_fits participant_fits.unknown_on participant_fits.fits participant_step.awaits participant_step.end_on_oldest participant_step.end participant_step.step_back participant_step.report_of participant_step.step participant.no_participant begin.wait begin.without_wait begin.begin_search begin.begin_restart begin.begin initiator_fits.search_fits initiator_fits.restart_fits initiator_fits.entries_fit initiator_fits.wait_fits initiator_fits.fits initiator_step.awaits initiator_step.take_report initiator_step.step_back initiator_step.polled initiator_step.poll initiator_step.terminate initiator_step.compare initiator_step.step initiator.no_initiator strands.strand_bytes strands.have_room strands.posted_to strands.lengths_posted held.held_down held.held_up held.held fits.session_named fits.session_purposes fits.initiator_fits fits.participant_fits fits.strand_within fits.strand_fits fits.is_absent fits.place_fits fits.session_fits steps.begun steps.on_strand steps.deliver_down steps.deliver_up steps.with_posted session.start_question session.no_session session.session_started session.strands_started session.turn_question session.session_after session.strands_after turns.after_turns lowest.to_end lowest.searched
computing = tt
