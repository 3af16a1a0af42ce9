use mathlib.Core.Path.{◌≡◌, refl}
use native.Mathlib.Omega.{arith}
use borrow.Author.Rules.{rules}
use lib.ListN.{length}
use Rattle.book.proofs.Starts.{starts_carried}
use Rattle.book.proofs.Fits.{rows_fit}
use Rattle.writer.proofs.Parts.{number_first, processes_more, processes_done}
use Rattle.writer.proofs.Turns.{put_begun, put_room, put_more, put_ended, first_room, second_room, both_put}
use Rattle.writer.proofs.write_book.Goals as goal

pub put_number-next-requires : goal.put_number-next-requires
put_number-next-requires c = first_room c.args.out.now 0 (number_first c.args.shape c.requires.book_fits c.requires.book_fits_2) (omega (arith, c.requires.received_in_bounds))

pub loop-j-init : goal.loop-j-init
loop-j-init c = record { within = omega arith; start = (starts_carried c.args.shape.counts).begins; put = put_begun refl }

pub write_process-next-requires : goal.write_process-next-requires
write_process-next-requires c = let h = c.loop-j-test.true in
    let sixteen : length c.args.shape.counts ≡ 16 = search rules in
    let room = second_room c.args.out.now 0 (number_first c.args.shape c.requires.book_fits c.requires.book_fits_2) (omega (arith, c.requires.received_in_bounds)) (c.put_number-next.ensures.next, c.put_number-next.ensures.bytes) in
    let next = processes_more c.args.shape c.requires.book_fits c.requires.book_fits_2 c.loop-j.first sixteen h in
    record {
      rows_fit = rows_fit c.requires.book_fits h c.loop-j.invariant.start;
      rows_fit_2 = rows_fit c.requires.book_fits_2 h c.loop-j.invariant.start;
      received_in_bounds = put_room next room c.loop-j.invariant.put;
    }

pub overflow_add-first : goal.overflow_add-first
overflow_add-first c = let fits = rows_fit c.requires.book_fits c.loop-j-test.true c.loop-j.invariant.start in
    omega (arith, fits.inside)

pub loop-j-preserved : goal.loop-j-preserved
loop-j-preserved c = let h = c.loop-j-test.true in
    let sixteen : length c.args.shape.counts ≡ 16 = search rules in
    let so_far = c.loop-j.invariant in
    let next = processes_more c.args.shape c.requires.book_fits c.requires.book_fits_2 c.loop-j.first sixteen h in
    record {
      within = omega arith;
      start = (starts_carried c.args.shape.counts).next c.loop-j.j c.loop-j.first so_far.start;
      put = put_more next (c.write_process-next.ensures.value, c.write_process-next.ensures.out_after) so_far.put;
    }

pub returns : goal.returns
returns c = let done = put_ended (processes_done c.args.shape c.requires.book_fits c.requires.book_fits_2 c.loop-j.first c.loop-j-test.false) c.loop-j.invariant.put in
    let stored = both_put c.args.out.now 0 (number_first c.args.shape c.requires.book_fits c.requires.book_fits_2) (c.put_number-next.ensures.next, c.put_number-next.ensures.bytes) done in
    record { value = omega (arith, stored.0); out_after = stored.1 }
