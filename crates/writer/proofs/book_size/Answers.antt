use mathlib.Core.Path.{◌≡◌}
use native.Mathlib.Omega.{arith}
use borrow.Author.Rules.{rules}
use lib.ListN.{length}
use Rattle.varint.proofs.Encode.{encode_size}
use Rattle.book.proofs.Starts.{starts_carried}
use Rattle.book.proofs.Fits.{rows_fit}
use Rattle.writer.proofs.Parts.{number_first, processes_more, processes_done}
use Rattle.writer.proofs.Turns.{counted_first, counted_more, counted_ended}
use Rattle.writer.proofs.book_size.Goals as goal

pub loop-j-init : goal.loop-j-init
loop-j-init c = let small = encode_size 10 c.args.shape.n (omega arith) (omega arith) in
    record {
      within = omega arith;
      small = omega arith;
      start = (starts_carried c.args.shape.counts).begins;
      counted = counted_first (number_first c.args.shape c.requires.book_fits c.requires.book_fits_2) c.size_of-size.ensures;
    }

pub process_size-size-requires : goal.process_size-size-requires
process_size-size-requires c = record {
  rows_fit = rows_fit c.requires.book_fits c.loop-j-test.true c.loop-j.invariant.start;
  rows_fit_2 = rows_fit c.requires.book_fits_2 c.loop-j-test.true c.loop-j.invariant.start;
}

pub overflow_add-first : goal.overflow_add-first
overflow_add-first c = let fits = rows_fit c.requires.book_fits c.loop-j-test.true c.loop-j.invariant.start in
    omega (arith, fits.inside)

pub loop-j-preserved : goal.loop-j-preserved
loop-j-preserved c = let h = c.loop-j-test.true in
    let sixteen : length c.args.shape.counts ≡ 16 = search rules in
    let so_far = c.loop-j.invariant in
    let next = processes_more c.args.shape c.requires.book_fits c.requires.book_fits_2 c.loop-j.first sixteen h in
    record {
      within = omega arith;
      small = omega arith;
      start = (starts_carried c.args.shape.counts).next c.loop-j.j c.loop-j.first so_far.start;
      counted = counted_more next c.process_size-size.ensures.value so_far.counted;
    }

pub returns : goal.returns
returns c = let done = processes_done c.args.shape c.requires.book_fits c.requires.book_fits_2 c.loop-j.first c.loop-j-test.false in
    counted_ended done c.loop-j.invariant.counted
