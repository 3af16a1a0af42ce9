-- `deliver` meets its contract: what fits the tables is what each step is given, and what lies on the strand what it holds.
use mathlib.Core.Path.{◌≡◌, sym, ap, ◌∙◌}
use mathlib.Core.Bool.{true}
use mathlib.Core.List.{List}
use Prim.Native.Nat.{ℕ, ◌+◌, ◌≤◌, ◌<◌}
use native.Mathlib.Omega.{arith}
use lib.ListN.{length}
use Rattle.accepted.specs.Holding.{tables_in}
use Rattle.line_theory.proofs.Accepted.{accepted_size}
use Rattle.strands.specs.Strands.{length_on}
use Rattle.session.specs.Workers.{initiator_of}
use Rattle.session.specs.Held.{waiting_bytes, held}
use Rattle.session.specs.Fits.{strand_within}
use Rattle.session.proofs.Places.{participant_there}
use Rattle.turns.proofs.Delivering.{fits_size, fits_within, deliverable, strand_end, part_is, handed_over}
use Rattle.turns.proofs.deliver.deliver.Goals as goal

pub strand_start-at-requires : goal.strand_start-at-requires
strand_start-at-requires c = let size : let n = c.args.tables.now.rows.shape.n in (1 ≤ n) × (n ≤ 16) = accepted_size c.args.tables.now.passed.accepted in
    let few : c.args.k < 16 = let a = c.args in
    let below = participant_there a.tables.now.rows.shape.n (initiator_of a.session) a.k c.requires.k_value in
    omega (arith, size, below) in
    record { le_n = size; k_bound = few }

pub offset_bounds-lengths-k : goal.offset_bounds-lengths-k
offset_bounds-lengths-k c = let size : let n = c.args.tables.now.rows.shape.n in (1 ≤ n) × (n ≤ 16) = accepted_size c.args.tables.now.passed.accepted in
    let few : c.args.k < 16 = let a = c.args in
    let below = participant_there a.tables.now.rows.shape.n (initiator_of a.session) a.k c.requires.k_value in
    omega (arith, size, below) in
    omega (arith, few)

pub bounds-lengths-k : goal.bounds-lengths-k
bounds-lengths-k c = let size : let n = c.args.tables.now.rows.shape.n in (1 ≤ n) × (n ≤ 16) = accepted_size c.args.tables.now.passed.accepted in
    let few : c.args.k < 16 = let a = c.args in
    let below = participant_there a.tables.now.rows.shape.n (initiator_of a.session) a.k c.requires.k_value in
    omega (arith, size, below) in
    few

pub overflow_add-end : goal.overflow_add-end
overflow_add-end c = let size : let n = c.args.tables.now.rows.shape.n in (1 ≤ n) × (n ≤ 16) = accepted_size c.args.tables.now.passed.accepted in
    let few : c.args.k < 16 = let a = c.args in
    let below = participant_there a.tables.now.rows.shape.n (initiator_of a.session) a.k c.requires.k_value in
    omega (arith, size, below) in
    let within : let a = c.args in strand_within a.tables.now.rows.shape.n a.session a.strands.now a.k ≡ true = let a = c.args in
    fits_within (tables_in a.tables.now) a.session a.strands.now c.requires.strands_value a.k c.requires.k_value (few) in
    let ends : let a = c.args in
    c.strand_start-at.result + length_on a.session.lengths a.k ≤ length a.strands.now = let a = c.args in
    strand_end a.tables.now.rows.shape.n a.session a.strands.now a.k c.strand_start-at.result c.strand_start-at.ensures.value (within)
    c.requires.fact in
    omega (arith, ends, c.well_formed)

pub slice_bounds-hand_over-end : goal.slice_bounds-hand_over-end
slice_bounds-hand_over-end c = let size : let n = c.args.tables.now.rows.shape.n in (1 ≤ n) × (n ≤ 16) = accepted_size c.args.tables.now.passed.accepted in
    let few : c.args.k < 16 = let a = c.args in
    let below = participant_there a.tables.now.rows.shape.n (initiator_of a.session) a.k c.requires.k_value in
    omega (arith, size, below) in
    let within : let a = c.args in strand_within a.tables.now.rows.shape.n a.session a.strands.now a.k ≡ true = let a = c.args in
    fits_within (tables_in a.tables.now) a.session a.strands.now c.requires.strands_value a.k c.requires.k_value (few) in
    let ends : let a = c.args in
    c.strand_start-at.result + length_on a.session.lengths a.k ≤ length a.strands.now = let a = c.args in
    strand_end a.tables.now.rows.shape.n a.session a.strands.now a.k c.strand_start-at.result c.strand_start-at.ensures.value (within)
    c.requires.fact in
    ends

pub held_on-w-requires : goal.held_on-w-requires
held_on-w-requires c = let size : let n = c.args.tables.now.rows.shape.n in (1 ≤ n) × (n ≤ 16) = accepted_size c.args.tables.now.passed.accepted in
    let few : c.args.k < 16 = let a = c.args in
    let below = participant_there a.tables.now.rows.shape.n (initiator_of a.session) a.k c.requires.k_value in
    omega (arith, size, below) in
    let within : let a = c.args in strand_within a.tables.now.rows.shape.n a.session a.strands.now a.k ≡ true = let a = c.args in
    fits_within (tables_in a.tables.now) a.session a.strands.now c.requires.strands_value a.k c.requires.k_value (few) in
    let a = c.args in
    let same = fits_size (tables_in a.tables.now) a.session a.strands.now c.requires.strands_value in
    record { le_n = ((size).0, ((size).1, same)); le_initiator = (c.requires.le_initiator.0, few); k_value = within }

pub hand_over-requires : goal.hand_over-requires
hand_over-requires c = let a = c.args in
    let pre = c.requires in
    let start = c.strand_start-at in
    let bytes = part_is a.tables.now.rows.shape.n a.session a.strands.now a.k start.result c.strand_start-at.ensures.value in record {
      deliverable = deliverable a.tables.now.rows a.tables.now.sent.now a.tables.now.received.now a.session a.strands.now a.k a.tables.now.passed pre.strands_value pre.le_initiator
          pre.k_value;
      w_value = c.held_on-w.ensures ∙ ap (λ (s : List ℕ). held a.tables.now.rows.shape.n a.session a.k s) (sym bytes);
    }

pub returns : goal.returns
returns c = let a = c.args in
    let start = c.strand_start-at in
    handed_over (tables_in a.tables.now) a.session a.k _
    (waiting_bytes a.tables.now.rows.shape.n a.session a.strands.now a.k)
    c.held_on-w.result
    c.hand_over.result
    (part_is a.tables.now.rows.shape.n a.session a.strands.now a.k start.result c.strand_start-at.ensures.value)
    c.held_on-w.ensures
    c.hand_over.ensures
