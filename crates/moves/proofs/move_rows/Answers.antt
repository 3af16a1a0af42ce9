use mathlib.Core.Path.{◌≡◌}
use Prim.Native.Nat.{◌<◌}
use native.Mathlib.Omega.{arith}
use borrow.Author.Rules.{rules}
use lib.ListN.{length}
use Rattle.moves.proofs.AllTurns.{Room, all_begun, all_length, all_room, all_more, all_long, all_ended}
use Rattle.moves.proofs.move_rows.Goals as goal
use Rattle.moves.proofs.move_rows.Goals.{In-loop-j}

pub loop-j-init : goal.loop-j-init
loop-j-init c = all_begun _ _ _ _ _ _

-- in a turn: the process is one of sixteen, and its rows have room
small : (c : In-loop-j) → c.loop-j.j < 16
small c = omega (arith, c.requires.0.most)

pub offset_bounds-line-j : goal.offset_bounds-line-j
offset_bounds-line-j c = omega (arith, small (goal.at.offset_bounds-line-j c).In-loop-j)

pub bounds-line-j : goal.bounds-line-j
bounds-line-j c = small (goal.at.bounds-line-j c).In-loop-j

pub overflow_add-j : goal.overflow_add-j
overflow_add-j c = omega (arith, small (goal.at.overflow_add-j c).In-loop-j)

pub row-own-requires : goal.row-own-requires
row-own-requires c = (omega arith, omega (arith, small (goal.at.row-own-requires c).In-loop-j))

pub offset_bounds-first-j : goal.offset_bounds-first-j
offset_bounds-first-j c = omega (arith, small (goal.at.offset_bounds-first-j c).In-loop-j)

pub bounds-first-j : goal.bounds-first-j
bounds-first-j c = omega (arith, small (goal.at.bounds-first-j c).In-loop-j)

sixteen : (c : In-loop-j) → length c.args.rows.shape.counts ≡ 16
sixteen c = search rules

has_room : (c : In-loop-j) → let a = c.args in
    Room a.line a.kept a.rows.first c.loop-j.to c.loop-j.j
has_room c =
    all_room _ _ _ _ _ (sixteen c) c.requires.0 _ _ _ c.loop-j.invariant c.loop-j-test.true

pub overflow_sub-r : goal.overflow_sub-r
overflow_sub-r c = omega (arith, has_room (goal.at.overflow_sub-r c).In-loop-j)

pub overflow_add-first : goal.overflow_add-first
overflow_add-first c = omega (arith, has_room (goal.at.overflow_add-first c).In-loop-j)

pub offset_bounds-kept-j : goal.offset_bounds-kept-j
offset_bounds-kept-j c = omega (arith, small (goal.at.offset_bounds-kept-j c).In-loop-j)

pub bounds-kept-j : goal.bounds-kept-j
bounds-kept-j c = omega (arith, small (goal.at.bounds-kept-j c).In-loop-j)

pub move_process-requires : goal.move_process-requires
move_process-requires c = let room = has_room (goal.at.move_process-requires c).In-loop-j in
    (room.behind, omega (arith, all_length _ _ _ _ _ _ _ _ _ c.loop-j.invariant))

pub offset_bounds-kept-j-in-loop-j : goal.offset_bounds-kept-j-in-loop-j
offset_bounds-kept-j-in-loop-j c = omega (arith, small (goal.at.offset_bounds-kept-j-in-loop-j c).In-loop-j)

pub bounds-kept-j-in-loop-j : goal.bounds-kept-j-in-loop-j
bounds-kept-j-in-loop-j c = omega (arith, small (goal.at.bounds-kept-j-in-loop-j c).In-loop-j)

pub overflow_add-to : goal.overflow_add-to
overflow_add-to c = omega (arith, has_room (goal.at.overflow_add-to c).In-loop-j)

pub loop-j-preserved : goal.loop-j-preserved
loop-j-preserved c = all_more _ _ _ _ _ (sixteen (goal.at.loop-j-preserved c).In-loop-j) c.requires.0 _ _ _ c.loop-j.invariant c.loop-j-test.true _ c.row-own.ensures _
    c.move_process.ensures

pub shape_of-table : goal.shape_of-table
shape_of-table c = all_length _ _ _ _ _ _ _ _ _ c.loop-j.invariant

pub returns : goal.returns
returns c = let long : length c.args.rows.shape.counts ≡ 16 = search rules in
    let inv = c.loop-j.invariant in
    let left = c.loop-j-test.false in
    record { upper_bound = (inv.few, all_long _ _ _ _ _ long c.requires.0 _ _ _ inv left); table_after = all_ended _ _ _ _ _ long c.requires.0 _ _ _ inv left }
