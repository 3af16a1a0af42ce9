use mathlib.Core.Path.{◌≡◌, refl}
use native.Mathlib.Omega.{arith}
use borrow.Author.Rules.{rules}
use lib.ListN.{length}
use Rattle.line_theory.proofs.Accepted.{accepted_size}
use Rattle.finder.proofs.Rows.{given_named, rows_given}
use Rattle.finder.proofs.StepsBack.{FoundSoFar, found_begun, found_named, found_rows, found_some, found_few, found_more, found_ended}
use Rattle.finder.proofs.find_from.Goals as goal
use Rattle.finder.proofs.find_from.Goals.{At-loop-j}

pub rows_at-at-requires : goal.rows_at-at-requires
rows_at-at-requires c = given_named c.args.set _ c.args.tables.now.passed c.requires.all_named (λ j k. refl)

pub flags_of-flags-requires : goal.flags_of-flags-requires
flags_of-flags-requires c =
    let at = c.rows_at-at in
    let given = c.args.tables.now.passed in
    rows_given at.result given (given_named c.args.set _ given c.requires.all_named at.ensures)

pub first_flagged-j-requires : goal.first_flagged-j-requires
first_flagged-j-requires c = (accepted_size c.args.tables.now.passed.accepted).1

pub loop-j-init : goal.loop-j-init
loop-j-init c =
    λ start named same. found_begun start c.rows_at-at.result c.flags_of-flags.result c.args.tables.now.passed named same (search rules, search rules)
    c.flags_of-flags.ensures c.first_flagged-j.ensures

-- from the set that is given
found : (c : At-loop-j) → let t = c.args.tables.now in
    FoundSoFar t.rows t.sent.now t.received.now c.args.set c.loop-j.at c.loop-j.flags c.loop-j.passed c.loop-j.j
found c = c.loop-j.invariant c.args.set c.requires.all_named c.rows_at-at.ensures

pub step_back-requires : goal.step_back-requires
step_back-requires c =
    let now = found (goal.at.step_back-requires c).At-loop-j in record {
      rows_given = (found_rows now, (c.loop-j-test.true, found_some now c.loop-j-test.true));
      for_sixteen = now.long;
    }

pub overflow_add-passed : goal.overflow_add-passed
overflow_add-passed c = omega (arith, found_few (found (goal.at.overflow_add-passed c).At-loop-j) c.loop-j-test.true)

pub first_flagged-j-requires-in-loop-j : goal.first_flagged-j-requires-in-loop-j
first_flagged-j-requires-in-loop-j c = (accepted_size (found (goal.at.first_flagged-j-requires-in-loop-j c).At-loop-j).given.accepted).1

pub loop-j-smaller : goal.loop-j-smaller
loop-j-smaller c = omega (arith, found_few (found (goal.at.loop-j-smaller c).At-loop-j) c.loop-j-test.true)

pub loop-j-preserved : goal.loop-j-preserved
loop-j-preserved c =
    let step = c.step_back in
    λ start named same. found_more (c.loop-j.invariant start named same) c.loop-j-test.true
    step.new.at step.new.flags step.ensures.stepped_back step.ensures.for_sixteen_2 c.first_flagged-j-in-loop-j.ensures

pub set_at-line-requires : goal.set_at-line-requires
set_at-line-requires c = found_named (found (goal.at.set_at-line-requires c).At-loop-j)

pub returns : goal.returns
returns c =
    let set = c.set_at-line in
    let long : length set.result ≡ 16 = search rules in
    found_ended (found (goal.at.returns c).At-loop-j) c.loop-j-test.false set.result long set.ensures.same_set set.ensures.absent_zero
