-- `step_back` meets its contract.
use native.Mathlib.Omega.{arith}
use lib.ListN.{length-set}
use Rattle.finder.proofs.StepsBack.{back_given, back_flags}
use Rattle.finder.proofs.step_back.Goals as goal

pub flag_at_fault-requires : goal.flag_at_fault-requires
flag_at_fault-requires c = let pre = c.requires in
    (back_given c.args.at.now c.args.j pre.for_sixteen.0 (omega arith) pre.rows_given.0, (pre.rows_given.1.0, pre.for_sixteen.1))

pub must_step_back-requires : goal.must_step_back-requires
must_step_back-requires c = let pre = c.requires in
    (back_given c.args.at.now c.args.j pre.for_sixteen.0 (omega arith) pre.rows_given.0, pre.rows_given.1.0)

pub returns : goal.returns
returns c =
    let a = c.args in
    let pre = c.requires in
    let beside = c.flag_at_fault in record {
      stepped_back =
          back_flags a.at.now a.j pre.for_sixteen.0 (omega arith) a.flags.now beside.new.flags c.must_step_back.result pre.rows_given.1.1 beside.ensures.flags_len
          c.must_step_back.ensures beside.ensures.flagged_beside;
      for_sixteen_2 = (simp length-set pre.for_sixteen.0, simp length-set beside.ensures.flags_len);
    }
