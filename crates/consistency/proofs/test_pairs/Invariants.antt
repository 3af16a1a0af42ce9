-- `test_pairs` meets its contract. The invariant: nobody offends any checkpoint so far.
use Rattle.accepted.specs.Holding.{tables_in}
use Rattle.line_theory.specs.OfTables.{view_of}
use Rattle.lists.proofs.Before.{Before}
use Rattle.consistency.specs.Set.{chosen}
use Rattle.consistency.proofs.Pairs.{NoneOffends}
use Rattle.consistency.proofs.test_pairs.Given as goal

abbrev pub invariant-loop-j : goal.invariant-loop-j
invariant-loop-j l =
    let v = view_of (tables_in l.tables) in
    Before l.tables.rows.shape.n (NoneOffends v (chosen l.set)) l.j
