-- `places_fit` meets its contract. The invariant: the places so far fit.
use mathlib.Core.Path.{◌≡◌}
use mathlib.Core.Bool.{true}
use Rattle.accepted.specs.Holding.{tables_in}
use Rattle.lists.proofs.Before.{Before}
use Rattle.session.specs.Fits.{place_fits}
use Rattle.session_check.proofs.places_fit.Given as goal

abbrev pub invariant-loop-k : goal.invariant-loop-k
invariant-loop-k l =
    Before 16 (λ j. place_fits (tables_in l.tables) l.session l.strands j ≡ true) l.k
