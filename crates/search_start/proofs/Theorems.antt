-- The start of a session: `SearchBegins` and `RestartBegins` of session_theory.
-- Assumes nothing.
use mathlib.Core.Logic.{inl, inr}
use native.Mathlib.Decide.{dec_le}
use native.Mathlib.Omega.{arith}
use Rattle.exchange_laws.proofs.Heads.{search_in}
use Rattle.session_theory.proofs.Search.{size, is_part}
use Rattle.session_theory.proofs.Moves.{SearchBegins, RestartBegins}
use Rattle.search_start.proofs.Start.{to_participants}
use Rattle.search_start.proofs.Waiting.{going}
use Rattle.search_start.proofs.Alone.{over}
use Rattle.search_start.proofs.Restarting.{restarts}

pub search_begins : SearchBegins
search_begins g is searches = (
  to_participants g,
  elim (dec_le 2 (size g)) [
    | yes h ↦ inl (going g is searches h)
    | no h ↦ inr (over g is (search_in g.purpose searches).1 (omega arith))
  ],
)

pub restart_begins : RestartBegins
restart_begins g is two = (to_participants g, (is_part g, restarts g is two))
