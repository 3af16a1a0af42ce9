-- From what holds of a session and from where the bytes lie: it passes questions 10, 11 and 13, and each strand holds what its
-- phase says.
use mathlib.Core.Path.{◌≡◌}
use mathlib.Core.Bool.{true}
use mathlib.Core.List.{List}
use Prim.Native.Nat.{ℕ}
use native.Mathlib.Omega.{arith}
use Rattle.lists.specs.Pick.{pick}
use Rattle.session.specs.declared.Session.{Session}
use Rattle.session.specs.declared.Waiting.{Waiting}
use Rattle.session.specs.declared.Waiting.TheVariants.{Nothing, Ending}
use Rattle.session.specs.Held.{held}
use Rattle.session.specs.Fits.{strand_fits}
use Rattle.session_theory.proofs.Search.{Search, size, is_part}
use Rattle.session_theory.proofs.Moves.{holding, WaitsFit, EndsFit}
use Rattle.session_theory.proofs.Few.{most_few}
use Rattle.session_theory.proofs.Facts.{part_within}
use Rattle.session_fit.proofs.Holds.{Tells, phase_tells, phase_some, closing_tells, closing_some}
use Rattle.session_fit.proofs.Places.{session_passes}

-- question 13 of a strand that holds what it should
strand_passes : (g : Search) (s : Session) (k : ℕ) (b : List ℕ) (w : Waiting) → Tells g s k b w → strand_fits s k (held (size g) s k b) ≡ true
strand_passes g s k b w t = rw t.holds t.fits

pub waits_fit : WaitsFit
waits_fit g s strands box phase ahead is searching w =
    let tell : (k : ℕ) → is_part g k ≡ true → Tells g s k (box k) (holding (phase k)) =
    λ k there. phase_tells g is s w.placed k there (box k) w.waiting (phase k) (w.in_phase k there) in
    record {
      passes =
          λ laid. session_passes g is s w.placed strands box laid (omega (arith, w.deliveries_left, most_few g is))
          (λ k there. strand_passes g s k (box k) (holding (phase k)) (tell k there));
      holds = λ k there. (tell k there).holds;
      short = λ k there. (tell k there).short;
      some = λ k there. phase_some g is s w.placed k there (box k) w.waiting (phase k) (w.in_phase k there);
    }

pub ends_fit : EndsFit
ends_fit g s strands box open' is delivered e =
    let tell : (k : ℕ) → is_part g k ≡ true → Tells g s k (box k) (pick (open' k) Ending Nothing) =
    λ k there.
    closing_tells g is s e.placed k there (box k) e.ended (e.nobody k (part_within g is k there)) (open' k) (e.closing k there) in
    record {
      passes =
          λ laid. session_passes g is s e.placed strands box laid delivered
          (λ k there. strand_passes g s k (box k) (pick (open' k) Ending Nothing) (tell k there));
      holds = λ k there. (tell k there).holds;
      short = λ k there. (tell k there).short;
      some =
          λ k there.
          closing_some g is s e.placed k there (box k) e.ended (e.nobody k (part_within g is k there)) (open' k) (e.closing k there);
    }
