-- A bare restart has begun: the initiator has ended on checkpoint 1, and each invitation will end its participant there.
use mathlib.Core.Path.{◌≡◌, refl, sym, ap, subst, ◌∙◌}
use mathlib.Core.Bool.{true, false}
use mathlib.Core.Logic.{inl, inr}
use Prim.Native.Nat.{ℕ, ◌<◌}
use native.Mathlib.Omega.{arith}
use mathlib.Core.Bool.{true≢false}
use Rattle.matrix.specs.Matrix.{not_known_matrix}
use Rattle.mail.specs.declared.Outgoing.{Outgoing}
use Rattle.mail.specs.Outgoing.{message_to, bytes_to}
use Rattle.machine.specs.Flags.{flag}
use Rattle.initiator.specs.declared.Initiator.{Initiator}
use Rattle.initiator.specs.declared.InitiatorStep.{InitiatorStep}
use Rattle.initiator.specs.Begin.{without_wait, begin_restart, begin}
use Rattle.exchange_laws.specs.Ends.{PassesDown}
use Rattle.exchange_laws.proofs.Theorems.{restart_passes}
use Rattle.session.specs.Workers.{stands_on}
use Rattle.session_theory.proofs.Search.{Search, IsSearch, size, is_part}
use Rattle.session_theory.proofs.Invariant.{IsEnding, Closing, Ends, Restarts}
use Rattle.session_theory.proofs.Moves.{begins}
use Rattle.session_theory.proofs.Facts.{few, worker, stands_lead}
use Rattle.session_theory.proofs.Counting.{count_parts}
use Rattle.search_start.proofs.Start.{started, first_step, first_state, machine_is, outgoing_is, leads, none_delivered, placed}
use Rattle.search_start.proofs.Invited.{takes_part, carries, reads, passes}
use Rattle.search_start.proofs.Alone.{flag_nobody}

module _ (g : Search) (is : IsSearch g) (two : g.purpose ≡ 2) where
  first_restart : first_step g ≡ begin_restart (size g) g.initiator 2
  unfolding begin
  first_restart = rw two

  machine_idle : (started g).machine ≡ without_wait (size g) g.initiator 2 1 (not_known_matrix (size g))
  unfolding begin_restart
  machine_idle = machine_is g ∙ ap (λ (s : InitiatorStep). s.state) first_restart

  sends : (begins g).outgoing ≡ (begin_restart (size g) g.initiator 2).outgoing
  sends = outgoing_is g ∙ ap (λ (s : InitiatorStep). s.outgoing) first_restart

  ending : (k : ℕ) → is_part g k ≡ true → IsEnding g (started g) k (bytes_to (begins g).outgoing k)
  unfolding begin_restart
  ending k there =
      let o : Outgoing = (begin_restart (size g) g.initiator 2).outgoing in
      let down : PassesDown (size g) o (first_state g k) =
      restart_passes (size g) g.initiator (first_state g k) (few g is) (takes_part g is k there 2 two) in
      record {
        told = message_to o k;
        carries = carries g is k there o sends;
        read = reads g is k there o sends down;
        passes = passes g is k there o sends down;
        ending = refl;
      }

  ends : Ends g (started g) (bytes_to (begins g).outgoing) (is_part g)
  unfolding without_wait
  ends = record {
    placed = placed g is;
    ended = ap (λ (m : Initiator). m.ended) machine_idle;
    nobody = λ k h. ap (λ (m : Initiator). flag m.awaited k) machine_idle ∙ flag_nobody k h;
    closing = λ k there. subst (Closing g (started g) k (bytes_to (begins g).outgoing k)) (sym there) (ending k there);
    rest = λ k h e. e;
  }

  on_oldest : (j : ℕ) → j < size g → is_part g j ≡ false → stands_on (started g) j ≡ 1
  unfolding without_wait
  on_oldest j h e = elim (worker g j h) [
    | inl at ↦ rw at (stands_lead g (started g) (leads g) ∙ ap (λ (m : Initiator). m.candidate.0) machine_idle)
    | inr there ↦ absurd (true≢false (sym there ∙ e))
  ]

  pub restarts : Restarts g (started g) (bytes_to (begins g).outgoing) (is_part g)
  unfolding without_wait
  restarts = record {
    ends = ends;
    on_oldest = on_oldest;
    no_round = ap (λ (m : Initiator). m.rounds) machine_idle;
    deliveries = rw (none_delivered g) (omega (arith, count_parts g is));
  }
