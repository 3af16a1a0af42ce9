-- A search by the only process ends as it begins: no two processes are there, so the newest set is consistent, and the line.
use mathlib.Core.Path.{◌≡◌, refl, ap, ◌∙◌}
use mathlib.Core.Bool.{Bool, true, false}
use Prim.Native.Nat.{ℕ, ◌≤◌, ◌<◌}
use native.Mathlib.Omega.{arith}
use lib.Dec.{eqb}
use Rattle.book.specs.Bounds.{mark}
use Rattle.lists.proofs.Over.{get_d_tab}
use Rattle.line_theory.proofs.Theorems.{consistent_above_is_line}
use Rattle.mail.specs.Outgoing.{bytes_to}
use Rattle.machine.specs.Flags.{flag, nobody}
use Rattle.initiator.specs.declared.Initiator.{Initiator}
use Rattle.initiator.specs.declared.InitiatorStep.{InitiatorStep}
use Rattle.initiator.specs.Begin.{without_wait}
use Rattle.initiator_laws.proofs.Sends.{sum_none}
use Rattle.session_theory.proofs.Search.{Search, IsSearch, size, lead, is_part, own_in, view_in, line_in}
use Rattle.session_theory.proofs.Invariant.{Ends, Finished, Over}
use Rattle.session_theory.proofs.Moves.{begins}
use Rattle.session_theory.proofs.Facts.{book_is, lead_in, part_in, part_other}
use Rattle.search_start.proofs.Start.{ready, started, machine_is, none_delivered, placed}
use Rattle.search_start.proofs.Searching.{others_none, search_alone, first_search, stands_newest, line_most}

pub flag_nobody : (k : ℕ) → k < 16 → flag nobody k ≡ false
flag_nobody k h = get_d_tab 16 (λ p. false) k false h

module _ (g : Search) (is : IsSearch g) (searches : eqb g.purpose 2 ≡ false) (alone : size g ≤ 1) where
  no_part : (k : ℕ) → is_part g k ≡ true → ⊥
  no_part k there = part_other g k there (omega (arith, part_in g k there, lead_in g is))

  nobody_takes_part : (k : ℕ) → is_part g k ≡ false
  nobody_takes_part k = go (is_part g k) refl
    where
      go : (t : Bool) → is_part g k ≡ t → is_part g k ≡ false
      go true e = absurd (no_part k e)
      go false e = e

  machine_ready : (started g).machine ≡ ready (own_in g (lead g)) g.initiator g.purpose
  machine_ready =
      machine_is g
      ∙ (ap (λ (s : InitiatorStep). s.state) (first_search g is searches)
      ∙ search_alone (own_in g (lead g)) g.initiator g.purpose (others_none (size g) (lead g) nobody_takes_part))

  ends : Ends g (started g) (bytes_to (begins g).outgoing) (λ k. false)
  unfolding without_wait
  ends = record {
    placed = placed g is;
    ended = ap (λ (m : Initiator). m.ended) machine_ready;
    nobody = λ k h. ap (λ (m : Initiator). flag m.awaited k) machine_ready ∙ flag_nobody k h;
    closing = λ k there. absurd (no_part k there);
    rest = λ k h e. refl;
  }

  newest_is_line : (j : ℕ) → j < size g → (view_in g).count j ≡ line_in g j
  newest_is_line =
      consistent_above_is_line mark (view_in g) (view_in g).count (book_is g is)
      (record { above = line_most g is searches; among = λ j h. omega arith })
      (λ j p i k other. absurd (other (omega arith)))

  finished : Finished g (started g) (bytes_to (begins g).outgoing) (λ k. false)
  unfolding without_wait
  finished = record {
    ends = ends;
    on_line = λ j h. stands_newest g is searches j h ∙ newest_is_line j h;
    few_rounds = let e : (started g).machine.rounds ≡ 0 = ap (λ (m : Initiator). m.rounds) machine_ready in omega arith;
    deliveries_left = rw (none_delivered g, sum_none 16) (omega arith);
  }

  pub over : Over g (started g) (bytes_to (begins g).outgoing)
  over = ((λ k. false), finished)
