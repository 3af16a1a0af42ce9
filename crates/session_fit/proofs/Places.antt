-- Questions 10, 11 and 13 of a session whose machines are placed and whose strands are laid out.
use mathlib.Core.Path.{◌≡◌, refl, sym, ap, subst, ◌∙◌}
use mathlib.Core.Bool.{Bool, true, false, ◌&&◌, ◌||◌}
use mathlib.Core.List.{List}
use Prim.Native.Nat.{ℕ, suc, ◌+◌, ◌-◌, ◌<◌}
use native.Mathlib.Decide.{ℕ_discrete}
use native.Mathlib.Omega.{arith}
use borrow.Author.Tests.{lt-ltb, le-leb, eq-eqb, ne_eqb}
use lib.ListN.{length}
use lib.Dec.{eqb}
use Rattle.book.specs.declared.Process.{Process}
use Rattle.lists.proofs.Over.{all_out}
use Rattle.matrix.specs.Matrix.{as_row}
use Rattle.book.specs.Names.{is_purpose}
use Rattle.machine.specs.Named.{participant_named, is_participant, tally_limit}
use Rattle.lists.proofs.Tests.{or_unless}
use Rattle.machine_laws.proofs.Rows.{same_self}
use Rattle.participant.specs.declared.Participant.{Participant}
use Rattle.participant.specs.Calls.{no_participant}
use Rattle.initiator.specs.Fits as initiator
use Rattle.strands.specs.Strands.{slot_size, strand_start, length_on}
use Rattle.session.specs.declared.Session.{Session}
use Rattle.session.specs.Workers.{initiator_of, participant_at}
use Rattle.session.specs.Held.{held}
use Rattle.session.specs.Fits.{session_named, session_purposes, initiator_fits, participant_fits, strand_within, strand_fits, is_absent, place_fits, session_fits}
use Rattle.session_theory.proofs.Search.{Search, IsSearch, size, lead, is_part, own_in}
use Rattle.session_theory.proofs.Invariant.{Part, Placed, LaidAt, Laid}
use Rattle.session_theory.proofs.Moves.{Passes}
use Rattle.session_theory.proofs.Facts.{part_named}

nobody_there : is_absent no_participant ≡ true
unfolding is_absent no_participant
nobody_there = rw (same_self (as_row (λ p. 0)))

absent_fits : (p : Participant) (length : ℕ) → p ≡ no_participant → length ≡ 0 → (is_absent p && eqb length 0) ≡ true
absent_fits p length e z = rw (e, z, nobody_there)

module _ (g : Search) (is : IsSearch g) (s : Session) (placed : Placed g s) where
  abbrev n : ℕ
  n = size g

  -- ---- 10 and 11

  -- a place is a participant's, or empty
  place_passes : (f : Participant → Bool) → ((k : ℕ) → is_part g k ≡ true → f (participant_at s k) ≡ true)
      → (k : ℕ) → k < 16 → (is_absent (participant_at s k) || f (participant_at s k)) ≡ true
  place_passes f part k h = go (is_part g k) refl
    where
      go : (there : Bool) → is_part g k ≡ there → (is_absent (participant_at s k) || f (participant_at s k)) ≡ true
      go true there = or_unless (is_absent (participant_at s k)) (f (participant_at s k)) (λ _. part k there)
      go false none = rw (ap is_absent (placed.absent k h none).0 ∙ nobody_there)

  named : session_named n s ≡ true
  unfolding session_named
  named =
      rw (placed.leader, placed.machine_me, is.named)
      (all_out 16 _
      (place_passes (λ p. participant_named n p.me.0 p.initiator.0)
      (λ k there. part_named g is k there (participant_at s k) (placed.part k there))))

  purposed : session_purposes s ≡ true
  unfolding session_purposes
  purposed =
      rw (placed.purpose, placed.machine_purpose, is.purposed)
      (all_out 16 _
      (place_passes (λ p. is_purpose p.purpose) (λ k there. rw (placed.part k there).purpose is.purposed)))

  -- ---- 13

  lead_is : initiator_of s ≡ lead g
  lead_is = ap (λ (q : Process). q.0 - 1) placed.leader

  lead_fits : initiator_fits g.tables s ≡ true
  unfolding initiator_fits
  lead_fits =
      rw (
        eq-eqb s.machine.me.0 s.initiator.0 (ap (λ (q : Process). q.0) (placed.machine_me ∙ sym placed.leader)),
        eq-eqb s.machine.purpose s.purpose (placed.machine_purpose ∙ sym placed.purpose),
      )
      (subst (λ (j : ℕ). initiator.fits (own_in g j) s.machine ≡ true) (sym lead_is) placed.machine_fits)

  part_fits : (k : ℕ) → is_part g k ≡ true → participant_fits g.tables s k ≡ true
  unfolding participant_fits
  part_fits k there =
      let p : Part g k (participant_at s k) = placed.part k there in
      rw (
        p.me,
        p.leader,
        p.purpose,
        placed.leader,
        placed.purpose,
        eq-eqb (suc k) (suc k) refl,
        eq-eqb g.initiator.0 g.initiator.0 refl,
        eq-eqb g.purpose g.purpose refl,
      )
      p.fitting

  module _ (strands : List ℕ) (box : ℕ → List ℕ) (laid : Laid g s strands box) where
    within : (k : ℕ) → is_part g k ≡ true → strand_within n s strands k ≡ true
    unfolding strand_within
    within k there =
        let l : LaidAt g s strands k (box k) = laid k there in
        rw (placed.leader, l.long)
        (elim (ℕ_discrete (length (box k)) 0) [
          | yes z ↦ rw (eq-eqb (length (box k)) 0 z)
          | no some ↦
              rw (ne_eqb (length (box k)) 0 some, le-leb (length (box k)) (slot_size n) l.short)
              (le-leb (strand_start n (lead g) k + length (box k)) (length strands) (l.within (omega arith)))
        ])

    place_fits_lem : ((k : ℕ) → is_part g k ≡ true → strand_fits s k (held n s k (box k)) ≡ true)
        → (k : ℕ) → k < 16 → place_fits g.tables s strands k ≡ true
    unfolding place_fits
    place_fits_lem each k h = go (is_part g k) refl
      where
        go : (v : Bool) → is_part g k ≡ v → place_fits g.tables s strands k ≡ true
        go true there =
            rw (ap (λ (i : ℕ). is_participant n i k) lead_is ∙ there, part_fits k there, within k there, (laid k there).bytes) (each k there)
        go false none =
            let a = placed.absent k h none in
            rw (ap (λ (i : ℕ). is_participant n i k) lead_is ∙ none) (absent_fits (participant_at s k) (length_on s.lengths k) a.0 a.1)

    pub session_passes : s.delivered < tally_limit
        → ((k : ℕ) → is_part g k ≡ true → strand_fits s k (held n s k (box k)) ≡ true) → Passes g s strands
    unfolding session_fits
    session_passes few each =
        record {
          named = named;
          purposed = purposed;
          fitting =
              rw (
                eq-eqb s.n n placed.processes,
                lead_fits,
                all_out 16 (place_fits g.tables s strands) (place_fits_lem each),
                lt-ltb s.delivered tally_limit few,
              );
        }
