-- "A message waits exactly when some worker has not ended."
use mathlib.Core.Path.{◌≡◌, refl, sym, ap, ◌∙◌}
use mathlib.Core.Bool.{Bool, true, false, not, true≢false}
use mathlib.Core.List.{List}
use mathlib.Core.Logic.{⊎_elim}
use Prim.Native.Nat.{ℕ, ◌≤◌, ◌<◌}
use borrow.Author.Tests.{not-true, not-false}
use lib.ListN.{length}
use Rattle.lists.specs.Over.{all_to}
use Rattle.lists.proofs.Tests.{both_ways}
use Rattle.lists.proofs.Over.{all_in, all_out, all_not, all_witness}
use Rattle.session.specs.declared.Session.{Session}
use Rattle.session.specs.Workers.{has_ended, waits_on}
use Rattle.session_theory.proofs.Search.{Search, IsSearch, size, lead, is_part}
use Rattle.session_theory.proofs.Invariant.{Laid, Phase, quiet, Waits, Ends}
use Rattle.session_theory.proofs.Facts.{lead_in, worker, part_in, part_within}
use Rattle.demand3.specs.Statement.{message_waits, someone_goes_on}
use Rattle.demand3.proofs.Workers.{none_waits, box_waits, box_empty, none_ended, somebody, initiator_ended, open_going, closed_ended, closed_empty}

-- ---- some message waits

module _ (s : Session) where
  pub waits_some : (k : ℕ) → k < 16 → waits_on s k ≡ true → message_waits s ≡ true
  waits_some k small some = ap not (all_not 16 (λ q. not (waits_on s q)) k small (ap not some))

  pub waits_found : message_waits s ≡ true → (k : ℕ) × (k < 16) × (waits_on s k ≡ true)
  waits_found some =
      let w = all_witness 16 (λ q. not (waits_on s q)) (not-true (all_to 16 (λ q. not (waits_on s q))) some) in
      (w.0, w.1, not-false (waits_on s w.0) w.2)

  pub waits_none : ((k : ℕ) → k < 16 → waits_on s k ≡ false) → message_waits s ≡ false
  waits_none none = ap not (all_out 16 (λ q. not (waits_on s q)) (λ q small. ap not (none q small)))

module _
    (g : Search)
    (is : IsSearch g)
    (s : Session)
    (strands : List ℕ)
    (box : ℕ → List ℕ)
    (laid : Laid g s strands box)
  where
    -- while the search goes on, a message waits, and the initiator has not ended
    module _
        (phase : ℕ → Phase)
        (ahead : ℕ)
        (w : Waits g s box phase ahead)
        (some : (k : ℕ) → is_part g k ≡ true → (phase k ≡ quiet → ⊥) → 1 ≤ length (box k))
      where
        pub going_exactly : message_waits s ≡ someone_goes_on (size g) s
        going_exactly =
            let one = somebody g is s box phase ahead w in
            let there : is_part g one.0 ≡ true = one.1 in
            waits_some s one.0 (part_within g is one.0 there)
            (box_waits g s strands box laid one.0 there (some one.0 there one.2))
            ∙ sym (ap not (all_not (size g) (has_ended s) (lead g) (lead_in g is)
            (none_ended g is s box phase ahead w (lead g) (lead_in g is))))

    -- once it has ended, a participant has ended exactly when nothing waits on its strand
    module _
        (open' : ℕ → Bool)
        (e : Ends g s box open')
        (some : (k : ℕ) → is_part g k ≡ true → open' k ≡ true → 1 ≤ length (box k))
      where
        open_waits : (k : ℕ) → is_part g k ≡ true → open' k ≡ true → waits_on s k ≡ true
        open_waits k there o = box_waits g s strands box laid k there (some k there o)

        pub closed_waits : (k : ℕ) → is_part g k ≡ true → open' k ≡ false → waits_on s k ≡ false
        closed_waits k there o = box_empty g s strands box laid k there (closed_empty g is s box open' e k there o)

        -- when nothing is on its way any more
        pub all_closed : ((k : ℕ) → k < 16 → open' k ≡ false)
            → ((j : ℕ) → j < size g → has_ended s j ≡ true) × (message_waits s ≡ false)
        all_closed closed = (ended, waits_none s quiet_strand)
          where
            ended : (j : ℕ) → j < size g → has_ended s j ≡ true
            ended j h =
                ⊎_elim
                (λ (l : j ≡ lead g). rw l (initiator_ended g is s box open' e))
                (λ (there : is_part g j ≡ true).
                closed_ended g is s box open' e j there (closed j (part_within g is j there)))
                (worker g j h)

            quiet_strand : (k : ℕ) → k < 16 → waits_on s k ≡ false
            quiet_strand k small = go (is_part g k) refl
              where
                go : (v : Bool) → is_part g k ≡ v → waits_on s k ≡ false
                go true there = closed_waits k there (closed k small)
                go false out = none_waits g s e.placed k out

        pub over_exactly : message_waits s ≡ someone_goes_on (size g) s
        over_exactly = ap not (both_ways (all_to 16 (λ k. not (waits_on s k))) (all_to (size g) (has_ended s)) ended silent)
          where
            part_ended : (k : ℕ) → is_part g k ≡ true → waits_on s k ≡ false → (v : Bool) → open' k ≡ v → has_ended s k ≡ true
            part_ended k there none true o = absurd (true≢false (sym (open_waits k there o) ∙ none))
            part_ended k there none false o = closed_ended g is s box open' e k there o

            part_silent : (k : ℕ) → is_part g k ≡ true → has_ended s k ≡ true → (v : Bool) → open' k ≡ v → waits_on s k ≡ false
            part_silent k there h true o = absurd (true≢false (sym h ∙ open_going g is s box open' e k there o))
            part_silent k there h false o = closed_waits k there o

            ended : all_to 16 (λ k. not (waits_on s k)) ≡ true → all_to (size g) (has_ended s) ≡ true
            ended none =
                all_out (size g) (has_ended s)
                (λ j h.
                ⊎_elim
                (λ (l : j ≡ lead g). rw l (initiator_ended g is s box open' e))
                (λ (there : is_part g j ≡ true).
                part_ended j there
                (not-true (waits_on s j) (all_in 16 (λ k. not (waits_on s k)) none j (part_within g is j there))) (open' j) refl)
                (worker g j h))

            silent : all_to (size g) (has_ended s) ≡ true → all_to 16 (λ k. not (waits_on s k)) ≡ true
            silent all = all_out 16 (λ k. not (waits_on s k)) (λ k small. ap not (at k (is_part g k) refl))
              where
                at : (k : ℕ) (v : Bool) → is_part g k ≡ v → waits_on s k ≡ false
                at k true there = part_silent k there (all_in (size g) (has_ended s) all k (part_in g k there)) (open' k) refl
                at k false out = none_waits g s e.placed k out
