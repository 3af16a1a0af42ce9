-- An event in the bytes of a journal: what stands at a place, by the numbers that were read there.
use Rattle.std.specs.Prelude.{Some, None}
use mathlib.Core.Path.{◌≡◌, refl, sym, ap, ◌∙◌}
use mathlib.Core.Bool.{true}
use mathlib.Core.List.{List, [], ◌∷◌}
use Prim.Native.Nat.{ℕ, suc, ◌+◌, ◌<◌}
use native.Mathlib.Omega.{arith}
use lib.ListN.{length, drop, get_or}
use lib.Seq.{drop-cons}
use lib.Dec.{eqb}
use borrow.Author.Tests.{ne_eqb, eq-eqb}
use Rattle.lists.proofs.Pick.{pick_each}
use Rattle.varint.specs.Number.{read_number}
use Rattle.varint.specs.Sequence.{Numbers}
use Rattle.varint.proofs.Sequence.{numbers_none, numbers_more}
use Rattle.varint.proofs.Reading.{groups_last, at_most_in, read_next}
use Rattle.journal.specs.declared.Event.{Event}
use Rattle.journal.specs.declared.Event.TheVariants.{Sent, Received, Checkpointed}
use Rattle.journal.specs.Bounds.{journal_groups, journal_largest}
use Rattle.journal.specs.Events.{Front, Begins, NoEvent, with_partner, of_kind, first_event}
use Rattle.journal.specs.Calls.{numbers_logged}
use Rattle.journal.specs.Parts.{StandsAt}

-- a number of one byte
pub one_byte : (s : List ℕ) (at : ℕ) → at < length s → get_or s at 0 < 128
    → read_number journal_groups journal_largest s at ≡ Some (get_or s at 0, at + 1)
unfolding read_number
one_byte s at inside small =
    rw (drop-cons s at 0 inside, groups_last 4 true (get_or s at 0) (drop (suc at) s) at small)
    (at_most_in journal_largest (get_or s at 0) (at + 1) (omega arith))

abbrev first : Numbers → Front
first ns = first_event ns.found

module _ (s : List ℕ) where
  abbrev none : ℕ → Numbers
  none at = record { found = []; stop = at }

  abbrev front : ℕ → ℕ → Numbers
  front v next = record { found = v ∷ (numbers_logged s next).found; stop = (numbers_logged s next).stop }

  pub no_kind : (at : ℕ) → read_number journal_groups journal_largest s at ≡ None → first_event (numbers_logged s at).found ≡ NoEvent
  no_kind at e = ap first (numbers_none journal_groups journal_largest s at e)

  module _ (at kind second : ℕ) (one : read_number journal_groups journal_largest s at ≡ Some (kind, second)) where
    at_kind : numbers_logged s at ≡ front kind second
    at_kind = numbers_more journal_groups journal_largest s at kind second one

    pub no_process : read_number journal_groups journal_largest s second ≡ None → first_event (numbers_logged s at).found ≡ NoEvent
    no_process e =
        ap first at_kind ∙ ap (λ (ns : Numbers). first_event (kind ∷ ns.found)) (numbers_none journal_groups journal_largest s second e)

    module _ (process third : ℕ) (two : read_number journal_groups journal_largest s second ≡ Some (process, third)) where
      at_process : numbers_logged s second ≡ front process third
      at_process = numbers_more journal_groups journal_largest s second process third two

      by_kind : first_event (numbers_logged s at).found ≡ of_kind kind process (numbers_logged s third).found
      by_kind = ap first at_kind ∙ ap (λ (ns : Numbers). first_event (kind ∷ ns.found)) at_process

      same_stop : (numbers_logged s at).stop ≡ (numbers_logged s third).stop
      same_stop = ap (λ (ns : Numbers). ns.stop) at_kind ∙ ap (λ (ns : Numbers). ns.stop) at_process

      pub is_checkpoint : kind ≡ 3 → StandsAt s at (Checkpointed (record { 0 = process })) third
      is_checkpoint k =
          let a = read_next journal_groups journal_largest s at kind second one in
          let b = read_next journal_groups journal_largest s second process third two in
          record {
            begins = by_kind ∙ rw k;
            stop = same_stop;
            onward = omega (arith, a.0, b.0);
            inside = b.1;
          }

      pub no_such_kind : (kind ≡ 1 → ⊥) → (kind ≡ 2 → ⊥) → (kind ≡ 3 → ⊥) → first_event (numbers_logged s at).found ≡ NoEvent
      no_such_kind a b c = by_kind ∙ rw (ne_eqb kind 1 a, ne_eqb kind 2 b, ne_eqb kind 3 c)

      -- of the kinds with a partner, and of none other
      no_event : (vs : List ℕ) → (kind ≡ 3 → ⊥) → with_partner Sent process vs ≡ NoEvent → with_partner Received process vs ≡ NoEvent
          → of_kind kind process vs ≡ NoEvent
      no_event vs c sent received =
          rw (ne_eqb kind 3 c)
          (pick_each (λ (f : Front). f ≡ NoEvent) (eqb kind 1) _ _ sent
          (pick_each (λ (f : Front). f ≡ NoEvent) (eqb kind 2) _ _ received refl))

      pub no_partner : (kind ≡ 3 → ⊥) → read_number journal_groups journal_largest s third ≡ None
          → first_event (numbers_logged s at).found ≡ NoEvent
      no_partner c e =
          by_kind
          ∙ ap (λ (ns : Numbers). of_kind kind process ns.found) (numbers_none journal_groups journal_largest s third e)
          ∙ no_event [] c refl refl

      module _ (partner next : ℕ) (three : read_number journal_groups journal_largest s third ≡ Some (partner, next)) where
        at_partner : numbers_logged s third ≡ front partner next
        at_partner = numbers_more journal_groups journal_largest s third partner next three

        by_partner : first_event (numbers_logged s at).found ≡ of_kind kind process (partner ∷ (numbers_logged s next).found)
        by_partner = by_kind ∙ ap (λ (ns : Numbers). of_kind kind process ns.found) at_partner

        pub own_partner : (kind ≡ 3 → ⊥) → partner ≡ process → first_event (numbers_logged s at).found ≡ NoEvent
        own_partner c same =
            let is : eqb process partner ≡ true = eq-eqb process partner (sym same) in
            by_partner ∙ no_event (partner ∷ (numbers_logged s next).found) c (rw is) (rw is)

        stands : (e : Event) → of_kind kind process (partner ∷ (numbers_logged s next).found) ≡ Begins e (numbers_logged s next).found
            → StandsAt s at e next
        stands e is =
            let a = read_next journal_groups journal_largest s at kind second one in
            let b = read_next journal_groups journal_largest s second process third two in
            let c = read_next journal_groups journal_largest s third partner next three in
            record {
              begins = by_partner ∙ is;
              stop = same_stop ∙ ap (λ (ns : Numbers). ns.stop) at_partner;
              onward = omega (arith, a.0, b.0, c.0);
              inside = c.1;
            }

        pub is_sending : kind ≡ 1 → (partner ≡ process → ⊥) → StandsAt s at (Sent (record { 0 = process }) (record { 0 = partner })) next
        is_sending k differ =
            stands (Sent (record { 0 = process }) (record { 0 = partner })) (rw (k, ne_eqb process partner (λ e. differ (sym e))))

        pub is_receipt : kind ≡ 2 → (partner ≡ process → ⊥)
            → StandsAt s at (Received (record { 0 = process }) (record { 0 = partner })) next
        is_receipt k differ =
            stands (Received (record { 0 = process }) (record { 0 = partner })) (rw (k, ne_eqb process partner (λ e. differ (sym e))))
