-- What is kept from event to event: at the start, and after each kind of event.
use mathlib.Core.Path.{◌≡◌, refl, sym, ap, ◌∙◌}
use mathlib.Core.Bool.{false}
use mathlib.Core.List.{List, [], ◌∷◌, ◌++◌}
use Prim.Native.Nat.{ℕ, suc, ◌+◌, ◌-◌, ◌/◌, ◌%◌, ◌≤◌, ◌<◌}
use native.Mathlib.Decide.{dec_lt, ℕ_discrete}
use native.Mathlib.Omega.{arith}
use borrow.Author.Tests.{eq-eqb, ne_eqb}
use lib.ListN.{length, get_or, set}
use lib.Seq.{get_or-set_same, get_or-set_other}
use Rattle.lists.specs.Over.{tab}
use Rattle.lists.proofs.Over.{sum_ext, sum_at, sum_less, tab_same, replicate_at}
use Rattle.book.specs.declared.Process.{Process}
use Rattle.book.specs.Bounds.{most_processes, most_checkpoints, most_bytes, row_width}
use Rattle.book.specs.Tables.{padded}
use Rattle.journal.specs.declared.Event.{Event}
use Rattle.journal.specs.declared.Event.TheVariants.{Sent, Received, Checkpointed}
use Rattle.journal.specs.Counting.{how_many, is_sending, is_receipt, is_checkpoint, checkpoint_count}
use Rattle.journal.specs.Questions.{checkpoints_in_all}
use Rattle.journal.proofs.Accepted.{in_all_first}
use Rattle.journal.proofs.Counting.{pair_yes, pair_no, one_more_lem, no_more, how_many_few}
use Rattle.journal_reader.specs.Asking.{channel_place, channels, HasChannels, Kept, none_underway, first_counts, HasRoom, raised, lowered}
use Rattle.journal_reader.proofs.Padded.{padded_long, padded_at, padded_past, padded_raised}

-- ---- places

-- a place is that of one channel
same_channel : (p j a b : ℕ) → HasChannels p → HasChannels j → HasChannels a → HasChannels b → channel_place p j ≡ channel_place a b → (p ≡ a) × (j ≡ b)
same_channel p j a b hp hj ha hb e = (omega arith, omega arith)

place_within : (p j : ℕ) → HasChannels p → HasChannels j → channel_place p j < channels
place_within p j hp hj = omega arith

-- every place is one
place_of : (i : ℕ) → i < channels → channel_place (i / row_width + 1) (i % row_width + 1) ≡ i
place_of i h = omega arith

-- ---- before any event

none_at : (i : ℕ) → get_or none_underway i 0 ≡ 0
unfolding none_underway
none_at i = replicate_at channels 0 i

pub kept_none : (n : ℕ) → Kept n [] none_underway (first_counts n) n
unfolding how_many
kept_none n =
    record {
      messages = λ p j hp hj. rw (none_at (channel_place p j));
      checkpoints = refl;
      in_all = in_all_first n;
    }

-- ---- after one event more

-- what stands at a channel's place after a change at a place
module _ (underway : List ℕ) (c v p j : ℕ) (long : length underway ≡ channels) where
  changed : c < channels → channel_place p j ≡ c → get_or (set underway c v) (channel_place p j) 0 ≡ v
  changed h e = rw e (get_or-set_same underway c v 0 (omega arith))

  unchanged : (channel_place p j ≡ c → ⊥) → get_or (set underway c v) (channel_place p j) 0 ≡ get_or underway (channel_place p j) 0
  unchanged ne = get_or-set_other underway c (channel_place p j) v 0 ne

module _ (n : ℕ) (before : List Event) (underway counts : List ℕ) (total : ℕ) (kept : Kept n before underway counts total) where
  -- one that is no checkpoint leaves the counts
  module _ (e : Event) (none : (j : ℕ) → is_checkpoint j e ≡ false) where
    count_stays : (j : ℕ) → checkpoint_count (suc j) before ≡ checkpoint_count (suc j) (before ++ e ∷ [])
    count_stays j = ap (λ (k : ℕ). 1 + k) (sym (no_more (is_checkpoint (suc j)) before e (none (suc j))))

    counts_stay : counts ≡ padded most_processes (tab n (λ j. checkpoint_count (suc j) (before ++ e ∷ [])))
    counts_stay = kept.checkpoints ∙ ap (padded most_processes) (tab_same n n _ _ refl (λ j h. count_stays j))

    pub total_stays : total ≡ checkpoints_in_all n (before ++ e ∷ [])
    total_stays = kept.in_all ∙ sum_ext n _ _ (λ j h. count_stays j)

  module _ (process partner : Process) (hp : HasChannels process.0) (hq : HasChannels partner.0) (long : length underway ≡ channels) where
    pub kept_sending : Kept n (before ++ Sent process partner ∷ []) (raised (channel_place process.0 partner.0) underway) counts total
    kept_sending =
        record {
          messages = λ p j ip ij.
              let was = kept.messages p j ip ij in
              let receipts_stay = no_more (is_receipt j p) before e refl in
              elim (ℕ_discrete (channel_place p j) c) [
                | yes same ↦
                    let is = same_channel process.0 partner.0 p j hp hq ip ij (sym same) in
                    let one = one_more_lem (is_sending p j) before e (pair_yes process.0 partner.0 p j is.0 is.1) in
                    let now = changed underway c (get_or underway c 0 + 1) p j long (place_within process.0 partner.0 hp hq) same in
                    let here : get_or underway (channel_place p j) 0 ≡ get_or underway c 0 = rw same in
                    omega arith
                | no other ↦
                    let none = no_more (is_sending p j) before e
                    (pair_no process.0 partner.0 p j (λ x y. other (rw (x, y)))) in
                    let now = unchanged underway c (get_or underway c 0 + 1) p j long other in
                    omega arith
              ];
          checkpoints = counts_stay e (λ j. refl);
          in_all = total_stays e (λ j. refl);
        }
      where
        e : Event
        e = Sent process partner

        c : ℕ
        c = channel_place process.0 partner.0

    pub kept_receipt : 1 ≤ get_or underway (channel_place partner.0 process.0) 0
        → Kept n (before ++ Received process partner ∷ []) (lowered (channel_place partner.0 process.0) underway) counts total
    kept_receipt some =
        record {
          messages = λ p j ip ij.
              let was = kept.messages p j ip ij in
              let sendings_stay = no_more (is_sending p j) before e refl in
              elim (ℕ_discrete (channel_place p j) c) [
                | yes same ↦
                    let is = same_channel partner.0 process.0 p j hq hp ip ij (sym same) in
                    let one = one_more_lem (is_receipt j p) before e (pair_yes process.0 partner.0 j p is.1 is.0) in
                    let now = changed underway c (get_or underway c 0 - 1) p j long (place_within partner.0 process.0 hq hp) same in
                    let here : get_or underway (channel_place p j) 0 ≡ get_or underway c 0 = rw same in
                    omega arith
                | no other ↦
                    let none = no_more (is_receipt j p) before e
                    (pair_no process.0 partner.0 j p (λ x y. other (rw (x, y)))) in
                    let now = unchanged underway c (get_or underway c 0 - 1) p j long other in
                    omega arith
              ];
          checkpoints = counts_stay e (λ j. refl);
          in_all = total_stays e (λ j. refl);
        }
      where
        e : Event
        e = Received process partner

        c : ℕ
        c = channel_place partner.0 process.0

  -- a checkpoint is one more at its process
  module _ (process : Process) (some : 1 ≤ process.0) (named : process.0 ≤ n) where
    count_more : checkpoint_count (suc (process.0 - 1)) before + 1 ≡ checkpoint_count (suc (process.0 - 1)) (before ++ Checkpointed process ∷ [])
    count_more =
        let is : process.0 ≡ suc (process.0 - 1) = omega arith in
        omega (arith, one_more_lem (is_checkpoint (suc (process.0 - 1))) before (Checkpointed process) (eq-eqb process.0 (suc (process.0 - 1)) is))

    count_other : (j : ℕ) → (j ≡ process.0 - 1 → ⊥) → checkpoint_count (suc j) before ≡ checkpoint_count (suc j) (before ++ Checkpointed process ∷ [])
    count_other j ne =
        omega (arith, no_more (is_checkpoint (suc j)) before (Checkpointed process) (ne_eqb process.0 (suc j) (λ is. ne (omega arith))))

    pub total_more : total + 1 ≡ checkpoints_in_all n (before ++ Checkpointed process ∷ [])
    total_more =
        ap (λ (k : ℕ). k + 1) kept.in_all
        ∙ sum_less n (process.0 - 1) (λ j. checkpoint_count (suc j) (before ++ Checkpointed process ∷ [])) (λ j. checkpoint_count (suc j) before) (omega arith)
        count_more (λ j h ne. count_other j ne)

    pub kept_checkpoint : n ≤ most_processes → Kept n (before ++ Checkpointed process ∷ []) underway (raised (process.0 - 1) counts) (total + 1)
    kept_checkpoint few =
        record {
          messages = λ p j ip ij.
              let was = kept.messages p j ip ij in
              omega (arith, no_more (is_sending p j) before (Checkpointed process) refl, no_more (is_receipt j p) before (Checkpointed process) refl);
          checkpoints = ap (raised (process.0 - 1)) kept.checkpoints
              ∙ padded_raised most_processes n (λ j. checkpoint_count (suc j) before) (λ j. checkpoint_count (suc j) (before ++ Checkpointed process ∷ []))
              (process.0 - 1) few (omega arith) count_more (λ j h ne. count_other j ne);
          in_all = total_more;
        }

  -- ---- there is room for one more

  pub kept_sixteen : n ≤ most_processes → length counts ≡ most_processes
  kept_sixteen few = ap length kept.checkpoints ∙ padded_long most_processes n (λ j. checkpoint_count (suc j) before) few

  module _ (few : n ≤ most_processes) (within : total ≤ most_checkpoints) where
    count_within : (j : ℕ) → get_or counts j 0 ≤ most_checkpoints
    count_within j =
        let f : ℕ → ℕ = λ i. checkpoint_count (suc i) before in
        rw kept.checkpoints
        (elim (dec_lt j n) [
          | yes h ↦ omega (arith, padded_at most_processes n f j h, sum_at n f j h, kept.in_all)
          | no h ↦ omega (arith, padded_past most_processes n f j (omega arith))
        ])

    pub kept_fits : length underway ≡ channels → length before < most_bytes → HasRoom underway counts total
    kept_fits long short =
        record {
          messages = record {
            long = long;
            room = λ i h.
                let p : ℕ = i / row_width + 1 in
                let j : ℕ = i % row_width + 1 in
                let was = kept.messages p j (omega arith, omega arith) (omega arith, omega arith) in
                let at : get_or underway (channel_place p j) 0 ≡ get_or underway i 0 = ap (λ (k : ℕ). get_or underway k 0) (place_of i h) in
                omega (arith, how_many_few (is_sending p j) before);
          };
          checkpoints = record {
            long = kept_sixteen few;
            room = λ j h. count_within j;
          };
          in_all = within;
        }
