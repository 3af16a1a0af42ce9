-- Counters and tallies: there and back.
use mathlib.Core.Path.{◌≡◌, sym, ap, ◌∙◌}
use mathlib.Core.List.{List}
use Prim.Native.Nat.{ℕ, ◌+◌, ◌<◌}
use native.Mathlib.Omega.{arith}
use Rattle.book.specs.declared.Count.{Count}
use Rattle.lists.proofs.Over.{get_d_tab, tab_is}
use Rattle.consistency.specs.Known.{counters}
use Rattle.machine.specs.Named.{tally_bound}
use Rattle.words.specs.Words.{word, counter_bound, counter_in, tally_in, counts_at, count_words}
use Rattle.word_laws.specs.Values.{AreCounts}
use Rattle.word_laws.proofs.Lying.{Lies, lies_tab_in, lies_tab_out}
use Rattle.word_laws.proofs.Below.{Below, below_tab}

pub counter_small : (w : ℕ) → w < counter_bound → counter_in w ≡ w
counter_small w h = omega arith

pub tally_small : (w : ℕ) → w < tally_bound → tally_in w ≡ w
tally_small w h = omega arith

module _ {words : List ℕ} {at k : ℕ} where
  pub counts_back : {counts : List Count} → AreCounts k counts → Lies words at (count_words k counts)
      → counts_at k words at ≡ counts
  unfolding counts_at
  counts_back {counts} are lies =
      let f : ℕ → Count = λ i. record { 0 = counter_in (word words (at + i)) } in
      sym (tab_is (record { 0 = 0 }) k f counts are.long (λ i h. ap {B = Count} (λ (v : ℕ). record { 0 = v }) (at_each i h)))
    where
      at_each : (i : ℕ) → i < k → counters counts i ≡ counter_in (word words (at + i))
      at_each i h = sym (ap counter_in (lies_tab_in k (counters counts) lies i h) ∙ counter_small (counters counts i) (are.low i h))

  pub counts_below : {counts : List Count} → AreCounts k counts → Lies words at (count_words k counts)
      → Below counter_bound words at k
  counts_below {counts} are lies = below_tab k (counters counts) lies are.low

  pub counts_form : Below counter_bound words at k → Lies words at (count_words k (counts_at k words at))
  unfolding counts_at
  counts_form below = lies_tab_out k (counters (counts_at k words at)) (λ i h. at_each i h)
    where
      at_each : (i : ℕ) → i < k → word words (at + i) ≡ counters (counts_at k words at) i
      at_each i h =
          let f : ℕ → Count = λ i. record { 0 = counter_in (word words (at + i)) } in
          sym (ap (λ (c : Count). c.0) (get_d_tab k f i (record { 0 = 0 }) h) ∙ counter_small (word words (at + i)) (below.each i h))
