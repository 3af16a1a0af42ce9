-- How many entries a list has, and how many bytes it takes.
use mathlib.Core.Path.{◌≡◌, refl}
use mathlib.Core.Bool.{Bool, true, false, ◌&&◌}
use mathlib.Core.List.{List, ◌++◌}
use Prim.Native.Nat.{ℕ, zero, suc, ◌+◌, ◌-◌, ◌*◌, ◌/◌, ◌%◌, ◌≤◌, ◌<◌}
use native.Mathlib.Omega.{arith}
use borrow.Author.Tests.{leb-true, eqb-true, lt-ltb, ne_eqb}
use lib.ListN.{length, length-append}
use lib.Dec.{leb, eqb}
use Rattle.varint.specs.Number.{encode}
use Rattle.varint.specs.Sequence.{encode_all}
use Rattle.varint.proofs.Encode.{encode_last, encode_size}
use Rattle.book.specs.Bounds.{groups}
use Rattle.book.proofs.Bounds.{groups_some, largest_fits}
use Rattle.lists.specs.Over.{all_to, sum_to}
use Rattle.lists.specs.Pick.{pick}
use Rattle.lists.proofs.Over.{all_in, sum_le}
use Rattle.lists.proofs.Tests.{and_both}
use Rattle.matrix.specs.Matrix.{is_pair}
use Rattle.resend.specs.Layout.{has_entry, entry_count_to, entry_size}
use Rattle.resend_laws.specs.Lists.{IsEntry}
use Rattle.resend_laws.proofs.Written.{entries_from, count_from, from_none, from_some}

-- ---- how many

-- the channels among n processes
channels : ℕ → ℕ
channels n = sum_to 256 (λ i. pick (is_pair n (i / 16) (i % 16)) 1 0)

-- n (n − 1) for every n, and at most 240
channels_are : (n : ℕ) → n ≤ 16 → (channels n ≡ n * (n - 1)) × (channels n ≤ 240)
unfolding all_to sum_to channels
channels_are n few =
    let both = and_both (eqb (channels n) (n * (n - 1))) (leb (channels n) 240)
    (all_in 17 (λ k. eqb (channels k) (k * (k - 1)) && leb (channels k) 240) refl n (omega arith)) in
    (eqb-true (channels n) (n * (n - 1)) both.0, leb-true (channels n) 240 both.1)

module _ (n : ℕ) (few : n ≤ 16) (f l : ℕ → ℕ) (some : (i : ℕ) → i < 256 → has_entry (f i) ≡ true → IsEntry n i (f i) (l i)) where
  count_channels : entry_count_to 256 f ≤ channels n
  unfolding channels
  count_channels = sum_le 256 (λ i. pick (has_entry (f i)) 1 0) (λ i. pick (is_pair n (i / 16) (i % 16)) 1 0) (λ i h. go i h (has_entry (f i)) refl)
    where
      go : (i : ℕ) → i < 256 → (t : Bool) → has_entry (f i) ≡ t → pick (has_entry (f i)) 1 0 ≤ pick (is_pair n (i / 16) (i % 16)) 1 0
      go i h true e =
          let is = some i h e in
          rw (e, lt-ltb (i / 16) n is.sender, lt-ltb (i % 16) n is.receiver, ne_eqb (i / 16) (i % 16) is.other) (omega arith)
      go i h false e = rw e (omega arith)

  -- an entry for each channel at most
  pub count_few : (entry_count_to 256 f ≤ n * (n - 1)) × (entry_count_to 256 f ≤ 240)
  count_few = let are = channels_are n few in let c = count_channels in (omega arith, omega arith)

  -- ---- how long

  -- two processes of one byte each, and two counters
  pub from_bytes : (k i : ℕ) → i + k ≡ 256 → length (encode_all (entries_from i k f l)) ≤ count_from i k f * entry_size
  unfolding entries_from count_from encode_all
  from_bytes zero i all = omega arith
  from_bytes (suc k) i all = go (has_entry (f i)) refl (from_bytes k (suc i) (omega arith))
    where
      rest : List ℕ
      rest = entries_from (suc i) k f l

      go : (t : Bool) → has_entry (f i) ≡ t → length (encode_all rest) ≤ count_from (suc i) k f * entry_size
          → length (encode_all (entries_from i (suc k) f l)) ≤ count_from i (suc k) f * entry_size
      go false e ih = rw ((from_none f l i k e).0, (from_none f l i k e).1) ih
      go true e ih =
          let is = some i (omega arith) e in
          let a : length (encode (f i)) ≤ groups = encode_size groups (f i) groups_some (omega (arith, is.rising, is.most, largest_fits)) in
          let b : length (encode (l i)) ≤ groups = encode_size groups (l i) groups_some (omega (arith, is.most, largest_fits)) in
          rw (
            (from_some f l i k e).0,
            (from_some f l i k e).1,
            encode_last (suc (i / 16)) (omega arith),
            encode_last (suc (i % 16)) (omega arith),
            length-append (encode (f i)) (encode (l i) ++ encode_all rest),
            length-append (encode (l i)) (encode_all rest),
          ) (omega arith)
