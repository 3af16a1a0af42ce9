-- The entries of a list in turn, channel by channel: those so far measured or written, and the bytes of those left.
use mathlib.Core.Path.{◌≡◌, sym, ap, subst, ◌∙◌}
use mathlib.Core.Bool.{Bool, true, false}
use mathlib.Core.List.{List, [], ◌++◌, append-nil, append_assoc}
use Prim.Native.Nat.{ℕ, zero, suc, ◌+◌, ◌-◌, ◌*◌, ◌≤◌, ◌<◌}
use native.Mathlib.Numerals.{add-one}
use native.Mathlib.Omega.{arith}
use lib.ListN.{length}
use Rattle.varint.specs.Sequence.{encode_all}
use Rattle.varint.proofs.Sequence.{encode_all_append}
use Rattle.writer.proofs.Turns as turns
use Rattle.writer.proofs.Turns.{Parts, Counted, Stored, Put}
use Rattle.restart.specs.Values.{matrix_entries}
use Rattle.resend.specs.Layout.{has_entry, one_entry, entries_to, entry_size}
use Rattle.resend.proofs.Entries.{written_none, written_more}
use Rattle.resend_writer.proofs.Entries.{entry_bytes}

module _ (first last : ℕ → ℕ) where
  abbrev entry_at : ℕ → List ℕ
  entry_at i = one_entry (has_entry (first i)) i (first i) (last i)

  -- the entries of m channels from place i on
  unfoldable pub entries_from : ℕ → ℕ → List ℕ
  entries_from i zero = []
  entries_from i (suc m) = entry_at i ++ entries_from (suc i) m

  -- those of the first channels, and then these
  entries_joined : (i m : ℕ) → entries_to i first last ++ entries_from i m ≡ entries_to (i + m) first last
  unfolding entries_from
  entries_joined i zero = let e : i + 0 ≡ i = omega arith in rw e (append-nil (entries_to i first last))
  entries_joined i (suc m) =
      let e : i + suc m ≡ suc i + m = omega arith in
      rw e
      (sym (append_assoc (entries_to i first last) (entry_at i) (entries_from (suc i) m))
      ∙ (ap (λ (l : List ℕ). l ++ entries_from (suc i) m) (sym (written_more first last i)) ∙ entries_joined (suc i) m))

  -- the bytes of all entries, and of those left from place i on
  abbrev pub all_bytes : List ℕ
  all_bytes = encode_all (entries_to matrix_entries first last)

  unfoldable pub bytes_left : ℕ → List ℕ
  bytes_left i = encode_all (entries_from i (matrix_entries - i))

  left_begun : bytes_left 0 ≡ all_bytes
  unfolding bytes_left
  left_begun =
      ap encode_all (sym (ap (λ (l : List ℕ). l ++ entries_from 0 matrix_entries) (written_none first last)) ∙ entries_joined 0 matrix_entries)

  left_done : {i : ℕ} → matrix_entries ≤ i → bytes_left i ≡ []
  unfolding bytes_left entries_from encode_all
  left_done {i} h = let e : matrix_entries - i ≡ 0 = omega arith in rw e

  left_turn : {i : ℕ} {b : Bool} → i < matrix_entries → has_entry (first i) ≡ b
      → bytes_left i ≡ encode_all (one_entry b i (first i) (last i)) ++ bytes_left (i + 1)
  unfolding bytes_left entries_from
  left_turn {i} h is =
      let e : matrix_entries - i ≡ suc (matrix_entries - suc i) = omega arith in
      let rest : List ℕ = entries_from (suc i) (matrix_entries - suc i) in
      rw (add-one i, e)
      (encode_all_append (entry_at i) rest ∙ ap (λ (b : Bool). encode_all (one_entry b i (first i) (last i)) ++ encode_all rest) is)

  -- a channel that has an entry, and one that has none
  left_more : {i : ℕ} → i < matrix_entries → has_entry (first i) ≡ true → Parts (bytes_left i) (entry_bytes i (first i) (last i)) (bytes_left (i + 1))
  left_more h there = record { split = left_turn h there }

  left_same : {i : ℕ} → i < matrix_entries → has_entry (first i) ≡ false → bytes_left i ≡ bytes_left (i + 1)
  unfolding encode_all
  left_same h none = left_turn h none

  -- ---- measuring

  -- the entries of the first i channels are measured
  pub record Measured (i size : ℕ) : Type 0 where
    pub within : i ≤ matrix_entries
    pub few : size ≤ i * entry_size
    pub so_far : Counted all_bytes (bytes_left i) size

  pub measured_none : Measured 0 0
  measured_none = record { within = omega arith; few = omega arith; so_far = turns.counted_begun left_begun }

  module _ {i size : ℕ} (m : Measured i size) (h : i < matrix_entries) where
    pub measured_more : {n : ℕ} → has_entry (first i) ≡ true → n ≡ length (entry_bytes i (first i) (last i)) → n ≤ entry_size
        → Measured (i + 1) (size + n)
    measured_more there e small =
        record {
          within = omega arith;
          few = omega (arith, m.few);
          so_far = turns.counted_more (left_more h there) e m.so_far;
        }

    pub measured_same : has_entry (first i) ≡ false → Measured (i + 1) size
    measured_same none =
        record {
          within = omega arith;
          few = omega (arith, m.few);
          so_far = subst (λ (l : List ℕ). Counted all_bytes l size) (left_same h none) m.so_far;
        }

  pub measured_all : {i size : ℕ} → Measured i size → matrix_entries ≤ i → (size ≡ length all_bytes) × (size ≤ matrix_entries * entry_size)
  measured_all m h = (turns.counted_ended (left_done h) m.so_far, omega (arith, m.within, m.few))

  -- ---- writing

  -- the entries of the first i channels are written
  pub record PutTo (out₀ : List ℕ) (at i : ℕ) (out : List ℕ) (next : ℕ) : Type 0 where
    pub within : i ≤ matrix_entries
    pub so_far : Put all_bytes out₀ at (bytes_left i) out next

  module _ (out₀ : List ℕ) (at : ℕ) where
    pub put_none : PutTo out₀ at 0 out₀ at
    put_none = record { within = omega arith; so_far = turns.put_begun left_begun }

    module _ {i next : ℕ} {out : List ℕ} (p : PutTo out₀ at i out next) (h : i < matrix_entries) where
      -- there is room for the next entry
      pub put_room : at + length all_bytes ≤ length out₀ → has_entry (first i) ≡ true
          → next + length (entry_bytes i (first i) (last i)) ≤ length out
      put_room room there = turns.put_room (left_more h there) room p.so_far

      pub put_more : {out' : List ℕ} {next' : ℕ} → has_entry (first i) ≡ true → Stored (entry_bytes i (first i) (last i)) out next out' next'
          → PutTo out₀ at (i + 1) out' next'
      put_more there w = record { within = omega arith; so_far = turns.put_more (left_more h there) w p.so_far }

      pub put_same : has_entry (first i) ≡ false → PutTo out₀ at (i + 1) out next
      put_same none =
          record {
            within = omega arith;
            so_far = subst (λ (l : List ℕ). Put all_bytes out₀ at l out next) (left_same h none) p.so_far;
          }

    pub put_all : {i next : ℕ} {out : List ℕ} → PutTo out₀ at i out next → matrix_entries ≤ i → Stored all_bytes out₀ at out next
    put_all p h = turns.put_ended (left_done h) p.so_far

-- by another name of the buffer and the place, as where branches meet
pub put_came : {first last : ℕ → ℕ} {out₀ out out' : List ℕ} {at i next next' : ℕ} → out' ≡ out → next' ≡ next
    → PutTo first last out₀ at i out next → PutTo first last out₀ at i out' next'
put_came e f put = rw (e, f) put
