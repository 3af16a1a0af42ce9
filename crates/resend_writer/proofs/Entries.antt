-- An entry as four numbers: measured, and written one after another. And the bytes of a list: its count, then its entries.
use mathlib.Core.Path.{◌≡◌, refl}
use mathlib.Core.Bool.{true}
use mathlib.Core.List.{List, [], ◌∷◌}
use Prim.Native.Nat.{ℕ, suc, ◌+◌, ◌^◌, ◌/◌, ◌%◌, ◌≤◌, ◌<◌}
use native.Mathlib.Numerals.{add-one}
use native.Mathlib.Omega.{arith}
use lib.ListN.{length}
use Rattle.varint.specs.Number.{encode}
use Rattle.varint.specs.Sequence.{encode_all}
use Rattle.varint.proofs.Encode.{encode_size}
use Rattle.book.specs.Bounds.{groups, row_width}
use Rattle.writer.proofs.Turns.{Parts, counted_first, counted_more, counted_ended, Stored, put_begun, put_more, put_ended}
use Rattle.restart.specs.declared.Resend.{Resend}
use Rattle.resend.specs.Layout.{one_entry, entry_count, entries_of, list_bytes}

-- a number, and then those after it
number_first : (n : ℕ) (ns : List ℕ) → Parts (encode_all (n ∷ ns)) (encode n) (encode_all ns)
unfolding encode_all
number_first n ns = record { split = refl }

nothing_left : encode_all [] ≡ []
unfolding encode_all
nothing_left = refl

-- ---- an entry

-- a process takes one byte, a counter as many as it has groups at most
pub process_small : {n size : ℕ} → n ≤ row_width → size ≡ length (encode n) → size ≤ 1
process_small {n} h e = rw e (encode_size 1 n (omega arith) (omega arith))

pub counter_small : {n counter size : ℕ} → counter < 2 ^ 32 → n ≡ counter → size ≡ length (encode n) → size ≤ groups
counter_small {n} h e f = rw f (encode_size groups n (omega arith) (omega arith))

module _ (i first last : ℕ) where
  abbrev pub entry_bytes : List ℕ
  entry_bytes = encode_all (one_entry true i first last)

  -- what is left after the sender, and after the receiver
  abbrev from_receiver : List ℕ
  from_receiver = encode_all (suc (i % row_width) ∷ first ∷ last ∷ [])

  abbrev from_first : List ℕ
  from_first = encode_all (first ∷ last ∷ [])

  sender_part : Parts entry_bytes (encode (i / row_width + 1)) from_receiver
  sender_part = rw (add-one (i / row_width)) (number_first (suc (i / row_width)) (suc (i % row_width) ∷ first ∷ last ∷ []))

  receiver_part : Parts from_receiver (encode (i % row_width + 1)) from_first
  receiver_part = rw (add-one (i % row_width)) (number_first (suc (i % row_width)) (first ∷ last ∷ []))

  first_part : {v : ℕ} → v ≡ first → Parts from_first (encode v) (encode_all (last ∷ []))
  first_part e = rw e (number_first first (last ∷ []))

  last_part : {v : ℕ} → v ≡ last → Parts (encode_all (last ∷ [])) (encode v) (encode_all [])
  last_part e = rw e (number_first last [])

  -- measured
  pub entry_size : {v w a b c d : ℕ} → v ≡ first → w ≡ last → a ≡ length (encode (i / row_width + 1)) → b ≡ length (encode (i % row_width + 1))
      → c ≡ length (encode v) → d ≡ length (encode w) → a + b + c + d ≡ length entry_bytes
  entry_size e f sender receiver from to =
      counted_ended nothing_left
      (counted_more (last_part f) to (counted_more (first_part e) from (counted_more receiver_part receiver (counted_first sender_part sender))))

  -- written
  pub entry_put : {v w second third fourth end : ℕ} {out₁ out₂ out₃ out₄ : List ℕ} (out : List ℕ) (at : ℕ) → v ≡ first → w ≡ last
      → Stored (encode (i / row_width + 1)) out at out₁ second → Stored (encode (i % row_width + 1)) out₁ second out₂ third
      → Stored (encode v) out₂ third out₃ fourth → Stored (encode w) out₃ fourth out₄ end → Stored entry_bytes out at out₄ end
  entry_put out at e f sender receiver from to =
      put_ended nothing_left
      (put_more (last_part f) to (put_more (first_part e) from (put_more receiver_part receiver (put_more sender_part sender (put_begun refl)))))

-- ---- a list

pub list_parts : (list : Resend) {count : ℕ} → count ≡ entry_count list → Parts (list_bytes list) (encode count) (encode_all (entries_of list))
unfolding list_bytes
list_parts list e = rw e (number_first (entry_count list) (entries_of list))
