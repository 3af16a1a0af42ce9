-- Where slots begin, and the room for one message.
use mathlib.Core.Path.{◌≡◌}
use mathlib.Core.Bool.{Bool, true, false, not, ◌||◌}
use Prim.Native.Nat.{ℕ, ◌+◌, ◌-◌, ◌*◌, ◌≤◌, ◌<◌}
use native.Mathlib.Nat.{mul-le-mul}
use borrow.Author.Tests.{lt-ltb, le-ltb, leb-true}
use lib.ListN.{length}
use lib.Dec.{leb}
use Rattle.book.specs.Bounds.{most_processes}
use Rattle.lists.proofs.Tests.{if_then}
use Rattle.mail.specs.declared.Outgoing.{Outgoing}
use Rattle.mail.specs.Outgoing.{goes_to, bytes_to}
use Rattle.strands.specs.Strands.{slot_size, strand_start, room_for_all}

-- ---- where a slot begins

pub start_few : (j size : ℕ) → j ≤ most_processes - 1 → size ≤ slot_size most_processes → j * size ≤ room_for_all most_processes
start_few j size h k = mul-le-mul h k

module _ (n initiator k : ℕ) {size : ℕ} (e : size ≡ slot_size n) where
  -- after the initiator's place, which has none, and before it
  pub start_after : initiator < k → (k - 1) * size ≡ strand_start n initiator k
  start_after h = rw (lt-ltb initiator k h, e)

  pub start_before : k ≤ initiator → k * size ≡ strand_start n initiator k
  start_before h = rw (le-ltb initiator k h, e)

-- ---- the room for one message

abbrev pub room_for : ℕ → ℕ → Outgoing → ℕ → ℕ → Bool
room_for n initiator o room k = not (goes_to o k) || leb (strand_start n initiator k + length (bytes_to o k)) room

module _ (n initiator : ℕ) (o : Outgoing) (room k : ℕ) where
  pub room_none : goes_to o k ≡ false → room_for n initiator o room k ≡ true
  room_none h = rw h

  pub room_some : {at size : ℕ} → goes_to o k ≡ true → at ≡ strand_start n initiator k → size ≡ length (bytes_to o k)
      → leb (at + size) room ≡ room_for n initiator o room k
  room_some h e f = rw (e, f, h)

  pub room_is : goes_to o k ≡ true → room_for n initiator o room k ≡ true → strand_start n initiator k + length (bytes_to o k) ≤ room
  room_is h r =
      let end : ℕ = strand_start n initiator k + length (bytes_to o k) in
      leb-true end room (if_then (goes_to o k) (leb end room) r h)
