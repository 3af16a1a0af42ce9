-- What is put on strands: a strand that gets a message holds it, and every other what it held.
use mathlib.Core.Path.{◌≡◌, refl, sym, ap, ◌∙◌}
use mathlib.Core.Bool.{Bool, true, false, true≢false}
use mathlib.Core.List.{List}
use Prim.Native.Nat.{ℕ, ◌+◌, ◌-◌, ◌≤◌, ◌<◌}
use native.Mathlib.Omega.{arith}
use lib.ListN.{length, take, drop}
use lib.Seq.{sets}
use Rattle.book.specs.Bounds.{most_processes}
use Rattle.lists.specs.Pick.{pick}
use Rattle.mail.specs.Outgoing.{goes_to, bytes_to}
use Rattle.strands.specs.Strands.{slot_size, strand_start, length_on, strand_bytes, have_room, posted}
use Rattle.session.specs.declared.Session.{Session}
use Rattle.session.specs.declared.Turned.{Turned}
use Rattle.session.specs.Steps.{with_posted}
use Rattle.session_theory.proofs.Search.{Search, IsSearch, size, lead, is_part}
use Rattle.session_theory.proofs.Invariant.{LaidAt, Laid}
use Rattle.session_theory.proofs.Boxes.{lengths_at}
use Rattle.session_theory.proofs.Facts.{part_other, part_within}
use Rattle.session_theory.proofs.Moves.{ToParticipants, Short}
use Rattle.strand_laws.proofs.Runs.{sets_apart}
use Rattle.strand_laws.proofs.Slots.{slots_apart}
use Rattle.mail.proofs.Messages.{bytes_none}
use Rattle.strand_laws.proofs.Posted.{room_in, length_posted, posted_other, posted_there}

-- where k's slot begins
abbrev start_of : Search → ℕ → ℕ
start_of g k = strand_start (size g) (lead g) k

-- the buffer with what a call puts on strands
abbrev afterwards : Search → Turned → List ℕ → List ℕ
afterwards g t strands = posted (size g) (lead g) t.outgoing strands

-- ---- one strand

-- a strand holds these bytes, told by its own length and place
module _ (g : Search) (s : Session) (strands : List ℕ) (k : ℕ) (b : List ℕ) (leads : s.initiator.0 ≡ g.initiator.0) where
  pub laid_in : LaidAt g s strands k b → take (length b) (drop (start_of g k) strands) ≡ b
  unfolding strand_bytes
  laid_in laid =
      sym (ap (λ (x : ℕ). take x (drop (start_of g k) strands)) laid.long)
      ∙ ap (λ (x : ℕ). take (length_on s.lengths k) (drop (strand_start (size g) (x - 1) k) strands)) (sym leads)
      ∙ laid.bytes

  pub laid_out :
      length_on s.lengths k ≡ length b → take (length b) (drop (start_of g k) strands) ≡ b
      → length b ≤ slot_size (size g) → (1 ≤ length b → start_of g k + length b ≤ length strands)
      → LaidAt g s strands k b
  unfolding strand_bytes
  laid_out long holds short within =
      record {
        bytes =
            ap (λ (x : ℕ). take (length_on s.lengths k) (drop (strand_start (size g) (x - 1) k) strands)) leads
            ∙ ap (λ (x : ℕ). take x (drop (start_of g k) strands)) long
            ∙ holds;
        long = long;
        short = short;
        within = within;
      }

-- ---- posting

-- after posting, a strand holds what was put on it, or what it held
module _ (g : Search) (is : IsSearch g) (t : Turned) (strands : List ℕ) (leads : t.session.initiator.0 ≡ g.initiator.0)
    (parts : ToParticipants g t.outgoing) (short : Short g t.outgoing)
    (room : have_room (size g) (lead g) t.outgoing strands ≡ true) where
  -- a message to another participant does not touch q's slot
  untouched :
      (q m : ℕ) → is_part g q ≡ true → m ≤ slot_size (size g) → (j : ℕ) → j < most_processes
      → (goes_to t.outgoing j ≡ true → j ≡ q → ⊥) → (l : List ℕ)
      → take m (drop (start_of g q) (sets l (start_of g j) (bytes_to t.outgoing j)))
      ≡ take m (drop (start_of g q) l)
  untouched q m there fits j small other l = go (goes_to t.outgoing j) refl where
    go :
        (v : Bool) → goes_to t.outgoing j ≡ v
        → take m (drop (start_of g q) (sets l (start_of g j) (bytes_to t.outgoing j)))
        ≡ take m (drop (start_of g q) l)
    go true e =
        sets_apart (start_of g q) m (bytes_to t.outgoing j) l (start_of g j)
        (slots_apart (size g) (lead g) q j m (length (bytes_to t.outgoing j)) (part_other g q there)
        (part_other g j (parts j small e)) (λ p. other e (sym p)) fits (short j small e))
    go false e =
        ap
        (λ (b : List ℕ). take m (drop (start_of g q) (sets l (start_of g j) b)))
        (bytes_none t.outgoing j e)

  length_then : (k : ℕ) → k < most_processes
      → length_on (with_posted t).lengths k
      ≡ pick (goes_to t.outgoing k) (length (bytes_to t.outgoing k)) (length_on t.session.lengths k)
  unfolding with_posted
  length_then k small = lengths_at t.outgoing t.session.lengths k small

  same_leader : (with_posted t).initiator.0 ≡ g.initiator.0
  unfolding with_posted
  same_leader = leads

  laid_put : (k : ℕ) → is_part g k ≡ true → goes_to t.outgoing k ≡ true
      → LaidAt g (with_posted t) (afterwards g t strands) k (bytes_to t.outgoing k)
  laid_put k there goes =
      let small : k < most_processes = part_within g is k there in
      let fits : start_of g k + length (bytes_to t.outgoing k) ≤ length strands =
      room_in (size g) (lead g) t.outgoing strands room k small goes in
      laid_out g (with_posted t) (afterwards g t strands) k (bytes_to t.outgoing k) same_leader
      (length_then k small
      ∙ ap
      (λ (v : Bool). pick v (length (bytes_to t.outgoing k)) (length_on t.session.lengths k))
      goes)
      (posted_there (size g) (lead g) t.outgoing strands most_processes k small fits
      (λ j h other. untouched k (length (bytes_to t.outgoing k)) there (short k small goes) j h (λ _. other)))
      (short k small goes)
      (λ _. omega (arith, length_posted (size g) (lead g) t.outgoing strands most_processes))

  laid_kept : (k : ℕ) (b : List ℕ) → is_part g k ≡ true → goes_to t.outgoing k ≡ false → LaidAt g t.session strands k b
      → LaidAt g (with_posted t) (afterwards g t strands) k b
  laid_kept k b there stays laid =
      let small : k < most_processes = part_within g is k there in
      laid_out g (with_posted t) (afterwards g t strands) k b same_leader
      (length_then k small
      ∙ ap
      (λ (v : Bool). pick v (length (bytes_to t.outgoing k)) (length_on t.session.lengths k))
      stays
      ∙ laid.long)
      (posted_other (size g) (lead g) t.outgoing strands most_processes (start_of g k) (length b)
      (λ j h. untouched k (length b) there laid.short j h
      (λ goes e. true≢false (sym goes ∙ ap (goes_to t.outgoing) e ∙ stays)))
      ∙ laid_in g t.session strands k b leads laid)
      laid.short
      (λ some.
      let h : start_of g k + length b ≤ length strands = laid.within some in
      omega (arith, length_posted (size g) (lead g) t.outgoing strands most_processes))

  pub laid_posted : (rest : ℕ → List ℕ) → Laid g t.session strands rest
      → Laid g (with_posted t) (afterwards g t strands)
      (λ k. pick (goes_to t.outgoing k) (bytes_to t.outgoing k) (rest k))
  laid_posted rest laid k there = go (goes_to t.outgoing k) refl where
    go :
        (v : Bool) → goes_to t.outgoing k ≡ v
        → LaidAt g (with_posted t) (afterwards g t strands) k (pick v (bytes_to t.outgoing k) (rest k))
    go true e = laid_put k there e
    go false e = laid_kept k (rest k) there e (laid k there)
