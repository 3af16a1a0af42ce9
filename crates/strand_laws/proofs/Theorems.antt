-- The strands after a start and after a turn, and the room that they need.
use mathlib.Core.Path.{◌≡◌, refl, ap, subst, ◌∙◌}
use mathlib.Core.Bool.{Bool, true, false}
use mathlib.Core.List.{List, []}
use Prim.Native.Nat.{ℕ, ◌+◌, ◌≤◌, ◌<◌}
use native.Mathlib.Omega.{arith}
use borrow.Author.Tests.{eqb-true, eqb-false}
use lib.ListN.{length, set, get_or-replicate}
use lib.Dec.{eqb}
use lib.Seq.{get_or-set_same, get_or-set_other}
use Rattle.book.specs.Bounds.{most_processes}
use Rattle.lists.specs.Pick.{pick}
use Rattle.message.specs.Layout.{message_bytes}
use Rattle.mail.specs.declared.Outgoing.{Outgoing}
use Rattle.mail.specs.Outgoing.{goes_to, message_to, bytes_to}
use Rattle.strands.specs.Strands.{strand_start, room_for_all, length_on, posted}
use Rattle.session.specs.declared.Session.{Session}
use Rattle.session.specs.Steps.{begun, with_posted}
use Rattle.session_theory.proofs.Search.{Search, IsSearch, size, lead, is_part}
use Rattle.session_theory.proofs.Invariant.{LaidAt, Laid}
use Rattle.session_theory.proofs.Facts.{lead_in, part_in, part_other, part_within}
use Rattle.session_theory.proofs.Moves.{LaidAfter, LaidBegun, RoomSuffices, begins}
use Rattle.strand_laws.proofs.Slots.{slot_within}
use Rattle.strand_laws.proofs.Posted.{room_out, length_posted}
use Rattle.strand_laws.proofs.Laying.{laid_in, laid_out, laid_posted}

pub room_suffices : RoomSuffices
room_suffices g o strands is parts short room =
    room_out (size g) (lead g) o strands
    (λ k small goes.
    let there : is_part g k ≡ true = parts k small goes in
    let fits : strand_start (size g) (lead g) k + length (bytes_to o k) ≤ room_for_all (size g) =
    slot_within (size g) (lead g) k (length (bytes_to o k)) (part_other g k there) (lead_in g is) (part_in g k there)
    (short k small goes) in
    omega arith)

-- ---- a turn and a start

-- what a turn leaves on the strands before it posts
taken :
    (g : Search) (s s' : Session) (strands : List ℕ) (box : ℕ → List ℕ) (p : ℕ) → IsSearch g → is_part g p ≡ true
    → length s.lengths ≡ most_processes → Laid g s strands box → s.initiator.0 ≡ g.initiator.0
    → s'.initiator.0 ≡ g.initiator.0 → s'.lengths ≡ set s.lengths p 0
    → Laid g s' strands (λ k. pick (eqb k p) [] (box k))
taken g s s' strands box p is part long laid leads leads' emptied k there = go (eqb k p) refl where
  go : (v : Bool) → eqb k p ≡ v → LaidAt g s' strands k (pick v [] (box k))
  go true e =
      let h : p < length s.lengths = omega (arith, part_within g is p part) in
      laid_out g s' strands k [] leads'
      (ap (λ (x : ℕ). length_on s'.lengths x) (eqb-true k p e)
      ∙ ap (λ (l : List ℕ). length_on l p) emptied
      ∙ get_or-set_same s.lengths p 0 0 h)
      refl
      (omega arith)
      (λ some. absurd (omega arith))
  go false e =
      laid_out g s' strands k (box k) leads'
      (ap (λ (l : List ℕ). length_on l k) emptied
      ∙ get_or-set_other s.lengths p k 0 0 (eqb-false k p e)
      ∙ (laid k there).long)
      (laid_in g s strands k (box k) leads (laid k there))
      (laid k there).short
      (laid k there).within

pub laid_after : LaidAfter
laid_after g s t strands box p is part long laid leads leads' emptied parts short room = (
  laid_posted g is t strands leads' parts short room (λ k. pick (eqb k p) [] (box k))
      (taken g s t.session strands box p is part long laid leads leads' emptied),
  length_posted (size g) (lead g) t.outgoing strands most_processes,
)

-- nothing waits before a start
none : (g : Search) (strands : List ℕ) → IsSearch g → Laid g (begins g).session strands (λ k. [])
unfolding begun
none g strands is k there =
    laid_out g (begins g).session strands k [] refl (get_or-replicate most_processes k 0 0 (part_within g is k there)) refl
    (omega arith) (λ some. absurd (omega arith))

begins_lead : (g : Search) → (begins g).session.initiator.0 ≡ g.initiator.0
unfolding begun
begins_lead g = refl

-- bytes to nobody are none
only_bytes : (o : Outgoing) (k : ℕ) → pick (goes_to o k) (bytes_to o k) [] ≡ bytes_to o k
only_bytes o k = go (goes_to o k) (message_bytes (message_to o k)) where
  go : (v : Bool) (m : List ℕ) → pick v (pick v m []) [] ≡ pick v m []
  go true m = refl
  go false m = refl

pub laid_begun : LaidBegun
laid_begun g strands is parts short room = (
  λ k there.
      subst (λ (b : List ℕ). LaidAt g (with_posted (begins g)) (posted (size g) (lead g) (begins g).outgoing strands) k b)
      (only_bytes (begins g).outgoing k)
      (laid_posted g is (begins g) strands (begins_lead g) parts short room (λ j. []) (none g strands is) k there),
  length_posted (size g) (lead g) (begins g).outgoing strands most_processes,
)
