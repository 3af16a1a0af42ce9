-- What every turn keeps, be it a search's invariant or a restart's: `Inv` says what holds of a session and of what waits on
-- each strand.
use mathlib.Core.Path.{◌≡◌, refl, sym, ap, subst, ◌∙◌}
use mathlib.Core.Bool.{Bool, true, false, true≢false}
use mathlib.Core.List.{List, []}
use mathlib.Core.Logic.{◌⊎◌, inl, inr, ⊎_elim}
use Prim.Native.Nat.{ℕ, ◌+◌, ◌-◌, ◌≤◌, ◌<◌}
use native.Mathlib.Omega.{arith}
use borrow.Author.Tests.{eq-eqb, ne_eqb}
use lib.ListN.{length, set}
use Rattle.book.specs.declared.Process.{Process}
use Rattle.lists.specs.Pick.{pick}
use Rattle.mail.specs.declared.Outgoing.{Outgoing}
use Rattle.mail.specs.Outgoing.{goes_to}
use Rattle.strands.specs.Strands.{slot_size, room_for_all, have_room}
use Rattle.session.specs.declared.Session.{Session}
use Rattle.session.specs.declared.Turned.{Turned}
use Rattle.session.specs.Workers.{waits_on}
use Rattle.session.specs.Steps.{with_posted}
use Rattle.session.specs.Turns.{Ongoing, turn_accepted}
use Rattle.session_theory.proofs.Search.{Search, IsSearch, size, lead, is_part}
use Rattle.session_theory.proofs.Invariant.{Placed, Laid, box_after}
use Rattle.session_theory.proofs.Moves.{Passes, ToParticipants, Short}
use Rattle.session_theory.proofs.Boxes.{box_sent}
use Rattle.strand_laws.proofs.Posted.{room_out}
use Rattle.strand_laws.proofs.Theorems.{laid_after, room_suffices}
use Rattle.demand3.proofs.Workers.{none_waits, box_waits, box_empty}
use Rattle.demand3.proofs.Turn.{question_of, next_of, goes, Refused, refuse, Accepted, Before, is_named_part, named_part, part_named, unnamed, empty, no_room, accept}

room_none : (n i : ℕ) (o : Outgoing) (strands : List ℕ) → ((q : ℕ) → q < 16 → goes_to o q ≡ false) → have_room n i o strands ≡ true
room_none n i o strands none = room_out n i o strands (λ k small sent. absurd (true≢false (sym sent ∙ none k small)))

posted_delivered : (t : Turned) → (with_posted t).delivered ≡ t.session.delivered
unfolding with_posted
posted_delivered t = refl

-- the message on k's strand was taken off it, and its delivery counted
pub record Delivers (s : Session) (k : ℕ) (t : Turned) : Type 0 where
  pub leader : t.session.initiator ≡ s.initiator
  pub lengths : t.session.lengths ≡ set s.lengths k 0
  pub delivered : t.session.delivered ≡ s.delivered + 1

-- a message waits on k's strand, and after its delivery the same holds again
pub record Delivery (g : Search) (Inv : Session → (ℕ → List ℕ) → Type 0) (s : Session) (box : ℕ → List ℕ) (k : ℕ) : Type 0 where
  pub some : 1 ≤ length (box k)
  pub delivers : Delivers s k (goes g s k (box k))
  pub to_parts : ToParticipants g (goes g s k (box k)).outgoing
  pub after : Inv (with_posted (goes g s k (box k))) (box_after (goes g s k (box k)).outgoing k box)

pub record Kept (g : Search) (Inv : Session → (ℕ → List ℕ) → Type 0) : Type 0 where
  pub placed : (s : Session) (box : ℕ → List ℕ) → Inv s box → Placed g s
  pub passes :
      (s : Session) (strands : List ℕ) (box : ℕ → List ℕ) → Inv s box → Laid g s strands box → Passes g s strands
  pub short :
      (s : Session) (box : ℕ → List ℕ) → Inv s box → (k : ℕ) → is_part g k ≡ true → length (box k) ≤ slot_size (size g)
  pub moves :
      (s : Session) (box : ℕ → List ℕ) (k : ℕ) → Inv s box → is_part g k ≡ true → (box k ≡ []) ⊎ Delivery g Inv s box k

pub record Holds (g : Search) (Inv : Session → (ℕ → List ℕ) → Type 0) (o : Ongoing) : Type 0 where
  pub box : ℕ → List ℕ
  pub laid : Laid g o.session o.strands box
  pub state : Inv o.session box

-- what a turn that delivers leaves
pub record Moved (g : Search) (Inv : Session → (ℕ → List ℕ) → Type 0) (o : Ongoing) (p : Process) (box : ℕ → List ℕ) : Type 0 where
  pub named : is_named_part g p ≡ true
  pub delivery : Delivery g Inv o.session box (p.0 - 1)
  pub accepted : Accepted g o p (goes g o.session (p.0 - 1) (box (p.0 - 1)))
  pub laid :
      Laid g (next_of g o p).session (next_of g o p).strands
      (box_after (goes g o.session (p.0 - 1) (box (p.0 - 1))).outgoing (p.0 - 1) box)
  pub long : length (next_of g o p).strands ≡ length o.strands

module _ (g : Search) (is : IsSearch g) (Inv : Session → (ℕ → List ℕ) → Type 0) (kept : Kept g Inv) where
  module _ (o : Ongoing) (holds : Holds g Inv o) where
    abbrev s : Session
    s = o.session

    pub placed_in : Placed g s
    placed_in = kept.placed s holds.box holds.state

    before : Before g o holds.box
    before =
        record {
          leader = placed_in.leader;
          laid = holds.laid;
          passes = kept.passes s o.strands holds.box holds.state holds.laid;
        }

    -- a strand on which a message waits is a participant's
    pub waits_part : (k : ℕ) → waits_on s k ≡ true → is_part g k ≡ true
    waits_part k some = go (is_part g k) refl
      where
        go : (v : Bool) → is_part g k ≡ v → is_part g k ≡ true
        go true e = e
        go false e = absurd (true≢false (sym some ∙ none_waits g s placed_in k e))

    module _ (p : Process) where
      abbrev k : ℕ
      k = p.0 - 1

      abbrev t : Turned
      t = goes g s k (holds.box k)

      short_sent : Delivery g Inv s holds.box k → Short g t.outgoing
      short_sent d q small sent =
          subst (λ (b : List ℕ). length b ≤ slot_size (size g)) (box_sent t.outgoing k holds.box q sent)
          (kept.short (with_posted t) (box_after t.outgoing k holds.box) d.after q (d.to_parts q small sent))

      moved : (named : is_named_part g p ≡ true) → Delivery g Inv s holds.box k → Accepted g o p t → Moved g Inv o p holds.box
      moved named d a =
          let laid = laid_after g s t o.strands holds.box k is (named_part g p named) placed_in.all_lengths
          holds.laid (ap (λ (i : Process). i.0) placed_in.leader)
          (ap (λ (i : Process). i.0) (d.delivers.leader ∙ placed_in.leader)) d.delivers.lengths d.to_parts
          (short_sent d) a.room in
          record {
            named = named;
            delivery = d;
            accepted = a;
            laid = rw (a.session, a.strands) laid.0;
            long = ap length a.strands ∙ laid.1;
          }

      unwaiting : (named : is_named_part g p ≡ true) → holds.box k ≡ [] → waits_on s k ≡ false
      unwaiting named none = box_empty g s o.strands holds.box holds.laid k (named_part g p named) none

      waiting : (named : is_named_part g p ≡ true) → Delivery g Inv s holds.box k → waits_on s k ≡ true
      waiting named d = box_waits g s o.strands holds.box holds.laid k (named_part g p named) d.some

      -- it delivers, or is refused
      pub turn : Refused g o p ⊎ Moved g Inv o p holds.box
      turn = go (is_named_part g p) refl
        where
          -- by what waits there, and whether there is room
          at : (named : is_named_part g p ≡ true) → (holds.box k ≡ []) ⊎ Delivery g Inv s holds.box k
              → (room : Bool) → have_room (size g) (lead g) t.outgoing o.strands ≡ room
              → Refused g o p ⊎ Moved g Inv o p holds.box
          at named (inl none) room e =
              inl (refuse g o p (empty g is o p holds.box before named (unwaiting named none)))
          at named (inr d) true e = inr (moved named d (accept g is o p holds.box before named (waiting named d) e))
          at named (inr d) false e =
              inl (refuse g o p
              (λ h. omega (arith, sym h ∙ no_room g is o p holds.box before named (waiting named d) e)))

          go : (v : Bool) → is_named_part g p ≡ v → Refused g o p ⊎ Moved g Inv o p holds.box
          go true named =
              at named (kept.moves s holds.box k holds.state (named_part g p named))
              (have_room (size g) (lead g) t.outgoing o.strands) refl
          go false none = inl (refuse g o p (λ h. omega (arith, sym h ∙ unnamed g is o p holds.box before none)))

      -- what holds after it
      pub holds_next : Holds g Inv (next_of g o p)
      holds_next =
          ⊎_elim
          (λ (r : Refused g o p).
          record {
            box = holds.box;
            laid = rw (r.session, r.strands) holds.laid;
            state = rw r.session holds.state;
          })
          (λ (m : Moved g Inv o p holds.box).
          record {
            box = box_after t.outgoing k holds.box;
            laid = m.laid;
            state = rw m.accepted.session m.delivery.after;
          })
          turn

      pub long_next : length (next_of g o p).strands ≡ length o.strands
      long_next = ⊎_elim (λ (r : Refused g o p). ap length r.strands) (λ (m : Moved g Inv o p holds.box). m.long) turn

      -- "The messages delivered are the accepted turns of the list, and the session's count equals their number."
      pub counted :
          (next_of g o p).session.delivered
          ≡ s.delivered + pick (turn_accepted g.tables o p) 1 0
      counted =
          ⊎_elim
          (λ (r : Refused g o p).
          rw (r.session, ne_eqb (question_of g o p) 0 r.question) (omega arith))
          (λ (m : Moved g Inv o p holds.box).
          ap (λ (u : Session). u.delivered) m.accepted.session
          ∙ posted_delivered t
          ∙ m.delivery.delivers.delivered
          ∙ ap (λ (b : Bool). s.delivered + pick b 1 0) (sym (eq-eqb (question_of g o p) 0 m.accepted.question)))
          turn

      -- ---- a message waits there

      module _ (some : 1 ≤ p.0) (waits : waits_on s k ≡ true) where
        named : is_named_part g p ≡ true
        named = part_named g is p some (waits_part k waits)

        delivery : Delivery g Inv s holds.box k
        delivery =
            ⊎_elim
            (λ (none : holds.box k ≡ []). absurd (true≢false (sym waits ∙ unwaiting named none)))
            (λ (d : Delivery g Inv s holds.box k). d)
            (kept.moves s holds.box k holds.state (waits_part k waits))

        pub answers : (question_of g o p ≡ 0) ⊎ (question_of g o p ≡ 17)
        answers = go (have_room (size g) (lead g) t.outgoing o.strands) refl
          where
            go : (v : Bool) → have_room (size g) (lead g) t.outgoing o.strands ≡ v
                → (question_of g o p ≡ 0) ⊎ (question_of g o p ≡ 17)
            go true e = inl (accept g is o p holds.box before named waits e).question
            go false e = inr (no_room g is o p holds.box before named waits e)

        pub room_answers : room_for_all (size g) ≤ length o.strands → question_of g o p ≡ 0
        room_answers long =
            (accept g is o p holds.box before named waits
            (room_suffices g t.outgoing o.strands is delivery.to_parts (short_sent delivery) long)).question

        -- a message that makes nobody send needs no room
        pub silent_answers : ((q : ℕ) → q < 16 → goes_to t.outgoing q ≡ false) → question_of g o p ≡ 0
        silent_answers none =
            (accept g is o p holds.box before named waits (room_none (size g) (lead g) t.outgoing o.strands none)).question
