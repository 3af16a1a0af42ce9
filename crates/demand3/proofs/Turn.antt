-- The questions of one turn, on a session that passes 10, 11 and 13, and what an accepted one leaves.
use mathlib.Core.Path.{◌≡◌, sym, ap, ◌∙◌}
use mathlib.Core.Bool.{Bool, true, false, not, ◌&&◌}
use mathlib.Core.List.{List}
use Prim.Native.Nat.{ℕ, ◌-◌, ◌≤◌}
use native.Mathlib.Omega.{arith}
use borrow.Author.Tests.{leb-true, le-leb, eqb-false, not-true, ne_eqb}
use lib.Dec.{leb, eqb}
use Rattle.book.specs.declared.Process.{Process}
use Rattle.book.specs.InTurn.{◌then◌, ask}
use Rattle.book.specs.Check.{tables_question}
use Rattle.book.proofs.Questions.{ask_no, kept_passed, kept_refused}
use Rattle.lists.proofs.Tests.{and_both, both_and}
use Rattle.book.specs.Names.{is_named}
use Rattle.machine.specs.Named.{participant_named}
use Rattle.strands.specs.Strands.{have_room, posted}
use Rattle.session.specs.declared.Session.{Session}
use Rattle.session.specs.declared.Turned.{Turned}
use Rattle.session.specs.Workers.{initiator_of, waits_on}
use Rattle.session.specs.Held.{held}
use Rattle.session.specs.Fits.{session_named, session_purposes, session_fits}
use Rattle.session.specs.Steps.{deliver, with_posted}
use Rattle.session.specs.Calls.{turned, turn_question, session_after, strands_after}
use Rattle.session.specs.Turns.{Ongoing, after_turn}
use Rattle.session_theory.proofs.Search.{Search, IsSearch, size, lead, is_part}
use Rattle.session_theory.proofs.Invariant.{Laid}
use Rattle.session_theory.proofs.Facts.{is_part_lem, part_in, part_other}
use Rattle.session_theory.proofs.Moves.{Passes}

-- the question that a turn naming p fails, and what it leaves
abbrev pub question_of : Search → Ongoing → Process → ℕ
question_of g o p = turn_question g.tables o.session p o.strands

abbrev pub next_of : Search → Ongoing → Process → Ongoing
next_of g o p = after_turn g.tables o p

-- what the message on k's strand does
abbrev pub goes : Search → Session → ℕ → List ℕ → Turned
goes g s k b = deliver g.tables s k b (held (size g) s k b)

-- a refused turn changes nothing
pub record Refused (g : Search) (o : Ongoing) (p : Process) : Type 0 where
  pub question : question_of g o p ≡ 0 → ⊥
  pub session : (next_of g o p).session ≡ o.session
  pub strands : (next_of g o p).strands ≡ o.strands

pub refuse : (g : Search) (o : Ongoing) (p : Process) → (question_of g o p ≡ 0 → ⊥) → Refused g o p
unfolding session_after strands_after
refuse g o p h =
    let t : Turned = turned g.tables o.session p o.strands in
    record {
      question = h;
      session = kept_refused (question_of g o p) o.session (with_posted t) h;
      strands =
          kept_refused (question_of g o p) o.strands
          (posted (size g) (initiator_of o.session) t.outgoing o.strands) h;
    }

-- an accepted one does what the message does
pub record Accepted (g : Search) (o : Ongoing) (p : Process) (t : Turned) : Type 0 where
  pub question : question_of g o p ≡ 0
  pub room : have_room (size g) (lead g) t.outgoing o.strands ≡ true
  pub session : (next_of g o p).session ≡ with_posted t
  pub strands : (next_of g o p).strands ≡ posted (size g) (lead g) t.outgoing o.strands

-- what is known before it
pub record Before (g : Search) (o : Ongoing) (box : ℕ → List ℕ) : Type 0 where
  pub leader : o.session.initiator ≡ g.initiator
  pub laid : Laid g o.session o.strands box
  pub passes : Passes g o.session o.strands

-- the process named is a participant
abbrev pub is_named_part : Search → Process → Bool
is_named_part g p = participant_named (size g) p.0 g.initiator.0

module _ (g : Search) (p : Process) (named : is_named_part g p ≡ true) where
  parts : (1 ≤ p.0) × (p.0 ≤ size g) × (p.0 ≡ g.initiator.0 → ⊥) × (1 ≤ g.initiator.0)
  parts =
      let both = and_both (is_named (size g) p.0) (is_named (size g) g.initiator.0 && not (eqb p.0 g.initiator.0)) named in
      let me = and_both (leb 1 p.0) (leb p.0 (size g)) both.0 in
      let other = and_both (is_named (size g) g.initiator.0) (not (eqb p.0 g.initiator.0)) both.1 in
      let first = and_both (leb 1 g.initiator.0) (leb g.initiator.0 (size g)) other.0 in (
        leb-true 1 p.0 me.0,
        leb-true p.0 (size g) me.1,
        eqb-false p.0 g.initiator.0 (not-true (eqb p.0 g.initiator.0) other.1),
        leb-true 1 g.initiator.0 first.0,
      )

  pub named_some : 1 ≤ p.0
  named_some = parts.0

  pub named_part : is_part g (p.0 - 1) ≡ true
  named_part =
      is_part_lem g (p.0 - 1) (omega (arith, parts.0, parts.1))
      (λ e. parts.2 (omega (arith, parts.0, parts.3, e)))

module _ (g : Search) (is : IsSearch g) (p : Process) (some : 1 ≤ p.0) (there : is_part g (p.0 - 1) ≡ true) where
  pub part_named : is_named_part g p ≡ true
  part_named =
      let i : ℕ = g.initiator.0 in
      both_and (is_named (size g) p.0) (is_named (size g) i && not (eqb p.0 i))
      (both_and (leb 1 p.0) (leb p.0 (size g)) (le-leb 1 p.0 some)
      (le-leb p.0 (size g) (omega (arith, part_in g (p.0 - 1) there))))
      (both_and (is_named (size g) i) (not (eqb p.0 i)) is.named
      (rw (ne_eqb p.0 i (λ e. part_other g (p.0 - 1) there (ap (λ (x : ℕ). x - 1) e)))))

-- ---- the questions of a turn, one by one

module _ (q : ℕ) (named purposed fitting room waits : Bool) where
  abbrev last : ℕ
  last = ask 17 room then λ _. ask 18 waits

  abbrev all : ℕ
  all = q then λ _. ask 10 named then λ _. ask 11 purposed then λ _. ask 13 fitting then λ _. last

  passed : q ≡ 0 → named ≡ true → purposed ≡ true → fitting ≡ true → all ≡ last
  passed a b c d = rw (a, b, c, d)

  not_named : q ≡ 0 → named ≡ false → all ≡ 10
  not_named a b = rw (a, b)

-- 17 or nothing, where a message waits
full : (room waits : Bool) → waits ≡ true → room ≡ false → (ask 17 room then λ _. ask 18 waits) ≡ 17
full room waits h r = rw r

free : (room waits : Bool) → waits ≡ true → room ≡ true → (ask 17 room then λ _. ask 18 waits) ≡ 0
free room waits h r = rw (r, h)

-- 17 or 18, where none does
nobody : (room waits : Bool) → waits ≡ false → (ask 17 room then λ _. ask 18 waits) ≡ 0 → ⊥
nobody true waits h e = absurd (omega (arith, sym (ask_no 18 waits h) ∙ e))
nobody false waits h e = absurd (omega arith)

module _ (g : Search) (is : IsSearch g) (o : Ongoing) (p : Process) (box : ℕ → List ℕ) (before : Before g o box) where
  abbrev s : Session
  s = o.session

  abbrev k : ℕ
  k = p.0 - 1

  abbrev t : Turned
  t = goes g s k (box k)

  abbrev name : Bool
  name = participant_named (size g) p.0 s.initiator.0 && session_named (size g) s

  abbrev asked : Turned
  asked = turned g.tables s p o.strands

  abbrev room : Bool
  room = have_room (size g) (lead g) t.outgoing o.strands

  abbrev room_asked : Bool
  room_asked = have_room (size g) (initiator_of s) asked.outgoing o.strands

  abbrev fit : Bool
  fit = session_fits g.tables s o.strands

  same_name : participant_named (size g) p.0 s.initiator.0 ≡ is_named_part g p
  same_name = ap (λ (i : Process). participant_named (size g) p.0 i.0) before.leader

  pub unnamed : is_named_part g p ≡ false → question_of g o p ≡ 10
  unfolding turn_question
  unnamed none =
      not_named (tables_question g.tables) name (session_purposes s) fit room_asked (waits_on s k) is.accepted.passed
      (rw (same_name, none))

  module _ (named : is_named_part g p ≡ true) where
    taken : asked ≡ t
    taken = ap (λ (b : List ℕ). goes g s k b) (before.laid k (named_part g p named)).bytes

    same_room : room_asked ≡ room
    same_room =
        ap (λ (i : Process). have_room (size g) (i.0 - 1) asked.outgoing o.strands) before.leader
        ∙ ap (λ (u : Turned). have_room (size g) (lead g) u.outgoing o.strands) taken

    questions : question_of g o p ≡ (ask 17 room then λ _. ask 18 (waits_on s k))
    unfolding turn_question
    questions =
        passed (tables_question g.tables) name (session_purposes s) fit room_asked (waits_on s k)
        is.accepted.passed
        (both_and (participant_named (size g) p.0 s.initiator.0) (session_named (size g) s) (same_name ∙ named)
        before.passes.named)
        before.passes.purposed before.passes.fitting
        ∙ ap (λ (r : Bool). ask 17 r then λ _. ask 18 (waits_on s k)) same_room

    -- nothing waits there
    pub empty : waits_on s k ≡ false → question_of g o p ≡ 0 → ⊥
    empty none e = nobody room (waits_on s k) none (sym questions ∙ e)

    -- a message waits, and there is no room for what it makes others send
    pub no_room : waits_on s k ≡ true → room ≡ false → question_of g o p ≡ 17
    no_room some none = questions ∙ full room (waits_on s k) some none

    -- or there is
    pub accept : waits_on s k ≡ true → room ≡ true → Accepted g o p t
    unfolding session_after strands_after
    accept some there =
        let none : question_of g o p ≡ 0 = questions ∙ free room (waits_on s k) some there in
        record {
          question = none;
          room = there;
          session = kept_passed (question_of g o p) s (with_posted asked) none ∙ ap with_posted taken;
          strands =
              kept_passed (question_of g o p) o.strands
              (posted (size g) (initiator_of s) asked.outgoing o.strands) none
              ∙ ap (λ (i : Process). posted (size g) (i.0 - 1) asked.outgoing o.strands) before.leader
              ∙ ap (λ (u : Turned). posted (size g) (lead g) u.outgoing o.strands) taken;
        }
