-- A list of turns: what each of them keeps and counts, all of them keep and count.
use mathlib.Core.Path.{◌≡◌, refl, sym, ap, ◌∙◌}
use mathlib.Core.Bool.{Bool, ◌&&◌}
use mathlib.Core.List.{List, [], ◌∷◌}
use mathlib.Core.Logic.{⊎_elim}
use Prim.Native.Nat.{ℕ, ◌+◌, ◌-◌}
use native.Mathlib.Omega.{arith}
use borrow.Author.Tests.{eq-eqb, ne_eqb}
use lib.ListN.{length}
use Rattle.lists.proofs.Tests.{and_rest}
use Rattle.book.specs.declared.Process.{Process}
use Rattle.lists.specs.Pick.{pick}
use Rattle.machine.specs.Flags.{someone}
use Rattle.initiator.specs.declared.Initiator.{Initiator}
use Rattle.session.specs.declared.Session.{Session}
use Rattle.session.specs.declared.Turned.{Turned}
use Rattle.session.specs.Held.{held, is_report, waiting_bytes}
use Rattle.session.specs.Steps.{with_posted}
use Rattle.session.specs.Turns.{Ongoing, after_turns, turn_accepted, accepted_turns, wait_begins, waits_begun}
use Rattle.session_theory.proofs.Search.{Search, IsSearch, size}
use Rattle.demand3.proofs.Turn.{question_of, next_of, goes, Refused, named_part}
use Rattle.demand3.proofs.Kept.{Kept, Holds, Moved, turn, holds_next, long_next, counted}
use Rattle.demand3.proofs.Counts.{last_awaited, rounds_does}

abbrev pub after_of : Search → Ongoing → List Process → Ongoing
after_of g o turns = after_turns g.tables o turns

abbrev pub accepted_of : Search → Ongoing → List Process → ℕ
accepted_of g o turns = accepted_turns g.tables o turns

abbrev pub begun_of : Search → Ongoing → List Process → ℕ
begun_of g o turns = waits_begun g.tables o turns

pub record Listed (g : Search) (Inv : Session → (ℕ → List ℕ) → Type 0) (o : Ongoing) (turns : List Process) : Type 0 where
  pub holds : Holds g Inv (after_of g o turns)
  pub long : length (after_of g o turns).strands ≡ length o.strands
  pub delivered : (after_of g o turns).session.delivered ≡ o.session.delivered + accepted_of g o turns
  pub rounds : (after_of g o turns).session.machine.rounds ≡ o.session.machine.rounds + begun_of g o turns

posted_machine : (t : Turned) → (with_posted t).machine ≡ t.session.machine
unfolding with_posted
posted_machine t = refl

module _ (g : Search) (is : IsSearch g) (Inv : Session → (ℕ → List ℕ) → Type 0) (kept : Kept g Inv) where
  module _ (o : Ongoing) (holds : Holds g Inv o) (p : Process) where
    abbrev s : Session
    s = o.session

    abbrev k : ℕ
    k = p.0 - 1

    rounds_next :
        (next_of g o p).session.machine.rounds
        ≡ s.machine.rounds + pick (wait_begins g.tables o p) 1 0
    rounds_next =
        ⊎_elim
        (λ (r : Refused g o p). rw (r.session, ne_eqb (question_of g o p) 0 r.question) (omega arith))
        (λ (m : Moved g Inv o p holds.box). moved m)
        (turn g is Inv kept o holds p)
      where
        moved : Moved g Inv o p holds.box
            → (next_of g o p).session.machine.rounds
            ≡ s.machine.rounds + pick (wait_begins g.tables o p) 1 0
        moved m =
            let b : List ℕ = holds.box k in
            let reports : List ℕ → Bool = λ bytes. is_report (held (size g) s k bytes) in
            let last : Bool = last_awaited s.machine k in
            let machine : (next_of g o p).session.machine ≡ (goes g s k b).session.machine =
            ap (λ (u : Session). u.machine) m.accepted.session ∙ posted_machine (goes g s k b) in
            let begins : wait_begins g.tables o p
            ≡ ((reports b && last) && someone (goes g s k b).session.machine.awaited) =
            and_rest (turn_accepted g.tables o p)
            ((reports (waiting_bytes (size g) s o.strands k) && last) && someone (next_of g o p).session.machine.awaited)
            (eq-eqb (question_of g o p) 0 m.accepted.question)
            ∙ ap (λ (bytes : List ℕ). (reports bytes && last) && someone (next_of g o p).session.machine.awaited)
            (holds.laid k (named_part g p m.named)).bytes
            ∙ ap (λ (i : Initiator). (reports b && last) && someone i.awaited) machine in
            ap (λ (i : Initiator). i.rounds) machine
            ∙ rounds_does g s k b (held (size g) s k b) refl
            ∙ ap (λ (v : Bool). s.machine.rounds + pick v 1 0) (sym begins)

  pub listed : (turns : List Process) (o : Ongoing) → Holds g Inv o → Listed g Inv o turns
  unfolding after_turns accepted_turns waits_begun
  listed [] o holds = record { holds = holds; long = refl; delivered = omega arith; rounds = omega arith }
  listed (p ∷ turns) o holds =
      let rest = listed turns (next_of g o p) (holds_next g is Inv kept o holds p) in
      record {
        holds = rest.holds;
        long = rest.long ∙ long_next g is Inv kept o holds p;
        delivered = omega (arith, rest.delivered, counted g is Inv kept o holds p);
        rounds = omega (arith, rest.rounds, rounds_next o holds p);
      }
