-- A turn leaves the other strands alone, unless it brings the initiator the last report, so that it sends; a refused one leaves all.
use mathlib.Core.Path.{◌≡◌, refl, sym, ap, ◌∙◌}
use mathlib.Core.Bool.{Bool, true, false, ◌&&◌}
use mathlib.Core.List.{List}
use mathlib.Core.Logic.{⊎_elim}
use Prim.Native.Nat.{ℕ, suc, ◌-◌, ◌<◌}
use native.Mathlib.Omega.{arith}
use borrow.Author.Tests.{ne_eqb}
use Rattle.book.specs.declared.Process.{Process}
use Rattle.mail.specs.declared.Outgoing.{Outgoing}
use Rattle.mail.specs.Outgoing.{goes_to}
use Rattle.machine.specs.Own.{own_of}
use Rattle.machine.specs.Sends.{other_head}
use Rattle.participant.specs.Step as participant
use Rattle.participant.specs.Calls as participant_calls
use Rattle.participant_laws.specs.Accepts.{ends_it}
use Rattle.participant_laws.proofs.Report.{nothing_goes}
use Rattle.participant_laws.proofs.Theorems.{end_is_silent}
use Rattle.session.specs.declared.Session.{Session}
use Rattle.session.specs.declared.Waiting.{Waiting}
use Rattle.session.specs.declared.Waiting.TheVariants.{Nothing, Asking, Ending, Report, Stray}
use Rattle.session.specs.Workers.{initiator_of, participant_at}
use Rattle.session.specs.Held.{waiting_bytes, held, is_report}
use Rattle.session.specs.Steps.{on_strand, deliver_down}
use Rattle.session.specs.Turns.{Ongoing, brings_last}
use Rattle.session_theory.proofs.Search.{Search, IsSearch, size, is_part}
use Rattle.session_theory.proofs.Invariant.{box_after}
use Rattle.session_theory.proofs.Facts.{part_within}
use Rattle.session_theory.proofs.Moves.{goes_down}
use Rattle.session_theory.proofs.Boxes.{box_kept}
use Rattle.search_turns.proofs.Strand.{strand_goes, strand_silent}
use Rattle.demand3.specs.Statement.{at_start, after}
use Rattle.demand3.specs.Beside.{LeavesOthers}
use Rattle.demand3.proofs.Turn.{question_of, next_of, goes, Refused, named_part, named_some}
use Rattle.demand3.proofs.Kept.{Kept, Holds, Moved, turn}
use Rattle.demand3.proofs.Counts.{last_awaited, does, report_silent}
use Rattle.demand3.proofs.Lists.{listed}
use Rattle.demand3.proofs.Purposes.{InSession, kept_in}
use Rattle.demand3.proofs.Start.{search_of, is_search_lem, session_holds}

-- what participant k sends goes on its own strand
strand_other : (k initiator : ℕ) (o : Outgoing) (q : ℕ) → q < 16 → (q ≡ k → ⊥) → goes_to (on_strand k initiator o) q ≡ false
strand_other k initiator o q small other = go (goes_to o initiator) refl
  where
    go : (v : Bool) → goes_to o initiator ≡ v → goes_to (on_strand k initiator o) q ≡ false
    go true e = strand_goes k initiator o e q small ∙ ne_eqb q k other
    go false e = strand_silent k initiator o e q small

module _ (g : Search) (s : Session) (k : ℕ) (b : List ℕ) (q : ℕ) (small : q < 16) where
  down_other : (q ≡ k → ⊥) → goes_to (goes_down g s k b).outgoing q ≡ false
  unfolding deliver_down
  down_other other =
      strand_other k (initiator_of s)
      (participant.step (own_of g.tables k) (participant_at s k)
      (participant_calls.read_by (size g) (participant_at s k) b)).outgoing
      q small other

  -- a message that ends the participant makes it send nothing
  pub end_silent : initiator_of s < 16 → ends_it (participant_calls.read_by (size g) (participant_at s k) b) ≡ true
      → goes_to (goes_down g s k b).outgoing q ≡ false
  unfolding deliver_down
  end_silent lead ends =
      let own = own_of g.tables k in
      let m = participant_calls.read_by (size g) (participant_at s k) b in
      strand_silent k (initiator_of s) (participant.step own (participant_at s k) m).outgoing
      (end_is_silent own (participant_at s k) m ends (initiator_of s) lead) q small

  -- nothing is sent to others but with the last report
  does_other :
      (w : Waiting) → held (size g) s k b ≡ w → (is_report w && last_awaited s.machine k) ≡ false → (q ≡ k → ⊥)
      → goes_to (does g s k b w).outgoing q ≡ false
  does_other Nothing e none other = nothing_goes (other_head s.purpose s.initiator) q small
  does_other Stray e none other = nothing_goes (other_head s.purpose s.initiator) q small
  does_other Asking e none other = down_other other
  does_other Ending e none other = down_other other
  does_other Report e none other = report_silent g s k b e none q small

-- the message on k's strand, these bytes, is the only report that is awaited still
abbrev pub is_last : Search → Session → ℕ → List ℕ → Bool
is_last g s k b = is_report (held (size g) s k b) && last_awaited s.machine k

-- otherwise its delivery leaves what waits on the other strands
pub box_left :
    (g : Search) (s : Session) (k : ℕ) (box : ℕ → List ℕ) (q : ℕ) → q < 16 → (q ≡ k → ⊥) → is_last g s k (box k) ≡ false
    → box_after (goes g s k (box k)).outgoing k box q ≡ box q
box_left g s k box q small other none =
    box_kept (goes g s k (box k)).outgoing k box q
    (does_other g s k (box k) q small (held (size g) s k (box k)) refl none other) other

-- the turn that names p is accepted, and k is the process that it names
abbrev pub DeliversAt : Search → Ongoing → Process → ℕ → Type 0
DeliversAt g o p k = (question_of g o p ≡ 0) × (p.0 ≡ suc k)

-- where k's message stays, a turn that delivers does so on another strand
pub moved_other :
    (g : Search) (Inv : Session → (ℕ → List ℕ) → Type 0) (o : Ongoing) (p : Process) (box : ℕ → List ℕ) (k : ℕ)
    → Moved g Inv o p box → (DeliversAt g o p k → ⊥) → k ≡ p.0 - 1 → ⊥
moved_other g Inv o p box k m stays e = stays (m.accepted.question, omega (arith, named_some g p m.named, e))

module _ (g : Search) (is : IsSearch g) (Inv : Session → (ℕ → List ℕ) → Type 0) (kept : Kept g Inv) where
  module _ (o : Ongoing) (holds : Holds g Inv o) (p : Process) (k : ℕ) where
    abbrev j : ℕ
    j = p.0 - 1

    abbrev box : ℕ → List ℕ
    box = holds.box

    others_left :
        is_part g k ≡ true → (DeliversAt g o p k → ⊥) → (question_of g o p ≡ 0 → brings_last g.tables o p ≡ false)
        → waiting_bytes (size g) (next_of g o p).session (next_of g o p).strands k
        ≡ waiting_bytes (size g) o.session o.strands k
    others_left there stays none =
        ⊎_elim
        (λ (r : Refused g o p). rw (r.session, r.strands))
        (λ (m : Moved g Inv o p box). moved m)
        (turn g is Inv kept o holds p)
      where
        moved : Moved g Inv o p box
            → waiting_bytes (size g) (next_of g o p).session (next_of g o p).strands k
            ≡ waiting_bytes (size g) o.session o.strands k
        moved m =
            let silent : is_last g o.session j (box j) ≡ false =
            ap (λ (bytes : List ℕ). is_last g o.session j bytes) (sym (holds.laid j (named_part g p m.named)).bytes)
            ∙ none m.accepted.question in
            (m.laid k there).bytes
            ∙ box_left g o.session j box k (part_within g is k there) (moved_other g Inv o p box k m stays) silent
            ∙ sym (holds.laid k there).bytes

pub leaves_others : LeavesOthers
leaves_others b a turns p k there stays none =
    let g : Search = search_of b in
    let is : IsSearch g = is_search_lem b a in
    let kept : Kept g (InSession g) = kept_in g is in
    let all = listed g is (InSession g) kept turns (at_start b) (session_holds b a) in
    others_left g is (InSession g) kept (after b turns) all.holds p k there stays none
