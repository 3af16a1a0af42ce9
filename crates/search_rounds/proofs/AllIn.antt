-- All reports are in, and the initiator has stepped back itself: the matrix holds what the candidates have sent.
use mathlib.Core.Path.{◌≡◌, sym, subst, ◌∙◌}
use mathlib.Core.Bool.{true}
use mathlib.Core.List.{List, []}
use mathlib.Core.Logic.{⊎_elim}
use Prim.Native.Nat.{ℕ, ◌≤◌, ◌<◌}
use native.Mathlib.Omega.{arith}
use Rattle.line_theory.specs.Search.{sent_to}
use Rattle.consistency.specs.Known.{counters}
use Rattle.matrix.specs.Matrix.{entry, row, column}
use Rattle.matrix.proofs.Theorems.{same_is_same}
use Rattle.machine.specs.Own.{Own, sent_row, newest_permitted}
use Rattle.machine_laws.proofs.Rows.{row_at, column_at, sent_at}
use Rattle.machine_laws.proofs.Checkpoints.{checkpoint_in}
use Rattle.machine_laws.proofs.Theorems.{sent_falls, stays_above_line}
use Rattle.participant.specs.declared.Participant.{Participant}
use Rattle.participant.specs.declared.Stage.{Stage}
use Rattle.participant.specs.declared.Stage.TheVariants.{Searching}
use Rattle.participant.specs.Fits as participant
use Rattle.participant_laws.proofs.Accepted as accepted
use Rattle.initiator.specs.declared.Initiator.{Initiator}
use Rattle.initiator.specs.Fits.{fits}
use Rattle.initiator_laws.proofs.Entries.{Zeros, Below}
use Rattle.exchange_laws.specs.Ends.{SameEntries}
use Rattle.session.specs.declared.Session.{Session}
use Rattle.session.specs.Workers.{participant_at, stands_on}
use Rattle.session_theory.proofs.Search.{Search, IsSearch, size, lead, is_part, own_in, view_in, line_in, sent_in, Between}
use Rattle.session_theory.proofs.Invariant.{Part, Placed}
use Rattle.session_theory.proofs.Facts.{few, lead_in, book_is, line_is, part_in, part_own, worker, stands_lead, stands_part}
use Rattle.search_rounds.proofs.Moved.{moved}

-- ---- a searching participant

pub record Searches (g : Search) (q : ℕ) (p : Participant) : Type 0 where
  pub some : 1 ≤ p.candidate.0
  pub among : p.candidate.0 ≤ (own_in g q).count
  pub row_sent : (i : ℕ) → i < 16 → counters p.row i ≡ sent_in g q p.candidate.0 i
  pub on_newest : p.candidate.0 ≡ newest_permitted (own_in g q) p.column

pub searches : (g : Search) (q : ℕ) (p : Participant) → Part g q p → p.stage ≡ Searching → Searches g q p
searches g q p part stage =
    let own : Own = own_in g q in
    let r : ℕ = p.candidate.0 in
    let fitting = accepted.fits_in own p part.fitting in
    let there = checkpoint_in own r fitting.there in
    let fits : participant.search_fits own p ≡ true = subst (λ (t : Stage). participant.stage_fits own p t ≡ true) stage fitting.in_stage in
    let search = accepted.search_in own p fits in
    record {
      some = there.0;
      among = there.1;
      row_sent = λ i h. (same_is_same p.row (sent_row own r)).0 search.row_sent i h ∙ sent_at own r i h;
      on_newest = search.on_newest;
    }

-- ---- what holds then, of the initiator that has stepped back

pub record AllIn (g : Search) (s : Session) (k : ℕ) (box : ℕ → List ℕ) (machine : Initiator) : Type 0 where
  pub me : machine.me ≡ g.initiator
  pub purpose : machine.purpose ≡ g.purpose
  pub processes : machine.n ≡ size g
  pub fitting : fits (own_in g (lead g)) machine ≡ true
  pub searching : (q : ℕ) → is_part g q ≡ true → (participant_at s q).stage ≡ Searching
  pub row_held : (q : ℕ) → is_part g q ≡ true → SameEntries (row machine.matrix q) (participant_at s q).row
  pub column_held : (q : ℕ) → is_part g q ≡ true → SameEntries (participant_at s q).column (column s.machine.copy q)
  pub empty : (q : ℕ) → is_part g q ≡ true → (q ≡ k → ⊥) → box q ≡ []
  pub own_row : (p : ℕ) → p < 16 → entry machine.matrix (lead g) p ≡ sent_in g (lead g) machine.candidate.0 p
  pub newest : machine.candidate.0 ≡ newest_permitted (own_in g (lead g)) (column machine.matrix (lead g))
  pub some : 1 ≤ machine.candidate.0
  pub among : machine.candidate.0 ≤ (own_in g (lead g)).count
  pub back : machine.candidate.0 ≤ s.machine.candidate.0
  pub low : Below machine.matrix s.machine.copy
  pub zeros : Zeros (size g) machine.matrix
  pub zeros_copy : Zeros (size g) s.machine.copy

module _ (g : Search) (s : Session) (k : ℕ) (box : ℕ → List ℕ) (machine : Initiator) (lengths : List ℕ) (is : IsSearch g) (placed : Placed g s)
    (in' : AllIn g s k box machine) where
  abbrev after : Session
  after = moved s machine lengths

  on_lead : stands_on after (lead g) ≡ machine.candidate.0
  on_lead = stands_lead g after placed.leader

  on_part : (q : ℕ) → is_part g q ≡ true → stands_on after q ≡ (participant_at s q).candidate.0
  on_part = stands_part g after placed.leader

  search_of : (q : ℕ) → is_part g q ≡ true → Searches g q (participant_at s q)
  search_of q part = searches g q (participant_at s q) (placed.part q part) (in'.searching q part)

  -- what holds of the initiator and of every participant holds of every worker
  pub by_worker : (P : ℕ → ℕ → Type 0) → P (lead g) machine.candidate.0
      → ((q : ℕ) → is_part g q ≡ true → P q (participant_at s q).candidate.0) → (j : ℕ) → j < size g → P j (stands_on after j)
  by_worker P first others j h =
      ⊎_elim
      (λ (e : j ≡ lead g). subst (λ (i : ℕ). P i (stands_on after i)) (sym e) (subst (P (lead g)) (sym on_lead) first))
      (λ (part : is_part g j ≡ true). subst (P j) (sym (on_part j part)) (others j part))
      (worker g j h)

  pub stands_some : (j : ℕ) → j < size g → 1 ≤ stands_on after j
  stands_some = by_worker (λ j r. 1 ≤ r) in'.some (λ q part. (search_of q part).some)

  pub stands_among : (j : ℕ) → j < size g → stands_on after j ≤ (view_in g).count j
  stands_among = by_worker (λ j r. r ≤ (view_in g).count j) in'.among (λ q part. (search_of q part).among)

  -- nobody has gone forward
  stands_back : (j : ℕ) → j < size g → stands_on after j ≤ stands_on s j
  stands_back =
      by_worker (λ j r. r ≤ stands_on s j) (rw (stands_lead g s placed.leader) in'.back)
      (λ q part. rw (stands_part g s placed.leader q part) (omega arith))

  part_sent : (q : ℕ) → is_part g q ≡ true → (p : ℕ) → p < 16
      → entry machine.matrix q p ≡ sent_in g q (participant_at s q).candidate.0 p
  part_sent q part p i =
      sym (row_at machine.matrix q p i) ∙ (in'.row_held q part p i ∙ (search_of q part).row_sent p i)

  -- the matrix
  pub sent : (j p : ℕ) → j < size g → p < 16 → entry machine.matrix j p ≡ sent_in g j (stands_on after j) p
  sent j p h i =
      by_worker (λ j r. entry machine.matrix j p ≡ sent_in g j r p) (in'.own_row p i)
      (λ q part. part_sent q part p i) j h

  -- ---- the line

  module _ (above : (j : ℕ) → j < size g → line_in g j ≤ stands_on s j) where
    enough : (p : ℕ) → p < size g → sent_to (view_in g) (line_in g) (lead g) p ≤ counters (column machine.matrix (lead g)) p
    enough p h =
        let i : p < 16 = omega (arith, few g is) in
        let l : lead g < 16 = omega (arith, lead_in g is, few g is) in
        rw (column_at machine.matrix p (lead g) i)
        (⊎_elim
        (λ (e : p ≡ lead g).
        rw e
        (let none = ((book_is g is).own (lead g) (line_in g (lead g)) (lead_in g is) ((line_is g is).is_set.some (lead g) (lead_in g is))
        ((line_is g is).is_set.among (lead g) (lead_in g is))).0 in
        omega (arith, none)))
        (λ (part : is_part g p ≡ true).
        rw (part_sent p part (lead g) l)
        (sent_falls (own_in g p) p (participant_at s p).candidate.0 (line_in g p) (lead g) (part_own g is p part) l
        ((line_is g is).is_set.some p h) (rw (stands_part g s placed.leader p part) at (above p h)) (search_of p part).among))
        (worker g p h))

    pub stays_above : (j : ℕ) → j < size g → line_in g j ≤ stands_on after j
    stays_above =
        by_worker (λ j r. line_in g j ≤ r)
        (rw in'.newest
        (stays_above_line g.tables (lead g) (column machine.matrix (lead g)) is.accepted (lead_in g is)
        enough))
        (λ q part. rw (stands_part g s placed.leader q part) at (above q (part_in g q part)))

    pub between : Between g (stands_on after) (stands_on s)
    between j h = (stays_above j h, stands_back j h)
