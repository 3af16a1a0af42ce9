-- Somebody is polled: a wait begins, one checkpoint or more nearer to the line.
use mathlib.Core.Path.{◌≡◌, refl, sym, ap, subst, ◌∙◌}
use mathlib.Core.Bool.{Bool, true, false, true≢false}
use mathlib.Core.List.{List, []}
use mathlib.Core.Logic.{inl}
use Prim.Native.Nat.{ℕ, ◌+◌, ◌-◌, ◌*◌, ◌≤◌, ◌<◌}
use native.Mathlib.Decide.{dec_lt, ℕ_discrete}
use native.Mathlib.Omega.{arith}
use borrow.Author.Tests.{eqb-false}
use lib.ListN.{set}
use lib.Dec.{eqb}
use Rattle.lists.specs.Over.{sum_to}
use Rattle.lists.proofs.Over.{all_witness}
use Rattle.consistency.specs.Known.{counters}
use Rattle.lists.specs.Pick.{pick}
use Rattle.matrix.specs.Matrix.{entry, column}
use Rattle.matrix.specs.Entries.{patch, same}
use Rattle.message.specs.declared.Message.{Message}
use Rattle.mail.specs.declared.Outgoing.{Outgoing}
use Rattle.mail.specs.Outgoing.{goes_to, message_to}
use Rattle.machine.specs.Flags.{flag, someone}
use Rattle.machine_laws.proofs.Flags.{some_flagged}
use Rattle.machine_laws.proofs.Pairs.{absent_no_pair, pair_sym}
use Rattle.machine_laws.proofs.Rows.{column_at}
use Rattle.participant.specs.declared.Participant.{Participant}
use Rattle.participant_laws.specs.Accepts.{ends_it}
use Rattle.initiator.specs.declared.Initiator.{Initiator}
use Rattle.initiator.specs.declared.InitiatorStep.{InitiatorStep}
use Rattle.initiator.specs.Begin.{wait}
use Rattle.initiator.specs.Step.{take_report, step_back, polled, poll, step}
use Rattle.exchange_laws.specs.Ends.{is_search, SameEntries, message_down, SearchesWith, HoldsCopy}
use Rattle.exchange_laws.proofs.Heads.{search_in}
use Rattle.exchange_laws.proofs.Receivers.{column_taken}
use Rattle.exchange_laws.proofs.Theorems.{poll_passes, poll_taken}
use Rattle.strands.specs.Strands.{lengths_posted}
use Rattle.session.specs.declared.Session.{Session}
use Rattle.session.specs.Workers.{participant_at, stands_on}
use Rattle.session_theory.proofs.Search.{Search, IsSearch, size, lead, is_part, own_in, sent_in, most, Between, height}
use Rattle.session_theory.proofs.Invariant.{Part, Phase, quiet, reported, asked, weight, one, InPhase, IsAsked, IsQuiet, IsReported, box_after, Waits}
use Rattle.session_theory.proofs.Moves.{ToParticipants}
use Rattle.session_theory.proofs.Few.{passed_few}
use Rattle.session_theory.proofs.Changed.{by_place}
use Rattle.session_theory.proofs.Counting.{count_parts}
use Rattle.session_theory.proofs.Boxes.{box_new, box_empty, box_kept}
use Rattle.session_theory.proofs.Facts.{few, part_within, part_in, part_me}
use Rattle.search_rounds.proofs.Moved.{moved, Moves, placed_moved}
use Rattle.search_rounds.proofs.Arrives.{Arrived}
use Rattle.search_rounds.proofs.AllIn.{AllIn, sent, stays_above, between}
use Rattle.search_rounds.proofs.Settles.{leads_back, report_counts, settled}
use Rattle.search_rounds.proofs.Receivers.{Gets, Leads, gets, searches_with, holds_copy, polled_part, polled_differs, not_polled_same}
use Rattle.search_rounds.proofs.Heights.{less_high, sum_twice, one_wait}

module _ (g : Search) (s : Session) (box : ℕ → List ℕ) (phase : ℕ → Phase) (ahead k : ℕ) (is : IsSearch g)
    (searching : is_search g.purpose ≡ true) (w : Waits g s box phase ahead) (there : is_part g k ≡ true) (rep : IsReported g s k (box k))
    (is_reported : phase k ≡ reported) (m : Message) (arrived : Arrived g s k (box k) m)
    (none : someone (take_report s.machine m).awaited ≡ false)
    (somebody : someone (polled (step_back (own_in g (lead g)) (take_report s.machine m))) ≡ true)
    (step_is : step (own_in g (lead g)) s.machine m ≡ poll (step_back (own_in g (lead g)) (take_report s.machine m))) where
  abbrev back : Initiator
  back = step_back (own_in g (lead g)) (take_report s.machine m)

  abbrev machine : Initiator
  machine = (poll back).state

  abbrev outgoing : Outgoing
  outgoing = (poll back).outgoing

  abbrev lengths : List ℕ
  lengths = lengths_posted outgoing (set s.lengths k 0)

  abbrev after : Session
  after = moved s machine lengths

  abbrev boxes : ℕ → List ℕ
  boxes = box_after outgoing k box

  abbrev phases : ℕ → Phase
  phases q = pick (flag (polled back) q) asked quiet

  leads : Leads g back
  leads = leads_back g s w.placed m

  in' : AllIn g s k box machine
  unfolding poll wait step_back take_report
  in' =
      settled g s box phase ahead k is w there rep m arrived none machine (ap (λ (x : InitiatorStep). x.state) step_is) refl refl refl refl
      refl (omega (arith, w.rounds_left, passed_few g is))

  -- the poll goes to those whose column differs
  goes : (q : ℕ) → goes_to outgoing q ≡ flag (polled back) q
  unfolding poll
  goes q = refl

  to : ToParticipants g outgoing
  to q h e = polled_part g back leads q h (sym (goes q) ∙ e)

  -- ---- who is polled

  module _ (q : ℕ) (part : is_part g q ≡ true) (is_polled : flag (polled back) q ≡ true) where
    abbrev p : Participant
    p = participant_at s q

    placed : Part g q p
    placed = w.placed.part q part

    with_it : SearchesWith back p
    with_it = searches_with g is searching back leads q part p placed (in'.searching q part)

    holds : HoldsCopy back p
    unfolding poll wait step_back take_report
    holds =
        holds_copy g is searching back leads q part p placed (in'.column_held q part)
        (λ j h. (in'.low j q h (part_within g is q part), w.marked j q h (part_within g is q part)))
        in'.zeros_copy

    me_is : p.me.0 - 1 ≡ q
    me_is = part_me g is q part p placed

    flagged : flag (polled back) (p.me.0 - 1) ≡ true
    flagged = rw me_is is_polled

    no_end : ends_it (message_down outgoing p) ≡ false
    unfolding poll step_back take_report
    no_end =
        rw (w.placed.machine_purpose, (search_in g.purpose searching).1) (poll_passes back p with_it holds flagged).1

    brings : SameEntries (patch p.column (message_down outgoing p).news) (column back.matrix (p.me.0 - 1))
    brings i h =
        ap (λ l. counters l i) (sym (column_taken (own_in g q) p (message_down outgoing p) no_end))
        ∙ poll_taken back p with_it holds flagged (own_in g q) i h

    is_asked : IsAsked g after q (boxes q)
    unfolding poll wait
    is_asked =
        let got : Gets (size g) outgoing p q =
        gets g is searching back leads q part p placed outgoing (poll_passes back p with_it holds flagged).0 in
        subst (IsAsked g after q) (sym (box_new outgoing k box q got.sent))
        (record {
          told = message_to outgoing q;
          carries = refl;
          read = got.read;
          passes = got.passes;
          going = rw me_is at no_end;
          brings = rw me_is at brings;
          awaited = is_polled;
          row_held = in'.row_held q part;
        })

  -- ---- and who is not

  is_quiet : (q : ℕ) → is_part g q ≡ true → flag (polled back) q ≡ false → IsQuiet g after q (boxes q)
  unfolding poll wait step_back take_report
  is_quiet q part off =
      record {
        empty =
            by_place (λ q. is_part g q ≡ true → flag (polled back) q ≡ false → boxes q ≡ []) k
            (λ part off. box_empty outgoing k box (goes k ∙ off))
            (λ q ne part off. box_kept outgoing k box q (goes q ∙ off) ne ∙ in'.empty q part ne)
            q part off;
        awaited = off;
        searching = in'.searching q part;
        row_held = in'.row_held q part;
        column_held = λ i h.
            in'.column_held q part i h ∙ not_polled_same g back leads q (part_within g is q part) part off i h;
      }

  in_phase : (q : ℕ) → is_part g q ≡ true → InPhase g after q (boxes q) (phases q)
  in_phase q part = go (flag (polled back) q) refl
    where
      go : (t : Bool) → flag (polled back) q ≡ t → InPhase g after q (boxes q) (phases q)
      go true e = subst (λ (t : Bool). InPhase g after q (boxes q) (pick t asked quiet)) (sym e) (is_asked q part e)
      go false e = subst (λ (t : Bool). InPhase g after q (boxes q) (pick t asked quiet)) (sym e) (is_quiet q part e)

  rest : (q : ℕ) → q < 16 → is_part g q ≡ false → phases q ≡ quiet
  rest q h absent = go (flag (polled back) q) refl
    where
      go : (t : Bool) → flag (polled back) q ≡ t → phases q ≡ quiet
      go true e = absurd (true≢false (sym (polled_part g back leads q h e) ∙ absent))
      go false e = ap (λ (t : Bool). pick t asked quiet) e

  -- ---- how far it is to the line

  sent_is : (j p : ℕ) → j < size g → p < size g → entry machine.matrix j p ≡ sent_in g j (stands_on after j) p
  sent_is j p h i = sent g s k box machine lengths is w.placed in' j p h (omega (arith, few g is))

  falls : (c : ℕ → ℕ) → Between g c (stands_on after) → (j p : ℕ) → j < size g → p < size g
      → (sent_in g j (c j) p ≡ entry machine.matrix j p → ⊥) → height g c + 1 ≤ height g (stands_on after)
  falls c low j p h i differs =
      less_high g c (stands_on after) low j h
      (elim (ℕ_discrete (c j) (stands_on after j)) [
        | yes e ↦ absurd (differs (ap (λ (r : ℕ). sent_in g j r p) e ∙ sym (sent_is j p h i)))
        | no ne ↦ omega (arith, (low j h).1)
      ])

  -- some entry differs from the copy
  differs : (j p : ℕ) × (j < size g) × (p < size g) × (entry machine.matrix j p ≡ entry s.machine.copy j p → ⊥)
  unfolding poll wait step_back take_report same
  differs =
      let who = some_flagged (polled back) somebody in
      let p : ℕ = who.0 in
      let part : is_part g p ≡ true = polled_part g back leads p who.1 who.2 in
      let now : ℕ → ℕ = counters (column back.matrix p) in
      let held : ℕ → ℕ = counters (column back.copy p) in
      let at = all_witness 16 (λ j. eqb (now j) (held j)) (polled_differs g back leads p who.1 who.2) in
      let j : ℕ = at.0 in
      let other : (entry back.matrix j p ≡ entry back.copy j p → ⊥) =
      λ e. eqb-false (now j) (held j) at.2 (column_at back.matrix j p at.1 ∙ (e ∙ sym (column_at back.copy j p at.1))) in
      elim (dec_lt j (size g)) [
        | yes h ↦ (j, p, h, part_in g p part, other)
        | no h ↦
            let absent = pair_sym (size g) j p ∙ absent_no_pair (size g) p j (omega arith) in
            absurd (other (in'.zeros j p at.1 who.1 absent ∙ sym (in'.zeros_copy j p at.1 who.1 absent)))
      ]

  nearer : height g (stands_on after) + 1 ≤ ahead
  nearer =
      let d = differs in
      w.falls (stands_on after) (between g s k box machine lengths is w.placed in' w.above) d.0 d.1 d.2 d.3
      (λ e. d.4 (sent_is d.0 d.1 d.2 d.3 ∙ e))

  -- ---- the counts

  weights : sum_to 16 (λ q. weight (phases q)) ≤ 2 * (size g - 1)
  weights =
      let low = sum_twice 16 (λ q. one (is_part g q)) (λ q. weight (phases q)) (λ q h. go q h (is_part g q) refl) in
      omega (arith, low, count_parts g is)
    where
      two : (t : Bool) → weight (pick t asked quiet) ≤ 2
      two true = omega arith
      two false = omega arith

      go : (q : ℕ) → q < 16 → (t : Bool) → is_part g q ≡ t → weight (phases q) ≤ 2 * one (is_part g q)
      go q h true e = rw e (two (flag (polled back) q))
      go q h false e = rw (rest q h e) (omega arith)

  deliveries : s.delivered + 1 + sum_to 16 (λ q. weight (phases q)) + (size g - 1) * (2 * height g (stands_on after) + 1) ≤ most g
  deliveries =
      let last = report_counts phase k (part_within g is k there) is_reported in
      let less = one_wait (size g - 1) ahead (height g (stands_on after)) nearer in
      omega (arith, w.deliveries_left, weights, last, less)

  waits : Waits g after boxes phases (height g (stands_on after))
  unfolding poll wait step_back take_report
  waits =
      record {
        placed = placed_moved g s k w.placed there machine outgoing to
            (record { me = in'.me; purpose = in'.purpose; fitting = in'.fitting });
        waiting = refl;
        in_phase = in_phase;
        rest = rest;
        above = stays_above g s k box machine lengths is w.placed in' w.above;
        copied = λ j p h i. omega (arith, sent_is j p h i);
        marked = λ j p h i. omega (arith, in'.low j p h i, w.marked j p h i);
        falls = falls;
        rounds_left = omega (arith, w.rounds_left, nearer);
        deliveries_left = deliveries;
      }

  pub goes_on : Moves g s box k (poll back)
  goes_on = (to, inl (phases, height g (stands_on after), waits))
