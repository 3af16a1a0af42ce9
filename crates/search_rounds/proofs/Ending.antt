-- Nobody is polled: the initiator ends the search, and everybody is on the line.
use mathlib.Core.Path.{◌≡◌, refl, sym, ap, subst, ◌∙◌}
use mathlib.Core.Bool.{true, false, or-true}
use mathlib.Core.List.{List}
use mathlib.Core.Logic.{inr}
use Prim.Native.Nat.{ℕ, ◌+◌, ◌-◌, ◌*◌, ◌≤◌, ◌<◌}
use native.Mathlib.Nat.{mul-le-mul_left}
use native.Mathlib.Omega.{arith}
use lib.ListN.{set}
use lib.Dec.{eqb}
use Rattle.book.specs.declared.Count.{Count}
use Rattle.book.specs.declared.Process.{Process}
use Rattle.book.specs.Bounds.{mark}
use Rattle.lists.specs.Over.{sum_to}
use Rattle.line_theory.specs.Sets.{View}
use Rattle.line_theory.specs.Search.{permitted, sent_to}
use Rattle.line_theory.proofs.Tests.{permitted_in, permitted_out}
use Rattle.line_theory.proofs.Theorems.{newest_is_newest, permitted_is_consistent, consistent_above_is_line}
use Rattle.consistency.specs.Known.{counters}
use Rattle.matrix.specs.Matrix.{column}
use Rattle.message.specs.declared.Message.{Message}
use Rattle.mail.specs.declared.Outgoing.{Outgoing}
use Rattle.mail.specs.Outgoing.{message_to}
use Rattle.machine.specs.Own.{newest_permitted}
use Rattle.machine.specs.Named.{is_participant}
use Rattle.machine.specs.Sends.{is_termination}
use Rattle.machine.specs.Flags.{someone}
use Rattle.machine_laws.proofs.Flags.{none_flagged}
use Rattle.machine_laws.proofs.Rows.{column_at}
use Rattle.participant.specs.declared.Participant.{Participant}
use Rattle.initiator.specs.declared.Initiator.{Initiator}
use Rattle.initiator.specs.declared.InitiatorStep.{InitiatorStep}
use Rattle.initiator.specs.Step.{take_report, step_back, polled, terminate, step}
use Rattle.initiator_laws.proofs.Reported as before
use Rattle.initiator_laws.proofs.Theorems.{termination_is_empty}
use Rattle.exchange_laws.specs.Ends.{is_search}
use Rattle.exchange_laws.proofs.Heads.{search_in}
use Rattle.exchange_laws.proofs.Theorems.{termination_passes}
use Rattle.strands.specs.Strands.{lengths_posted}
use Rattle.session.specs.declared.Session.{Session}
use Rattle.session.specs.Workers.{participant_at, stands_on}
use Rattle.session_theory.proofs.Search.{Search, IsSearch, size, lead, is_part, own_in, view_in, line_in, passed_in, most}
use Rattle.session_theory.proofs.Invariant.{Part, Phase, reported, one, IsReported, box_after, Waits, IsEnding, Closing, Finished}
use Rattle.session_theory.proofs.Moves.{ToParticipants}
use Rattle.session_theory.proofs.Counting.{count_parts}
use Rattle.session_theory.proofs.Boxes.{box_new}
use Rattle.session_theory.proofs.Facts.{few, book_is, lead_in, part_in, part_within, part_me}
use Rattle.search_rounds.proofs.Moved.{moved, Moves, placed_moved}
use Rattle.search_rounds.proofs.Arrives.{Arrived}
use Rattle.search_rounds.proofs.AllIn.{AllIn, searches, by_worker, stands_some, stands_among, sent, stays_above}
use Rattle.search_rounds.proofs.Settles.{leads_back, report_counts, settled}
use Rattle.search_rounds.proofs.Receivers.{Gets, Leads, gets, searches_with, not_polled_same}

-- a checkpoint that is the newest permitted by what the set has sent is permitted by it
newest_permits : (g : Search) (is : IsSearch g) (c : ℕ → ℕ) (j r : ℕ) (known : List Count) → j < size g
    → r ≡ newest_permitted (own_in g j) known → ((p : ℕ) → p < size g → counters known p ≡ sent_to (view_in g) c j p)
    → permitted (size g) ((view_in g).R j r) (sent_to (view_in g) c j) ≡ true
newest_permits g is c j r known h e same =
    let v : View = view_in g in
    let found = newest_is_newest mark v j (v.count j) (counters known) (book_is g is) h ((book_is g is).some j h) (omega arith) in
    let here : permitted (size g) (v.R j r) (counters known) ≡ true = rw e found.permits in
    permitted_out (size g) (v.R j r) (sent_to v c j)
    (λ p i. omega (arith, permitted_in (size g) (v.R j r) (counters known) here p i, same p i))

module _ (g : Search) (s : Session) (box : ℕ → List ℕ) (phase : ℕ → Phase) (ahead k : ℕ) (is : IsSearch g)
    (searching : is_search g.purpose ≡ true) (w : Waits g s box phase ahead) (there : is_part g k ≡ true) (rep : IsReported g s k (box k))
    (is_reported : phase k ≡ reported) (m : Message) (arrived : Arrived g s k (box k) m)
    (none : someone (take_report s.machine m).awaited ≡ false)
    (nobody : someone (polled (step_back (own_in g (lead g)) (take_report s.machine m))) ≡ false)
    (step_is : step (own_in g (lead g)) s.machine m ≡ terminate (step_back (own_in g (lead g)) (take_report s.machine m))) where
  abbrev back : Initiator
  back = step_back (own_in g (lead g)) (take_report s.machine m)

  abbrev machine : Initiator
  machine = (terminate back).state

  abbrev outgoing : Outgoing
  outgoing = (terminate back).outgoing

  abbrev lengths : List ℕ
  lengths = lengths_posted outgoing (set s.lengths k 0)

  abbrev after : Session
  after = moved s machine lengths

  leads : Leads g back
  leads = leads_back g s w.placed m

  no_restart : eqb s.machine.purpose 2 ≡ false
  no_restart = rw w.placed.machine_purpose (search_in g.purpose searching).1

  in' : AllIn g s k box machine
  unfolding terminate step_back take_report
  in' =
      settled g s box phase ahead k is w there rep m arrived none machine (ap (λ (x : InitiatorStep). x.state) step_is) refl refl refl refl
      no_restart (before.fit (own_in g (lead g)) s.machine m arrived.accepts).few

  -- ---- who gets it

  to : ToParticipants g outgoing
  to q h e =
      subst (λ (p : Process). is_participant (size g) (p.0 - 1) q ≡ true) leads.me
      (subst (λ (n : ℕ). is_participant n (back.me.0 - 1) q ≡ true) leads.processes (sym (termination_is_empty back q h).0 ∙ e))

  ending : (q : ℕ) → is_part g q ≡ true → IsEnding g after q (box_after outgoing k box q)
  ending q part =
      let p : Participant = participant_at s q in
      let placed : Part g q p = w.placed.part q part in
      let passing = termination_passes back p (searches_with g is searching back leads q part p placed (in'.searching q part)) in
      let got : Gets (size g) outgoing p q = gets g is searching back leads q part p placed outgoing passing.0 in
      let ends : is_termination (message_to outgoing q) ≡ true =
      subst (λ (j : ℕ). is_termination (message_to outgoing j) ≡ true) (part_me g is q part p placed) passing.1 in
      subst (IsEnding g after q) (sym (box_new outgoing k box q got.sent))
      (record {
        told = message_to outgoing q;
        carries = refl;
        read = got.read;
        passes = got.passes;
        ending = rw ends (or-true (eqb outgoing.head.purpose 2));
      })

  -- ---- everybody is on the line

  -- what each knows is what the others have sent
  column_sent : (q : ℕ) → q < size g → (p : ℕ) → p < size g
      → counters (column machine.matrix q) p ≡ sent_to (view_in g) (stands_on after) q p
  column_sent q h p i =
      let l : p < 16 = omega (arith, few g is) in
      column_at machine.matrix p q l ∙ sent g s k box machine lengths is w.placed in' p q i (omega (arith, few g is))

  part_column : (q : ℕ) → is_part g q ≡ true → (p : ℕ) → p < 16
      → counters (participant_at s q).column p ≡ counters (column machine.matrix q) p
  unfolding terminate step_back take_report
  part_column q part p l =
      let within : q < 16 = part_within g is q part in
      in'.column_held q part p l ∙ not_polled_same g back leads q within part (none_flagged (polled back) nobody q within) p l

  permits : (j : ℕ) → j < size g → permitted (size g) ((view_in g).R j (stands_on after j)) (sent_to (view_in g) (stands_on after) j) ≡ true
  permits =
      by_worker g s k box machine lengths is w.placed in'
      (λ j r. permitted (size g) ((view_in g).R j r) (sent_to (view_in g) (stands_on after) j) ≡ true)
      (newest_permits g is (stands_on after) (lead g) machine.candidate.0 (column machine.matrix (lead g)) (lead_in g is) in'.newest
      (column_sent (lead g) (lead_in g is)))
      (λ q part.
      newest_permits g is (stands_on after) q (participant_at s q).candidate.0 (participant_at s q).column (part_in g q part)
      (searches g q (participant_at s q) (w.placed.part q part) (in'.searching q part)).on_newest
      (λ p i. part_column q part p (omega (arith, few g is)) ∙ column_sent q (part_in g q part) p i))

  on_line : (j : ℕ) → j < size g → stands_on after j ≡ line_in g j
  on_line =
      let among = stands_among g s k box machine lengths is w.placed in' in
      consistent_above_is_line mark (view_in g) (stands_on after) (book_is g is)
      (record { above = stays_above g s k box machine lengths is w.placed in' w.above; among = among })
      ((permitted_is_consistent mark (view_in g) (stands_on after) (book_is g is)
      (record { some = stands_some g s k box machine lengths is w.placed in'; among = among })).0 permits)

  -- ---- the counts

  deliveries : s.delivered + 1 + sum_to 16 (λ q. one (is_part g q)) ≤ most g
  deliveries =
      let last = report_counts phase k (part_within g is k there) is_reported in
      let least : (size g - 1) * 1 ≤ (size g - 1) * (2 * ahead + 1) = mul-le-mul_left (size g - 1) (omega arith) in
      omega (arith, w.deliveries_left, count_parts g is, last, least)

  few_rounds : machine.rounds ≤ passed_in g + 2
  unfolding terminate step_back take_report
  few_rounds = omega (arith, w.rounds_left)

  finished : Finished g after (box_after outgoing k box) (is_part g)
  unfolding terminate step_back
  finished =
      record {
        ends =
            record {
              placed = placed_moved g s k w.placed there machine outgoing to
                  (record { me = in'.me; purpose = in'.purpose; fitting = in'.fitting });
              ended = refl;
              nobody = none_flagged (take_report s.machine m).awaited none;
              closing = λ q part. subst (Closing g after q (box_after outgoing k box q)) (sym part) (ending q part);
              rest = λ q h absent. absent;
            };
        on_line = on_line;
        few_rounds = few_rounds;
        deliveries_left = deliveries;
      }

  pub goes_on : Moves g s box k (terminate back)
  goes_on = (to, inr (is_part g, finished))
