-- Rounds: "a round is one wait of at least one report, counted as the wait begins."
use mathlib.Core.Path.{◌≡◌, refl, sym, ap, ◌∙◌}
use mathlib.Core.Bool.{Bool, true, false, not, ◌&&◌, ◌||◌, not-not, true≢false}
use mathlib.Core.List.{List}
use Prim.Native.Nat.{ℕ, suc, ◌+◌, ◌<◌}
use native.Mathlib.Omega.{arith}
use borrow.Author.Tests.{eqb-true, not-false}
use lib.ListN.{length}
use lib.Dec.{eqb}
use Rattle.book.specs.Bounds.{most_processes}
use Rattle.lists.specs.Over.{all_to, tab}
use Rattle.lists.proofs.Over.{get_d_tab, all_ext}
use Rattle.lists.specs.Pick.{pick}
use Rattle.matrix.specs.Matrix.{row}
use Rattle.matrix.specs.Entries.{all_lower}
use Rattle.message.specs.declared.Message.{Message}
use Rattle.message.specs.Formed.{message_formed}
use Rattle.mail.specs.Outgoing.{goes_to}
use Rattle.machine.specs.Own.{Own, own_of}
use Rattle.machine.specs.Sends.{nothing}
use Rattle.machine.specs.Flags.{flag, someone}
use Rattle.initiator.specs.declared.Initiator.{Initiator}
use Rattle.initiator.specs.Begin.{wait}
use Rattle.initiator.specs.Step.{sender_of, awaits, take_report, step_back, polled, poll, terminate, compare, step}
use Rattle.initiator.specs.Calls.{read_by, message_question}
use Rattle.participant.specs.Calls as participant
use Rattle.machine_laws.proofs.Calls.{three_yes}
use Rattle.initiator_laws.specs.Accepts.{sends_poll}
use Rattle.initiator_laws.proofs.Theorems.{rounds}
use Rattle.session.specs.declared.Session.{Session}
use Rattle.session.specs.declared.Turned.{Turned}
use Rattle.session.specs.declared.Waiting.{Waiting}
use Rattle.session.specs.declared.Waiting.TheVariants.{Nothing, Asking, Ending, Report, Stray}
use Rattle.session.specs.Workers.{initiator_of, participant_at}
use Rattle.session.specs.Held.{sender_in, ends_search, held_up, held_down, held, is_report}
use Rattle.session.specs.Steps.{deliver_down, deliver_up, deliver}
use Rattle.session_fit.proofs.Read.{sent_by}
use Rattle.session_theory.proofs.Search.{Search, size}

not_and : (a b : Bool) → not (a && not b) ≡ (not a || b)
not_and true true = refl
not_and true false = refl
not_and false b = refl

-- ---- the initiator's step

-- the only report that is awaited still is k's
abbrev pub last_awaited : Initiator → ℕ → Bool
last_awaited state k = all_to most_processes (λ q. not (flag state.awaited q) || eqb q k)

module _ (state : Initiator) (m : Message) where
  last_taken : last_awaited state (sender_of m) ≡ not (someone (take_report state m).awaited)
  unfolding someone take_report
  last_taken =
      let left : ℕ → Bool = λ q. flag state.awaited q && not (eqb q (sender_of m)) in
      all_ext 16 (λ q. not (flag state.awaited q) || eqb q (sender_of m)) (λ q. not (flag (tab 16 left) q))
      (λ q h. sym (ap not (get_d_tab 16 left q false h) ∙ not_and (flag state.awaited q) (eqb q (sender_of m))))
      ∙ sym (not-not (all_to 16 (λ q. not (flag (tab 16 left) q))))

  module _ (own : Own) where
    -- when all reports are in, those are awaited next who are polled
    compared : (v : Initiator) → someone v.awaited ≡ false → someone (compare v).state.awaited ≡ someone (polled v)
    unfolding compare poll wait terminate
    compared v none = go (someone (polled v)) refl
      where
        go : (b : Bool) → someone (polled v) ≡ b → someone (compare v).state.awaited ≡ someone (polled v)
        go true e = rw (compare, e) e
        go false e = rw (compare, e) none

    -- a wait begins exactly when a poll is sent
    polls : sends_poll own state m ≡ (last_awaited state (sender_of m) && someone (step own state m).state.awaited)
    unfolding step step_back
    polls = go (someone (take_report state m).awaited) refl
      where
        go : (b : Bool) → someone (take_report state m).awaited ≡ b
            → sends_poll own state m ≡ (last_awaited state (sender_of m) && someone (step own state m).state.awaited)
        go true e = rw (last_taken, e)
        go false e = rw (last_taken, step, e) (sym (compared (step_back own (take_report state m)) e))

-- ---- a delivery

-- what is no report is not held as one
no_report : {A : Type 0} (w : Waiting) → is_report w ≡ false → w ≡ Report → A
no_report w none e = absurd (true≢false (sym (ap is_report e) ∙ none))

up_passes : (passes : Bool) → pick passes Report Stray ≡ Report → passes ≡ true
up_passes true e = refl
up_passes false e = no_report Stray refl e

only_up :
    (none down passes ends up : Bool) (w : Waiting)
    → pick none Nothing (pick down (pick passes (pick ends Ending Asking) Stray) (pick up w Stray)) ≡ Report
    → (up ≡ true) × (w ≡ Report)
only_up true down passes ends up w e = no_report Nothing refl e
only_up false true true true up w e = no_report Ending refl e
only_up false true true false up w e = no_report Asking refl e
only_up false true false ends up w e = no_report Stray refl e
only_up false false passes ends true w e = (refl, e)
only_up false false passes ends false w e = no_report Stray refl e

-- a report is from its strand's participant
module _ (n : ℕ) (s : Session) (k : ℕ) (b : List ℕ) (report : held n s k b ≡ Report) where
  abbrev up : Message
  up = read_by n s.machine b

  report_up : (eqb (sender_in b) (suc k) ≡ true) × (held_up n s.machine b ≡ Report)
  unfolding held held_down
  report_up =
      only_up (eqb (length b) 0) (eqb (sender_in b) s.initiator.0)
      (eqb (participant.message_question n (participant_at s k) b) 0)
      (ends_search (participant.read_by n (participant_at s k) b)) (eqb (sender_in b) (suc k)) (held_up n s.machine b) report

  pub report_passes : message_question n s.machine b ≡ 0
  unfolding held_up
  report_passes =
      eqb-true (message_question n s.machine b) 0
      (up_passes (eqb (message_question n s.machine b) 0) report_up.1)

  pub report_sender : sender_of up ≡ k
  report_sender =
      let me : ℕ = s.machine.me.0 in
      let lower : Bool = all_lower up.news (row s.machine.matrix (sender_of up)) in
      let asked = three_yes 13 14 15 (message_formed n me me b) (awaits s.machine up) lower report_passes in
      omega (arith, sent_by n me me b asked.0, eqb-true (sender_in b) (suc k) report_up.0)

module _ (g : Search) (s : Session) (k : ℕ) (b : List ℕ) where
  -- what the message on k's strand does, held as this
  abbrev pub does : Waiting → Turned
  does w = deliver g.tables s k b w

  -- with this delivery a wait begins
  abbrev begins : Waiting → Bool
  begins w = (is_report w && last_awaited s.machine k) && someone (does w).session.machine.awaited

  pub rounds_does : (w : Waiting) → held (size g) s k b ≡ w
      → (does w).session.machine.rounds ≡ s.machine.rounds + pick (begins w) 1 0
  unfolding deliver_down deliver_up
  rounds_does Nothing e = omega arith
  rounds_does Asking e = omega arith
  rounds_does Ending e = omega arith
  rounds_does Stray e = omega arith
  rounds_does Report e =
      let own : Own = own_of g.tables (initiator_of s) in
      let m : Message = read_by (size g) s.machine b in
      rounds own s.machine m
      ∙ ap (λ (v : Bool). s.machine.rounds + pick v 1 0)
      (polls s.machine m own
      ∙ ap (λ (q : ℕ). last_awaited s.machine q && someone (step own s.machine m).state.awaited)
      (report_sender (size g) s k b e))

  -- a report that is not the last makes the initiator send nothing
  pub report_silent : held (size g) s k b ≡ Report → last_awaited s.machine k ≡ false
      → (q : ℕ) → q < 16 → goes_to (does Report).outgoing q ≡ false
  unfolding deliver_up step nothing
  report_silent e more q h = rw (step, still) (get_d_tab 16 (λ p. false) q false h)
    where
      still : someone (take_report s.machine (read_by (size g) s.machine b)).awaited ≡ true
      still =
          let m : Message = read_by (size g) s.machine b in
          not-false (someone (take_report s.machine m).awaited)
          (sym (last_taken s.machine m)
          ∙ ap (λ (p : ℕ). last_awaited s.machine p) (report_sender (size g) s k b e) ∙ more)
