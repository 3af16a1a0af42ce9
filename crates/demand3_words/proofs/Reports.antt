-- With an exported turn a wait begins exactly where one begins inside.
use mathlib.Core.Path.{◌≡◌, refl, sym, ap, ◌∙◌}
use mathlib.Core.Bool.{Bool, true, false, not, ◌&&◌, ◌||◌, true≢false}
use mathlib.Core.List.{List, [], ◌∷◌, map}
use Prim.Native.Nat.{ℕ, suc, ◌+◌, ◌-◌, ◌≤◌, ◌<◌}
use native.Mathlib.Omega.{arith}
use borrow.Author.Tests.{eqb-true, eqb-false, ne_eqb}
use lib.ListN.{length, take, drop}
use lib.Dec.{eqb}
use Rattle.book.specs.Lent.{lent}
use Rattle.varint.specs.Sequence.{scan, numbers_at}
use Rattle.book.specs.declared.Process.{Process}
use Rattle.book.specs.Bounds.{most_processes}
use Rattle.lists.specs.Over.{all_to}
use Rattle.lists.proofs.Over.{all_ext}
use Rattle.lists.specs.Pick.{pick}
use Rattle.machine.specs.Flags.{flag, someone}
use Rattle.participant.specs.Calls as participant
use Rattle.participant_laws.proofs.Accepted.{Named}
use Rattle.initiator.specs.Calls as initiator
use Rattle.strands.specs.Strands.{strand_start, strand_bytes}
use Rattle.session.specs.declared.Session.{Session}
use Rattle.session.specs.declared.Waiting.TheVariants.{Nothing, Asking, Ending, Report, Stray}
use Rattle.session.specs.Workers.{participant_at}
use Rattle.session.specs.Held.{sender_in, ends_search, held_down, held_up, waiting_bytes, held, is_report, is_stray}
use Rattle.session.specs.Calls.{turn_question}
use Rattle.session.specs.Turns.{Ongoing, after_turn, brings_last, wait_begins, waits_begun}
use Rattle.words.specs.Words.{word, shape_length}
use Rattle.words.specs.Plain.{shape_in}
use Rattle.recovery_line.specs.Machines.{as_process}
use Rattle.word_laws.specs.Values.{IsSession}
use Rattle.word_laws.proofs.Reading.{read_length}
use Rattle.demand3_words.specs.Read.{awaited_in_words, some_report_awaited}
use Rattle.demand3_words.specs.Turns.{Handed, bytes_on_strand, brings_last_report, call_begins_wait, waits_begun_by}
use Rattle.demand3_words.proofs.Passed.{names, place_small, no_stray}
use Rattle.demand3_words.proofs.Read.{awaited_read, some_awaited}
use Rattle.demand3_words.proofs.Handed.{handed, answer_is, call_is, next_is, same_lead}

-- ---- who sent what a strand holds

-- where nothing is stray, a report is what names the strand's own process: an empty strand names none, and what goes down names
-- the initiator
only_up :
    (none down passes ends up passes_up : Bool) → (none ≡ true → up ≡ false) → (down ≡ true → up ≡ false)
    → is_stray (pick none Nothing (pick down (pick passes (pick ends Ending Asking) Stray) (pick up (pick passes_up Report Stray) Stray))) ≡ false
    → up ≡ is_report (pick none Nothing (pick down (pick passes (pick ends Ending Asking) Stray) (pick up (pick passes_up Report Stray) Stray)))
only_up true down passes ends up passes_up empty lower h = empty refl
only_up false true true true up passes_up empty lower h = lower refl
only_up false true true false up passes_up empty lower h = lower refl
only_up false true false ends up passes_up empty lower h = absurd (true≢false h)
only_up false false passes ends true true empty lower h = refl
only_up false false passes ends true false empty lower h = absurd (true≢false h)
only_up false false passes ends false passes_up empty lower h = absurd (true≢false h)

none_sent : (s : List ℕ) (p : ℕ) → 1 ≤ p → eqb (length s) 0 ≡ true → eqb (sender_in s) p ≡ false
unfolding numbers_at scan
none_sent [] p some e = ne_eqb 0 p (λ h. absurd (omega arith))
none_sent (b ∷ s) p some e = absurd (omega (arith, eqb-true (length (b ∷ s)) 0 e))

sent_up : (n : ℕ) (session : Session) (p : ℕ) (s : List ℕ) → Named n p session.initiator.0
    → is_stray (held n session (p - 1) s) ≡ false → eqb (sender_in s) p ≡ is_report (held n session (p - 1) s)
unfolding held held_down held_up
sent_up n session p s names fine =
    let k : ℕ = p - 1 in
    let its : suc k ≡ p = omega (arith, names) in
    let q = participant_at session k in
    let down : eqb (sender_in s) session.initiator.0 ≡ true → eqb (sender_in s) (suc k) ≡ false =
    λ e. ne_eqb (sender_in s) (suc k)
    (λ h. eqb-false p session.initiator.0 names.others (sym its ∙ sym h ∙ eqb-true (sender_in s) session.initiator.0 e)) in
    ap (eqb (sender_in s)) (sym its)
    ∙ only_up (eqb (length s) 0) (eqb (sender_in s) session.initiator.0) (eqb (participant.message_question n q s) 0)
    (ends_search (participant.read_by n q s)) (eqb (sender_in s) (suc k)) (eqb (initiator.message_question n session.machine s) 0)
    (λ e. none_sent s (suc k) (omega arith) e) down fine

-- ---- one call

-- two tests in a row that say the same
both_same : (a a' b b' : Bool) → a ≡ a' → (a' ≡ true → b ≡ b') → (a && b) ≡ (a' && b')
both_same a true b b' e f = λ i. e i && f refl i
both_same a false b b' e f = ap (λ (t : Bool). t && b) e

module _ (shape sent received : List ℕ) (long : length shape ≡ shape_length) where
  module _ (initiator : ℕ) (o : Ongoing) (is : IsSession o.session) (leads : o.session.initiator.0 ≡ initiator) (p : ℕ) where
    abbrev s : Session
    s = o.session

    abbrev k : ℕ
    k = p - 1

    abbrev bytes : List ℕ
    bytes = waiting_bytes (shape_in shape).n s o.strands k

    module _ (accepted : turn_question (lent (shape_in shape) sent received) s (as_process p) o.strands ≡ 0) where
      small : k < 16
      small = place_small (lent (shape_in shape) sent received) s (as_process p) o.strands accepted

      bytes_are : bytes_on_strand shape sent received initiator (handed o) k ≡ bytes
      unfolding strand_bytes shape_in
      bytes_are =
          λ i. take (read_length s k small i) (drop (strand_start (word shape 0) (sym leads i - 1) k) o.strands)

      last_is :
          all_to most_processes (λ q. not (awaited_in_words (handed o).session q) || eqb q k)
          ≡ all_to most_processes (λ q. not (flag s.machine.awaited q) || eqb q k)
      last_is =
          all_ext 16 (λ q. not (awaited_in_words (handed o).session q) || eqb q k) (λ q. not (flag s.machine.awaited q) || eqb q k)
          (λ q h. ap (λ (t : Bool). not t || eqb q k) (awaited_read s q h))

      brings_is : brings_last_report shape sent received initiator (handed o) p ≡ brings_last (lent (shape_in shape) sent received) o (as_process p)
      brings_is =
          let from : eqb (sender_in (bytes_on_strand shape sent received initiator (handed o) k)) p ≡ is_report (held (shape_in shape).n s k bytes)
          = ap (λ (b : List ℕ). eqb (sender_in b) p) bytes_are
          ∙ sent_up (shape_in shape).n s p bytes (names (lent (shape_in shape) sent received) s (as_process p) o.strands accepted)
          (no_stray (lent (shape_in shape) sent received) s (as_process p) o.strands accepted) in
          λ i. from i && last_is i

    begins_is : call_begins_wait shape sent received initiator (handed o) p ≡ wait_begins (lent (shape_in shape) sent received) o (as_process p)
    begins_is =
        let question : ℕ = turn_question (lent (shape_in shape) sent received) s (as_process p) o.strands in
        let next : Ongoing = after_turn (lent (shape_in shape) sent received) o (as_process p) in
        both_same _ (eqb question 0) _
        (brings_last (lent (shape_in shape) sent received) o (as_process p) && someone next.session.machine.awaited)
        (ap (λ (q : ℕ). eqb q 0) (answer_is shape sent received long o is p))
        (λ yes. λ i.
        brings_is (eqb-true question 0 yes) i
        && (ap (λ (h : Handed). some_report_awaited h.session) (call_is shape sent received long o is p) ∙ some_awaited next.session) i)

  -- ---- a list of calls

  pub begun_are : (initiator : ℕ) (turns : List ℕ) (o : Ongoing) → IsSession o.session → o.session.initiator.0 ≡ initiator
      → waits_begun_by shape sent received initiator (handed o) turns ≡ waits_begun (lent (shape_in shape) sent received) o (map as_process turns)
  unfolding waits_begun_by waits_begun
  begun_are initiator [] o is leads = refl
  begun_are initiator (p ∷ turns) o is leads =
      let next : Ongoing = after_turn (lent (shape_in shape) sent received) o (as_process p) in
      (λ i.
      pick (begins_is initiator o is leads p i) 1 0
      + waits_begun_by shape sent received initiator (call_is shape sent received long o is p i) turns)
      ∙ ap (λ (v : ℕ). pick (wait_begins (lent (shape_in shape) sent received) o (as_process p)) 1 0 + v)
      (begun_are initiator turns next (next_is shape sent received long o is p)
      (ap (λ (q : Process). q.0) (same_lead shape sent received long o is p) ∙ leads))
