-- What `specs/Read.antt` reads off a session's words is what the session holds.
use mathlib.Core.Path.{◌≡◌, refl, sym, ap, ◌∙◌}
use mathlib.Core.Bool.{Bool, true, false, not}
use mathlib.Core.List.{List}
use Prim.Native.Nat.{ℕ, suc, ◌+◌, ◌≤◌, ◌<◌}
use native.Mathlib.Decide.{ℕ_discrete}
use native.Mathlib.Omega.{arith}
use borrow.Author.Tests.{eq-eqb, ne_eqb}
use lib.Dec.{eqb}
use Rattle.lists.specs.Pick.{pick}
use Rattle.lists.proofs.Over.{all_ext}
use Rattle.machine.specs.Flags.{flag, someone}
use Rattle.participant.specs.declared.Stage.{Stage}
use Rattle.participant.specs.declared.Stage.TheVariants.{Before, Searching, Ended}
use Rattle.session.specs.declared.Session.{Session}
use Rattle.session.specs.Workers.{initiator_of, participant_at, is_ended, stands_on, has_ended, waits_on}
use Rattle.words.specs.Words.{word}
use Rattle.words.specs.Participant as participant_words
use Rattle.words.specs.Participant.{stage_word}
use Rattle.words.specs.Initiator as initiator_words
use Rattle.words.specs.Initiator.{flag_word, flag_in}
use Rattle.words.specs.Session.{machine_start, place_start, session_words}
use Rattle.word_laws.proofs.Initiators.{flag_back}
use Rattle.word_laws.proofs.Reading.{read_length, read_ended, read_candidate, read_awaited, read_stage, read_stands}
use Rattle.demand3.specs.Statement.{message_waits, someone_goes_on}
use Rattle.demand3_words.specs.Read.{waits_in_words, ended_in_words, stands_in_words, awaited_in_words, some_message_waits, some_worker_goes_on, some_report_awaited}

ended_flag : (f : Bool) → eqb (flag_word f) 1 ≡ f
ended_flag true = refl
ended_flag false = refl

ended_stage : (s : Stage) → eqb (stage_word s) 2 ≡ is_ended s
ended_stage Before = refl
ended_stage Searching = refl
ended_stage Ended = refl

module _ (s : Session) where
  abbrev words : List ℕ
  words = session_words s

  -- ---- messages and reports

  pub waits_read : (k : ℕ) → k < 16 → waits_in_words words k ≡ waits_on s k
  waits_read k h = ap (λ (v : ℕ). not (eqb v 0)) (read_length s k h)

  pub some_waits : some_message_waits words ≡ message_waits s
  some_waits =
      ap not (all_ext 16 (λ k. not (waits_in_words words k)) (λ k. not (waits_on s k)) (λ k h. ap not (waits_read k h)))

  pub awaited_read : (k : ℕ) → k < 16 → awaited_in_words words k ≡ flag s.machine.awaited k
  awaited_read k h = ap flag_in (read_awaited s k h) ∙ flag_back (flag s.machine.awaited k)

  pub some_awaited : some_report_awaited words ≡ someone s.machine.awaited
  unfolding someone
  some_awaited =
      ap not
      (all_ext 16 (λ k. not (awaited_in_words words k)) (λ k. not (flag s.machine.awaited k)) (λ k h. ap not (awaited_read k h)))

  -- ---- workers

  module _ (initiator : ℕ) (leads : s.initiator.0 ≡ initiator) (named : 1 ≤ initiator) where
    -- the initiator is named from 1, and counts from 0
    at_lead : (j : ℕ) → eqb (suc j) initiator ≡ eqb j (initiator_of s)
    at_lead j =
        elim (ℕ_discrete (suc j) initiator) [
          | yes e ↦ eq-eqb (suc j) initiator e ∙ sym (eq-eqb j (initiator_of s) (omega arith))
          | no ne ↦ ne_eqb (suc j) initiator ne ∙ sym (ne_eqb j (initiator_of s) (λ e. ne (omega arith)))
        ]

    pub ended_read : (j : ℕ) → j < 16 → ended_in_words initiator words j ≡ has_ended s j
    ended_read j h =
        let its : eqb (word words (machine_start + initiator_words.ended_at)) 1 ≡ s.machine.ended
        = ap (λ (v : ℕ). eqb v 1) (read_ended s) ∙ ended_flag s.machine.ended in
        let other : eqb (word words (place_start j + participant_words.stage_at)) 2 ≡ is_ended (participant_at s j).stage
        = ap (λ (v : ℕ). eqb v 2) (read_stage s j h) ∙ ended_stage (participant_at s j).stage in
        λ i. pick (at_lead j i) (its i) (other i)

    pub stands_read : (j : ℕ) → j < 16 → stands_in_words initiator words j ≡ stands_on s j
    stands_read j h = λ i. pick (at_lead j i) (read_candidate s i) (read_stands s j h i)

    pub some_goes_on : (n : ℕ) → n ≤ 16 → some_worker_goes_on n initiator words ≡ someone_goes_on n s
    some_goes_on n few = ap not (all_ext n (ended_in_words initiator words) (has_ended s) (λ j h. ended_read j (omega arith)))
