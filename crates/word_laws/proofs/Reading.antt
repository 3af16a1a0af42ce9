-- What is read off a session's words, each at its place.
use mathlib.Core.Path.{◌≡◌}
use mathlib.Core.List.{List}
use Prim.Native.Nat.{ℕ, ◌+◌, ◌<◌}
use native.Mathlib.Omega.{arith}
use lib.ListN.{get_or}
use Rattle.book.specs.Bounds.{most_processes}
use Rattle.machine.specs.Flags.{flag}
use Rattle.participant.specs.Calls.{no_participant}
use Rattle.session.specs.declared.Session.{Session}
use Rattle.words.specs.Words.{word}
use Rattle.words.specs.Participant as participant_words
use Rattle.words.specs.Participant.{stage_word}
use Rattle.words.specs.Initiator as initiator_words
use Rattle.words.specs.Initiator.{flag_word}
use Rattle.words.specs.Session.{machine_start, place_start, lengths_start, delivered_at, session_words}
use Rattle.word_laws.proofs.Lying.{lies_self, lies_tab_in}
use Rattle.word_laws.proofs.Participants as participants
use Rattle.word_laws.proofs.Initiators as initiators
use Rattle.word_laws.proofs.Sessions as sessions

module _ (session : Session) where
  abbrev words : List ℕ
  words = session_words session

  parts : sessions.Parts session words
  parts = sessions.parts_in session (lies_self words)

  -- ---- the session itself

  pub read_delivered : word words delivered_at ≡ session.delivered
  read_delivered = parts.delivered_there.each 0 (omega arith)

  pub read_length : (k : ℕ) → k < most_processes → word words (lengths_start + k) ≡ word session.lengths k
  read_length k h = lies_tab_in most_processes (word session.lengths) parts.lengths_there k h

  -- ---- its initiator

  machine : initiators.Parts words machine_start session.machine
  machine = initiators.parts_in session.machine words machine_start parts.initiator

  pub read_ended : word words (machine_start + initiator_words.ended_at) ≡ flag_word session.machine.ended
  read_ended = machine.first.each initiator_words.ended_at (omega arith)

  pub read_candidate : word words (machine_start + initiator_words.candidate_at) ≡ session.machine.candidate.0
  read_candidate = machine.first.each initiator_words.candidate_at (omega arith)

  pub read_rounds : word words (machine_start + initiator_words.rounds_at) ≡ session.machine.rounds
  read_rounds = machine.first.each initiator_words.rounds_at (omega arith)

  pub read_awaited : (k : ℕ) → k < most_processes → word words (machine_start + initiator_words.awaited_at + k) ≡ flag_word (flag session.machine.awaited k)
  read_awaited k h = lies_tab_in most_processes (λ p. flag_word (flag session.machine.awaited p)) machine.awaited k h

  -- ---- the participant at place k

  module _ (k : ℕ) (h : k < most_processes) where
    place : participants.Parts words (place_start k) (get_or session.participants k no_participant)
    place =
        participants.parts_in (get_or session.participants k no_participant) words (place_start k)
        (sessions.places_in session.participants most_processes parts.participants k h)

    pub read_stage : word words (place_start k + participant_words.stage_at) ≡ stage_word (get_or session.participants k no_participant).stage
    read_stage = place.first.each participant_words.stage_at (omega arith)

    pub read_stands : word words (place_start k + participant_words.candidate_at) ≡ (get_or session.participants k no_participant).candidate.0
    read_stands = place.first.each participant_words.candidate_at (omega arith)
