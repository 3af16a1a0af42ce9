-- Exported calls in a row: `recovery_line_session_turn` for each number of a list, refused turns included, each given the words
-- and the strands that the call before it left.
use Rattle.std.specs.Prelude.{Bool, not, ◌&&◌, ◌||◌, List, [], ◌∷◌, ℕ, ◌+◌, ◌-◌, take, drop, eqb}
use Rattle.book.specs.Bounds.{most_processes}
use Rattle.lists.specs.Over.{all_to}
use Rattle.lists.specs.Pick.{pick}
use Rattle.strands.specs.Strands.{strand_start}
use Rattle.session.specs.Held.{sender_in}
use Rattle.words.specs.Words.{word}
use Rattle.words.specs.Session.{lengths_start}
use Rattle.recovery_line.specs.Sessions.{turn_answer, turn_session, turn_strands}
use Rattle.demand3_words.specs.Read.{awaited_in_words, some_report_awaited}

-- the words of a session, and the bytes of its strands
pub record Handed : Type 0 where
  pub session : List ℕ
  pub strands : List ℕ

module _ (shape sent received : List ℕ) where
  -- as a turn leaves them
  abbrev pub after_call : Handed → ℕ → Handed
  after_call o p =
      record {
        session = turn_session o.session shape sent received p o.strands;
        strands = turn_strands o.session shape sent received p o.strands;
      }

  -- after a list of turns
  unfoldable pub after_calls : Handed → List ℕ → Handed
  after_calls o [] = o
  after_calls o (p ∷ turns) = after_calls (after_call o p) turns

  abbrev pub call_accepted : Handed → ℕ → Bool
  call_accepted o p = eqb (turn_answer o.session shape sent received p o.strands) 0

  -- "The messages delivered are the accepted turns of the list"
  unfoldable pub accepted_calls : Handed → List ℕ → ℕ
  accepted_calls o [] = 0
  accepted_calls o (p ∷ turns) = pick (call_accepted o p) 1 0 + accepted_calls (after_call o p) turns

  -- the bytes that wait on k's strand
  abbrev pub bytes_on_strand : ℕ → Handed → ℕ → List ℕ
  bytes_on_strand initiator o k =
      take (word o.session (lengths_start + k)) (drop (strand_start (word shape 0) (initiator - 1) k) o.strands)

  -- what waits on p's strand is p's own report, and the only one that is awaited still
  abbrev pub brings_last_report : ℕ → Handed → ℕ → Bool
  brings_last_report initiator o p =
      let k : ℕ = p - 1 in
      eqb (sender_in (bytes_on_strand initiator o k)) p && all_to most_processes (λ q. not (awaited_in_words o.session q) || eqb q k)

  -- "A round is one wait of at least one report, counted as the wait begins": with an accepted turn one begins when it brings
  -- the last report, and somebody is awaited then
  abbrev pub call_begins_wait : ℕ → Handed → ℕ → Bool
  call_begins_wait initiator o p =
      call_accepted o p && (brings_last_report initiator o p && some_report_awaited (after_call o p).session)

  -- the turns of a list with which a wait begins
  unfoldable pub waits_begun_by : ℕ → Handed → List ℕ → ℕ
  waits_begun_by initiator o [] = 0
  waits_begun_by initiator o (p ∷ turns) = pick (call_begins_wait initiator o p) 1 0 + waits_begun_by initiator (after_call o p) turns
