-- What exported calls hand on, call by call, is what the calls inside hand on, as words.
use mathlib.Core.Path.{◌≡◌, refl, ap, ◌∙◌}
use mathlib.Core.Bool.{◌&&◌}
use mathlib.Core.List.{List, [], ◌∷◌, map}
use Prim.Native.Nat.{ℕ, zero, suc, ◌+◌, ◌-◌}
use borrow.Author.Tests.{eq-eqb}
use lib.ListN.{length}
use lib.Dec.{eqb}
use Rattle.book.specs.Lent.{lent}
use Rattle.book.specs.InTurn.{ask, unless_refused}
use Rattle.book.proofs.Questions.{then_passed, ask_yes}
use Rattle.lists.proofs.Tests.{both_and}
use Rattle.lists.proofs.Over.{length_tab}
use Rattle.lists.specs.Pick.{pick}
use Rattle.strands.specs.Strands.{posted}
use Rattle.session.specs.declared.Session.{Session}
use Rattle.session.specs.declared.Turned.{Turned}
use Rattle.session.specs.Workers.{initiator_of}
use Rattle.session.specs.Held.{waiting_bytes, held}
use Rattle.session.specs.Steps.{with_posted}
use Rattle.session.specs.Calls.{turned, turn_question, session_after, strands_after}
use Rattle.session.specs.Turns.{Ongoing, after_turn, after_turns, turn_accepted, accepted_turns}
use Rattle.words.specs.Words.{word, shape_length, shape_counts_at, wrong_length, is_long}
use Rattle.words.specs.Plain.{shape_in}
use Rattle.words.specs.Session.{session_length, session_words, session_in}
use Rattle.recovery_line.specs.Machines.{as_process}
use Rattle.recovery_line.specs.Sessions.{turn_answer, turn_session, turn_strands}
use Rattle.turns.proofs.Delivering.{same_initiator}
use Rattle.word_laws.specs.Values.{IsSession}
use Rattle.word_laws.proofs.Sessions.{session_length_lem}
use Rattle.word_laws.proofs.Theorems.{session_back}
use Rattle.demand3_words.specs.Turns.{Handed, after_call, after_calls, accepted_calls}
use Rattle.demand3_words.proofs.Kept.{by_answer, turn_is_session}

-- a session as words, with its strands
abbrev pub handed : Ongoing → Handed
handed o = record { session = session_words o.session; strands = o.strands }

-- what an accepted call leaves as words, where a refused one leaves the words
pub as_words : {A B : Type 0} (f : A → B) (q : ℕ) (before after : A)
    → unless_refused q (f before) (f (unless_refused q before after)) ≡ f (unless_refused q before after)
as_words f zero before after = refl
as_words f (suc q) before after = refl

pub counts_sixteen : (shape : List ℕ) → length (shape_in shape).counts ≡ 16
unfolding shape_in
counts_sixteen shape = length_tab 16 (λ i. word shape (shape_counts_at + i))

module _ (shape sent received : List ℕ) (long : length shape ≡ shape_length) where
  module _ (o : Ongoing) (is : IsSession o.session) (p : ℕ) where
    abbrev s : Session
    s = o.session

    abbrev question : ℕ
    question = turn_question (lent (shape_in shape) sent received) s (as_process p) o.strands

    pub answer_is : turn_answer (session_words s) shape sent received p o.strands ≡ question
    unfolding turn_answer
    answer_is =
        then_passed (ask wrong_length (is_long shape_length shape && is_long session_length (session_words s)))
        (λ _. turn_question (lent (shape_in shape) sent received) (session_in (session_words s)) (as_process p) o.strands)
        (ask_yes wrong_length (is_long shape_length shape && is_long session_length (session_words s))
        (both_and (is_long shape_length shape) (is_long session_length (session_words s)) (eq-eqb (length shape) shape_length long)
        (eq-eqb (length (session_words s)) session_length (session_length_lem s))))
        ∙ ap (λ (t : Session). turn_question (lent (shape_in shape) sent received) t (as_process p) o.strands) (session_back s is)

    abbrev next : Turned
    next = turned (lent (shape_in shape) sent received) s (as_process p) o.strands

    session_is :
        turn_session (session_words s) shape sent received p o.strands
        ≡ session_words (session_after (lent (shape_in shape) sent received) s (as_process p) o.strands)
    unfolding turn_session session_after
    session_is =
        (λ i. unless_refused (answer_is i) (session_words s)
        (session_words (session_after (lent (shape_in shape) sent received) (session_back s is i) (as_process p) o.strands)))
        ∙ as_words session_words question s (with_posted next)

    strands_are :
        turn_strands (session_words s) shape sent received p o.strands
        ≡ strands_after (lent (shape_in shape) sent received) s (as_process p) o.strands
    unfolding turn_strands strands_after
    strands_are =
        (λ i. unless_refused (answer_is i) o.strands (strands_after (lent (shape_in shape) sent received) (session_back s is i) (as_process p) o.strands))
        ∙ as_words (λ (l : List ℕ). l) question o.strands
        (posted (shape_in shape).n (initiator_of s) next.outgoing o.strands)

    abbrev then' : Ongoing
    then' = after_turn (lent (shape_in shape) sent received) o (as_process p)

    pub call_is : after_call shape sent received (handed o) p ≡ handed then'
    call_is = λ i. record { session = session_is i; strands = strands_are i }

    -- it is a session again, of the same initiator
    pub next_is : IsSession then'.session
    next_is = turn_is_session (lent (shape_in shape) sent received) s (as_process p) o.strands (counts_sixteen shape) is

    pub same_lead : then'.session.initiator ≡ s.initiator
    unfolding session_after with_posted
    same_lead =
        let k : ℕ = p - 1 in
        let b : List ℕ = waiting_bytes (shape_in shape).n s o.strands k in
        by_answer (λ (t : Session). t.initiator ≡ s.initiator) question s (with_posted next) refl
        (λ _. same_initiator (lent (shape_in shape) sent received) s k b (held (shape_in shape).n s k b))

  -- ---- a list of calls

  pub calls_are : (turns : List ℕ) (o : Ongoing) → IsSession o.session
      → after_calls shape sent received (handed o) turns ≡ handed (after_turns (lent (shape_in shape) sent received) o (map as_process turns))
  unfolding after_calls after_turns
  calls_are [] o is = refl
  calls_are (p ∷ turns) o is =
      ap (λ (h : Handed). after_calls shape sent received h turns) (call_is o is p) ∙ calls_are turns (then' o is p) (next_is o is p)

  pub all_are : (turns : List ℕ) (o : Ongoing) → IsSession o.session
      → IsSession (after_turns (lent (shape_in shape) sent received) o (map as_process turns)).session
  unfolding after_turns
  all_are [] o is = is
  all_are (p ∷ turns) o is = all_are turns (then' o is p) (next_is o is p)

  pub all_lead : (turns : List ℕ) (o : Ongoing) → IsSession o.session
      → (after_turns (lent (shape_in shape) sent received) o (map as_process turns)).session.initiator ≡ o.session.initiator
  unfolding after_turns
  all_lead [] o is = refl
  all_lead (p ∷ turns) o is = all_lead turns (then' o is p) (next_is o is p) ∙ same_lead o is p

  pub accepted_are : (turns : List ℕ) (o : Ongoing) → IsSession o.session
      → accepted_calls shape sent received (handed o) turns ≡ accepted_turns (lent (shape_in shape) sent received) o (map as_process turns)
  unfolding accepted_calls accepted_turns
  accepted_are [] o is = refl
  accepted_are (p ∷ turns) o is =
      (λ i. pick (eqb (answer_is o is p i) 0) 1 0 + accepted_calls shape sent received (call_is o is p i) turns)
      ∙ ap (λ (v : ℕ). pick (turn_accepted (lent (shape_in shape) sent received) o (as_process p)) 1 0 + v)
      (accepted_are turns (then' o is p) (next_is o is p))
