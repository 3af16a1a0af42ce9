-- One event taken: the questions that the pass puts are those of the definition, and what is kept stays so.
use Rattle.std.specs.Prelude.{Result, Ok, Err}
use Rattle.std.specs.Result.{IsErrAnd}
use Rattle.std.proofs.lemmas.Result.{err_from_is_err_and}
use mathlib.Core.Path.{◌≡◌, refl, sym, ap, subst, ◌∙◌}
use mathlib.Core.Bool.{true, false}
use mathlib.Core.List.{List, [], ◌∷◌, ◌++◌}
use Prim.Native.Nat.{ℕ, zero, suc, ◌+◌, ◌≤◌, ◌<◌}
use native.Mathlib.Omega.{arith}
use borrow.Author.Tests.{leb-true, le-leb, lt-leb}
use lib.ListN.{get_or}
use lib.Dec.{leb}
use Rattle.lists.proofs.Tests.{and_both}
use Rattle.book.specs.declared.Process.{Process}
use Rattle.book.specs.declared.Question.{Question}
use Rattle.book.specs.Bounds.{most_processes, most_checkpoints}
use Rattle.book.specs.Names.{is_named}
use Rattle.book.specs.InTurn.{◌then◌, ask}
use Rattle.book.specs.Numbers.{number}
use Rattle.book.proofs.Names.{named_in}
use Rattle.book.proofs.Refusals.{number_positive, refused_by, is_accepted, refuses, accepts}
use Rattle.book.proofs.Questions.{then_none, ask_yes, asked_yes}
use Rattle.journal.specs.declared.Event.{Event}
use Rattle.journal.specs.declared.Event.TheVariants.{Sent, Received, Checkpointed}
use Rattle.journal.specs.Counting.{is_checkpoint, underway}
use Rattle.journal.specs.Questions.{checkpoints_in_all, event_named, something_underway, event_question}
use Rattle.journal.proofs.Counting.{underway_is}
use Rattle.journal_reader.specs.Asking.{channel_place, HasChannels, Kept, HasRoom, are_named, receipt_question, checkpoint_event_question, SendingTaken, ReceiptTaken, CheckpointTaken, total_after, EventTaken}
use Rattle.journal_reader.proofs.Kept.{total_stays, total_more, kept_sending, kept_receipt, kept_checkpoint}

-- ---- questions in turn

-- later questions that never fail
then_nothing : (q : ℕ) (later : Unit {0} → ℕ) → later tt ≡ 0 → q ≡ (q then later)
then_nothing zero later h = sym h
then_nothing (suc q) later h = refl

-- later questions alike where the first does not fail
then_alike : (q : ℕ) (f g : Unit {0} → ℕ) → (q ≡ 0 → f tt ≡ g tt) → (q then f) ≡ (q then g)
then_alike zero f g h = h refl
then_alike (suc q) f g h = refl

-- ---- processes named

named_place : (n process : ℕ) → n ≤ most_processes → is_named n process ≡ true → HasChannels process
named_place n process few h = let i = named_in n process h in (i.0, omega arith)

pub named_places : (n process partner : ℕ) → n ≤ most_processes → are_named n process partner ≡ true → HasChannels process × HasChannels partner
named_places n process partner few h =
    let b = and_both (is_named n process) (is_named n partner) h in
    (named_place n process few b.0, named_place n partner few b.1)

-- ---- the answers of the functions

module _ (n process partner : ℕ) (messages : List ℕ) where
  pub receipt_unnamed : are_named n process partner ≡ false → 10 ≡ receipt_question n process partner messages
  receipt_unnamed h = rw h

  module _ (named : are_named n process partner ≡ true) (c : ℕ) (at : c ≡ channel_place partner process) where
    pub receipt_none : get_or messages c 0 ≡ 0 → 20 ≡ receipt_question n process partner messages
    receipt_none z =
        rw (named, ← at, lt-leb 1 (get_or messages c 0) (omega arith))

    pub receipt_some : (get_or messages c 0 ≡ 0 → ⊥) → 0 ≡ receipt_question n process partner messages
    receipt_some z =
        rw (named, ← at, le-leb 1 (get_or messages c 0) (omega arith))

module _ (n process total : ℕ) where
  pub checkpoint_unnamed : is_named n process ≡ false → 10 ≡ checkpoint_event_question n process total
  checkpoint_unnamed h = rw h

  module _ (named : is_named n process ≡ true) where
    pub checkpoint_many : most_checkpoints ≤ total → 5 ≡ checkpoint_event_question n process total
    checkpoint_many h = rw (named, lt-leb (total + 1) most_checkpoints (omega arith))

    pub checkpoint_few : total < most_checkpoints → 0 ≡ checkpoint_event_question n process total
    checkpoint_few h = rw (named, le-leb (total + 1) most_checkpoints (omega arith))

-- ---- the question of an event

-- the last is question 5
pub total_within : (n : ℕ) (before : List Event) (e : Event) → event_question n before e ≡ 0 → checkpoints_in_all n (before ++ e ∷ []) ≤ most_checkpoints
unfolding event_question
total_within n before e h =
    let later = (then_none (ask 10 (event_named n e)) (λ _. ask 20 (something_underway before e) then λ _. five) h).1 in
    leb-true (checkpoints_in_all n (before ++ e ∷ [])) most_checkpoints
    (asked_yes 4 (leb (checkpoints_in_all n (before ++ e ∷ [])) most_checkpoints)
    (then_none (ask 20 (something_underway before e)) (λ _. five) later).1)
  where
    five : ℕ
    five = ask 5 (leb (checkpoints_in_all n (before ++ e ∷ [])) most_checkpoints)

module _ (n : ℕ) (before : List Event) (messages counts : List ℕ) (total : ℕ) (kept : Kept n before messages counts total) where
  -- after what is no checkpoint, question 5 does not fail again
  five_stays : total ≤ most_checkpoints → (e : Event) → ((j : ℕ) → is_checkpoint j e ≡ false)
      → ask 5 (leb (checkpoints_in_all n (before ++ e ∷ [])) most_checkpoints) ≡ 0
  five_stays within e none =
      rw (← total_stays n before messages counts total kept e none) (ask_yes 5 (leb total most_checkpoints) (le-leb total most_checkpoints within))

  sending_asked : (process partner : Process) → total ≤ most_checkpoints
      → ask 10 (are_named n process.0 partner.0) ≡ event_question n before (Sent process partner)
  unfolding event_question
  sending_asked process partner within =
      then_nothing (ask 10 (are_named n process.0 partner.0))
      (λ _. ask 5 (leb (checkpoints_in_all n (before ++ Sent process partner ∷ [])) most_checkpoints))
      (five_stays within (Sent process partner) (λ j. refl))

  -- what is underway is what is kept
  underway_kept : (p j : ℕ) → HasChannels p → HasChannels j → get_or messages (channel_place p j) 0 ≡ underway p j before
  underway_kept p j hp hj = let was = kept.messages p j hp hj in omega (arith, underway_is p j before)

  receipt_asked : (process partner : Process) → total ≤ most_checkpoints → n ≤ most_processes
      → receipt_question n process.0 partner.0 messages ≡ event_question n before (Received process partner)
  unfolding event_question
  receipt_asked process partner within few =
      then_alike (ask 10 (are_named n process.0 partner.0)) _ _ (λ z.
      let is = named_places n process.0 partner.0 few (asked_yes 9 (are_named n process.0 partner.0) z) in
      ap (λ (k : ℕ). ask 20 (leb 1 k)) (underway_kept partner.0 process.0 is.1 is.0)
      ∙ then_nothing (ask 20 (leb 1 (underway partner.0 process.0 before)))
      (λ _. ask 5 (leb (checkpoints_in_all n (before ++ Received process partner ∷ [])) most_checkpoints))
      (five_stays within (Received process partner) (λ j. refl)))

  checkpoint_asked : (process : Process) → checkpoint_event_question n process.0 total ≡ event_question n before (Checkpointed process)
  unfolding event_question
  checkpoint_asked process =
      then_alike (ask 10 (is_named n process.0)) _ _ (λ z.
      let is = named_in n process.0 (asked_yes 9 (is_named n process.0) z) in
      ap (λ (k : ℕ). ask 5 (leb k most_checkpoints)) (total_more n before messages counts total kept process is.0 is.1))

-- ---- each kind

-- at the exit of a `?`
pub handed : (r : Result ℕ Question) {Q : Question → Type 0} (x : Question) → IsErrAnd r Q → ((f : Question) → Q f → f ≡ x) → r ≡ Err x
handed r x failed same = let p = err_from_is_err_and r failed in p.1 ∙ ap Err (same p.0 p.2)

module _ (n : ℕ) (messages counts : List ℕ) (total : ℕ) (few : n ≤ most_processes) (fit : HasRoom messages counts total) (e : Event) where
  -- what a kind of event asks is what is to be asked, whatever came before
  abbrev Asks : ℕ → Type 0
  Asks q = (before : List Event) → Kept n before messages counts total → q ≡ event_question n before e

  event_refused : (q : ℕ) → Asks q → (x : Question) → q ≡ number x → (r : Result ℕ Question) → r ≡ Err x → (messages' counts' : List ℕ)
      → EventTaken n e messages counts total r messages' counts'
  event_refused q asks x is r was messages' counts' =
      rw was
      record {
        asked = λ before kept. refuses x (total_after n before e) (sym (asks before kept) ∙ is);
        kept = λ before kept z. absurd (omega (arith, asks before kept, number_positive x));
      }

  event_taken : (q : ℕ) → Asks q → q ≡ 0 → (total' : ℕ) (messages' counts' : List ℕ)
      → ((before : List Event) → Kept n before messages counts total → Kept n (before ++ e ∷ []) messages' counts' total')
      → EventTaken n e messages counts total (Ok total') messages' counts'
  event_taken q asks none total' messages' counts' now =
      record {
        asked = λ before kept. accepts (sym (asks before kept) ∙ none) (now before kept).in_all;
        kept = λ before kept z.
            let k = now before kept in subst (Kept n (before ++ e ∷ []) messages' counts') k.in_all k;
      }

  module _ (process partner : Process) (is : e ≡ Sent process partner) (messages' : List ℕ) (r : Result (Unit {0}) Question)
      (did : SendingTaken n process.0 partner.0 messages r messages') where
    sending_asks : Asks (ask 10 (are_named n process.0 partner.0))
    sending_asks before kept = rw is (sending_asked n before messages counts total kept process partner fit.in_all)

    pub sending_refused : (x : Question) → r ≡ Err x → (r' : Result ℕ Question) → r' ≡ Err x
        → EventTaken n e messages counts total r' messages' counts
    sending_refused x was r' was' =
        event_refused (ask 10 (are_named n process.0 partner.0)) sending_asks x (refused_by _ tt did.asked was) r' was' messages' counts

    pub sending_taken : r ≡ Ok tt → EventTaken n e messages counts total (Ok total) messages' counts
    sending_taken was =
        let z : ask 10 (are_named n process.0 partner.0) ≡ 0 = is_accepted _ tt did.asked was in
        let at = named_places n process.0 partner.0 few (asked_yes 9 (are_named n process.0 partner.0) z) in
        event_taken (ask 10 (are_named n process.0 partner.0)) sending_asks z total messages' counts
        (λ before kept.
        rw (did.taken z, is) (kept_sending n before messages counts total kept process partner at.0 at.1 fit.messages.long))

  module _ (process partner : Process) (is : e ≡ Received process partner) (messages' : List ℕ) (r : Result (Unit {0}) Question)
      (did : ReceiptTaken n process.0 partner.0 messages r messages') where
    receipt_asks : Asks (receipt_question n process.0 partner.0 messages)
    receipt_asks before kept = rw is (receipt_asked n before messages counts total kept process partner fit.in_all few)

    pub receipt_refused : (x : Question) → r ≡ Err x → (r' : Result ℕ Question) → r' ≡ Err x
        → EventTaken n e messages counts total r' messages' counts
    receipt_refused x was r' was' =
        event_refused (receipt_question n process.0 partner.0 messages) receipt_asks x (refused_by _ tt did.asked was) r' was' messages' counts

    pub receipt_taken : r ≡ Ok tt → EventTaken n e messages counts total (Ok total) messages' counts
    receipt_taken was =
        let z : receipt_question n process.0 partner.0 messages ≡ 0 = is_accepted _ tt did.asked was in
        let none = then_none (ask 10 (are_named n process.0 partner.0)) _ z in
        let at = named_places n process.0 partner.0 few (asked_yes 9 (are_named n process.0 partner.0) none.0) in
        let one = leb-true 1 _ (asked_yes 19 _ none.1) in
        event_taken (receipt_question n process.0 partner.0 messages) receipt_asks z total messages' counts
        (λ before kept.
        rw (did.taken z, is) (kept_receipt n before messages counts total kept process partner at.0 at.1 fit.messages.long one))

  module _ (process : Process) (is : e ≡ Checkpointed process) (counts' : List ℕ) (r : Result (Unit {0}) Question)
      (did : CheckpointTaken n process.0 counts total r counts') where
    checkpoint_asks : Asks (checkpoint_event_question n process.0 total)
    checkpoint_asks before kept = rw is (checkpoint_asked n before messages counts total kept process)

    pub checkpoint_refused : (x : Question) → r ≡ Err x → (r' : Result ℕ Question) → r' ≡ Err x
        → EventTaken n e messages counts total r' messages counts'
    checkpoint_refused x was r' was' =
        event_refused (checkpoint_event_question n process.0 total) checkpoint_asks x (refused_by _ tt did.asked was) r' was' messages counts'

    pub checkpoint_taken : r ≡ Ok tt → EventTaken n e messages counts total (Ok (total + 1)) messages counts'
    checkpoint_taken was =
        let z : checkpoint_event_question n process.0 total ≡ 0 = is_accepted _ tt did.asked was in
        let none = then_none (ask 10 (is_named n process.0)) _ z in
        let at = named_in n process.0 (asked_yes 9 (is_named n process.0) none.0) in
        event_taken (checkpoint_event_question n process.0 total) checkpoint_asks z (total + 1) messages counts'
        (λ before kept. rw (did.taken z, is) (kept_checkpoint n before messages counts total kept process at.0 at.1 few))
