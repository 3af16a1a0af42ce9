-- What a strand holds: by the head that its bytes have, and by the questions that the message is put.
use Rattle.std.specs.Result.{is_err}
use Rattle.std.specs.Prelude.{Some, None, Result, Ok, Err}
use mathlib.Core.Path.{◌≡◌, refl, sym, ap, ◌∙◌}
use mathlib.Core.Bool.{Bool, true, false, true≢false}
use mathlib.Core.List.{List}
use Prim.Native.Nat.{ℕ, suc, ◌+◌, ◌-◌}
use native.Mathlib.Numerals.{add-one}
use native.Mathlib.Omega.{arith}
use borrow.Author.Tests.{eq-eqb, ne_eqb}
use lib.ListN.{length, take, drop, get_or}
use lib.Dec.{eqb}
use Rattle.varint.specs.Sequence.{Numbers}
use Rattle.book.specs.declared.Question.{Question}
use Rattle.book.specs.InTurn.{◌then◌, ask, answer_with}
use Rattle.book.specs.Numbers.{by_number}
use Rattle.book.proofs.Refusals.{is_refused, is_accepted}
use Rattle.book.specs.Read.{numbers_from}
use Rattle.lists.specs.Pick.{pick}
use Rattle.matrix.specs.Entries.{all_lower}
use Rattle.message.specs.declared.Head.{Head}
use Rattle.message.specs.declared.Message.{Message}
use Rattle.message.specs.Formed.{begin_formed, message_formed}
use Rattle.message.specs.Parts.{HeadFound}
use Rattle.message.proofs.Messages.{formless, no_head}
use Rattle.machine.specs.Sends.{is_termination}
use Rattle.participant.specs.declared.Participant.{Participant}
use Rattle.participant.specs.Step.{awaits}
use Rattle.participant.specs.Calls as participant
use Rattle.initiator.specs.declared.Initiator.{Initiator}
use Rattle.initiator.specs.Calls as initiator
use Rattle.initiator.proofs.Calls.{not_formed}
use Rattle.strands.specs.Strands.{strand_start, length_on, strand_bytes}
use Rattle.session.specs.declared.Session.{Session}
use Rattle.session.specs.declared.Waiting.{Waiting}
use Rattle.session.specs.declared.Waiting.TheVariants.{Nothing, Asking, Ending, Report, Stray}
use Rattle.session.specs.Workers.{initiator_of, participant_at}
use Rattle.session.specs.Held.{sender_in, ends_search, held_down, held_up, is_report, waiting_bytes, held}
use Rattle.session_check.specs.Parts.{bytes_on, held_of, Told}
use Rattle.lists.proofs.Pick.{pick_yes, pick_no}

pub ends_yes : (m : Message) → m.head.purpose ≡ 2 → eqb m.head.purpose 2 ≡ ends_search m
ends_yes m h = rw (eq-eqb m.head.purpose 2 h)

pub ends_if : (m : Message) {r : Bool} → (m.head.purpose ≡ 2 → ⊥) → r ≡ is_termination m → r ≡ ends_search m
ends_if m h e = rw (ne_eqb m.head.purpose 2 h) e

-- ---- a call that is asked only whether it refuses

module _ {A : Type 0} (q : ℕ) (v : A) where
  pub refuses_one : (r : Result A Question) → by_number r ≡ answer_with q v → is_err r ≡ true → q ≡ 0 → ⊥
  refuses_one (Ok w) answered h = absurd (true≢false (sym h))
  refuses_one (Err e) answered h = is_refused q v answered refl

  pub refuses_none : (r : Result A Question) → by_number r ≡ answer_with q v → is_err r ≡ false → q ≡ 0
  refuses_none (Ok w) answered h = is_accepted q v answered refl
  refuses_none (Err e) answered h = absurd (true≢false h)

-- ---- to a participant

module _ (n : ℕ) (p : Participant) (s : List ℕ) where
  abbrev down : ℕ
  down = participant.message_question n p s

  abbrev what : Waiting
  what = pick (ends_search (participant.read_by n p s)) Ending Asking

  -- not formed: question 14 fails
  down_formless : message_formed n p.me.0 p.initiator.0 s ≡ false → 14 ≡ down
  down_formless h =
      fails (message_formed n p.me.0 p.initiator.0 s)
      (ask 15 (awaits p (participant.read_by n p s)) then λ _. ask 16 (all_lower (participant.read_by n p s).news p.column)) h
    where
      fails : (b : Bool) (later : ℕ) → b ≡ false → 14 ≡ (ask 14 b then λ _. later)
      fails b later e = rw e

  pub down_stray : (down ≡ 0 → ⊥) → Stray ≡ held_down n p s
  unfolding held_down
  down_stray h = pick_no (eqb down 0) what Stray (ne_eqb down 0 h)

  module _ (passes : down ≡ 0) (m : Message) (e : m ≡ participant.read_by n p s) where
    ends : {t : Bool} → t ≡ ends_search m → ends_search (participant.read_by n p s) ≡ t
    ends f = sym (f ∙ ap (λ (r : Message). ends_search r) e)

    pub down_ending : {t : Bool} → t ≡ ends_search m → t ≡ true → Ending ≡ held_down n p s
    unfolding held_down
    down_ending f h =
        pick_yes (ends_search (participant.read_by n p s)) Ending Asking (ends f ∙ h)
        ∙ pick_yes (eqb down 0) what Stray (eq-eqb down 0 passes)

    pub down_asking : {t : Bool} → t ≡ ends_search m → t ≡ false → Asking ≡ held_down n p s
    unfolding held_down
    down_asking f h =
        pick_no (ends_search (participant.read_by n p s)) Ending Asking (ends f ∙ h)
        ∙ pick_yes (eqb down 0) what Stray (eq-eqb down 0 passes)

-- ---- to the initiator

module _ (n : ℕ) (m : Initiator) (s : List ℕ) where
  abbrev up : ℕ
  up = initiator.message_question n m s

  pub up_stray : (up ≡ 0 → ⊥) → Stray ≡ held_up n m s
  unfolding held_up
  up_stray h = pick_no (eqb up 0) Report Stray (ne_eqb up 0 h)

  pub up_report : up ≡ 0 → Report ≡ held_up n m s
  unfolding held_up
  up_report h = pick_yes (eqb up 0) Report Stray (eq-eqb up 0 h)

-- ---- on a strand

all_stray : (a b : Bool) (x y : Waiting) → Stray ≡ x → Stray ≡ y → Stray ≡ pick a x (pick b y Stray)
all_stray true b x y e f = e
all_stray false true x y e f = f
all_stray false false x y e f = refl

-- never a report from the initiator
down_no_report : (n : ℕ) (p : Participant) (s : List ℕ) → is_report (held_down n p s) ≡ false
unfolding held_down
down_no_report n p s = go (eqb (down n p s) 0) (ends_search (participant.read_by n p s))
  where
    go : (a b : Bool) → is_report (pick a (pick b Ending Asking) Stray) ≡ false
    go true true = refl
    go true false = refl
    go false b = refl

module _ (n of : ℕ) (p : Participant) (k : ℕ) (s : List ℕ) where
  abbrev from_it : Bool
  from_it = eqb (sender_in s) of

  abbrev to_it : Bool
  to_it = eqb (sender_in s) (suc k)

  abbrev on_down : Waiting
  on_down = held_down n p s

  abbrev rest : Initiator → Waiting
  rest m = pick to_it (held_up n m s) Stray

  pub told_nothing : length s ≡ 0 → Told n of p k s Nothing
  unfolding held_of
  told_nothing h = λ m. pick_yes (eqb (length s) 0) Nothing (pick from_it on_down (rest m)) (eq-eqb (length s) 0 h)

  module _ (some : length s ≡ 0 → ⊥) where
    by_sender : (m : Initiator) → pick from_it on_down (rest m) ≡ held_of n of p m k s
    unfolding held_of
    by_sender m = pick_no (eqb (length s) 0) Nothing (pick from_it on_down (rest m)) (ne_eqb (length s) 0 some)

    -- no head: whoever gets it, it is not formed
    pub told_formless : begin_formed n (numbers_from s 0).found ≡ false → Told n of p k s Stray
    told_formless h =
        λ m.
        let no_down : Stray ≡ on_down =
        down_stray n p s (λ z. absurd (omega (arith, z, down_formless n p s (formless n p.me.0 p.initiator.0 s h)))) in
        let no_up : Stray ≡ held_up n m s =
        up_stray n m s (λ z. absurd (omega (arith, z, not_formed n m s None (no_head n m.me.0 m.me.0 s h) refl))) in
        all_stray from_it to_it on_down (held_up n m s) no_down no_up ∙ by_sender m

    module _ (head : Head) (next : ℕ) (found : HeadFound n s (Some (head, next))) where
      sender : sender_in s ≡ head.sender.0
      sender = ap (λ (t : Numbers). get_or t.found 2 0) found.0

      pub told_from : {w : Waiting} → head.sender.0 ≡ of → w ≡ on_down → Told n of p k s w
      told_from {w} h e =
          λ m.
          sym (pick_no (is_report w) (held_up n m s) w (ap is_report e ∙ down_no_report n p s))
          ∙ (e ∙ (pick_yes from_it on_down (rest m) (eq-eqb (sender_in s) of (sender ∙ h)) ∙ by_sender m))

      module _ (other : head.sender.0 ≡ of → ⊥) where
        not_from : (m : Initiator) → rest m ≡ held_of n of p m k s
        not_from m =
            pick_no from_it on_down (rest m) (ne_eqb (sender_in s) of (λ z. other (sym sender ∙ z))) ∙ by_sender m

        pub told_strange : (head.sender.0 ≡ k + 1 → ⊥) → Told n of p k s Stray
        told_strange h =
            λ m.
            pick_no to_it (held_up n m s) Stray (ne_eqb (sender_in s) (suc k) (λ z. h (sym sender ∙ (z ∙ sym (add-one k)))))
            ∙ not_from m

        pub told_report : head.sender.0 ≡ k + 1 → Told n of p k s Report
        told_report h =
            λ m. pick_yes to_it (held_up n m s) Stray (eq-eqb (sender_in s) (suc k) (sender ∙ (h ∙ add-one k))) ∙ not_from m

-- ---- the bytes of a strand

module _ (n of waits : ℕ) (strands : List ℕ) (k : ℕ) where
  pub no_bytes : waits ≡ 0 → length (bytes_on n of waits strands k) ≡ 0
  no_bytes h = rw h

  pub its_bytes : {at : ℕ} → at ≡ strand_start n of k → take (at + waits - at) (drop at strands) ≡ bytes_on n of waits strands k
  its_bytes {at} e =
      let long : at + waits - at ≡ waits = omega arith in
      rw long (ap (λ (i : ℕ). take waits (drop i strands)) e)

-- ---- of a session

module _ (n : ℕ) (session : Session) (strands : List ℕ) (k : ℕ) where
  abbrev its : List ℕ
  its = bytes_on n (initiator_of session) (length_on session.lengths k) strands k

  is_held : held_of n session.initiator.0 (participant_at session k) session.machine k its ≡ held n session k (waiting_bytes n session strands k)
  unfolding held_of held strand_bytes
  is_held = refl

  module _ (w : Waiting) (told : Told n session.initiator.0 (participant_at session k) k its w) where
    pub held_below : is_report w ≡ false → w ≡ held n session k (waiting_bytes n session strands k)
    held_below h = pick_no (is_report w) (held_up n session.machine its) w h ∙ (told session.machine ∙ is_held)

    pub held_above : {up : Waiting} → is_report w ≡ true → up ≡ held_up n session.machine its
        → up ≡ held n session k (waiting_bytes n session strands k)
    held_above h e = e ∙ (pick_yes (is_report w) (held_up n session.machine its) w h ∙ (told session.machine ∙ is_held))
