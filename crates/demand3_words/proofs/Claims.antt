-- Demand 3 read off the words, from demand 3 of the search inside.
use mathlib.Core.Path.{◌≡◌, sym, ap, subst, ◌∙◌}
use mathlib.Core.Bool.{Bool, true}
use mathlib.Core.List.{List, map}
use mathlib.Core.Logic.{◌⊎◌}
use Prim.Native.Nat.{ℕ, ◌+◌, ◌-◌, ◌*◌, ◌≤◌, ◌<◌}
use native.Mathlib.Omega.{arith}
use lib.ListN.{length}
use Rattle.book.specs.Lent.{lent}
use Rattle.book.specs.declared.Process.{Process}
use Rattle.line_theory.specs.Sets.{View, IsSet, Consistent}
use Rattle.line_theory.specs.Search.{line, passed}
use Rattle.line_theory.proofs.Accepted.{accepted_size}
use Rattle.lists.specs.Pick.{pick}
use Rattle.book.proofs.Names.{named_in}
use Rattle.machine.specs.Flags.{someone}
use Rattle.strands.specs.Strands.{room_for_all}
use Rattle.session.specs.declared.Session.{Session}
use Rattle.session.specs.Workers.{stands_on, has_ended, waits_on}
use Rattle.session.specs.Calls.{turn_question}
use Rattle.session.specs.Turns.{Ongoing, started, after_turns, accepted_turns, waits_begun}
use Rattle.words.specs.Words.{word, shape_length}
use Rattle.words.specs.Plain.{shape_in}
use Rattle.recovery_line.specs.Machines.{as_process}
use Rattle.recovery_line.specs.Sessions.{turn_answer}
use Rattle.demand3.specs.Statement.{HoldsAfter, at_start, after, next_question, start_waits, shape_left, view_left, tables_left}
use Rattle.demand3.proofs.Theorems.{demand_3}
use Rattle.word_laws.specs.Values.{IsSession}
use Rattle.word_laws.proofs.Reading.{read_delivered, read_rounds}
use Rattle.demand3_words.specs.Read.{waits_in_words, ended_in_words, stands_in_words, rounds_in_words, delivered_in_words, some_message_waits, some_worker_goes_on, some_report_awaited}
use Rattle.demand3_words.specs.Turns.{Handed, after_calls, accepted_calls, waits_begun_by}
use Rattle.demand3_words.specs.Statement.{Lent, AllAccept, IsSearch, shape_given, sent_given, received_given, size_given, line_given, passed_given, handed_by_start, handed_after, next_answer, view_given, start_begins_wait, HoldsInWords, Demand3InWords}
use Rattle.demand3_words.specs.Beside.{inside}
use Rattle.demand3_words.proofs.Read.{waits_read, some_waits, some_awaited, ended_read, stands_read, some_goes_on}
use Rattle.demand3_words.proofs.Handed.{handed, answer_is, calls_are, all_are, all_lead, accepted_are}
use Rattle.demand3_words.proofs.Reports.{begun_are}
use Rattle.demand3_words.proofs.Given.{shape_long, size_given_lem, is_named_lem, is_search_lem, shape_same, sent_same, received_same, view_same, accepts, first, first_is, first_lead, start_handed, line_given_lem, passed_given_lem}

-- ---- a set with the same checkpoints

module _ (v : View) (c d : ℕ → ℕ) (same : (j : ℕ) → j < v.n → c j ≡ d j) where
  same_set : IsSet v d → IsSet v c
  same_set is =
      record {
        some = λ j h. omega (arith, same j h, is.some j h);
        among = λ j h. omega (arith, same j h, is.among j h);
      }

  same_consistent : Consistent v d → Consistent v c
  same_consistent pairs j p h k other = rw (same j h, same p k) (pairs j p h k other)

few_of : (d d' n n' t t' : ℕ) → d ≡ d' → n ≡ n' → t ≡ t' → d' ≤ (n' - 1) * (2 * t' + 5) → d ≤ (n - 1) * (2 * t + 5)
few_of d d' n n' t t' e f g h = rw (e, f, g) h

-- ---- after the list

module _ (b : Lent) (a : AllAccept b) (h : IsSearch b) (turns : List ℕ) where
  abbrev processes : List Process
  processes = map as_process turns

  holds : HoldsAfter (inside b) processes
  holds = demand_3 (inside b) (accepts b a) h processes

  -- the session and the strands inside: on the tables that were read, then on the same ones as the words give them
  abbrev o : Ongoing
  o = after (inside b) processes

  abbrev s : Session
  s = o.session

  abbrev given : Ongoing
  given = after_turns (lent (shape_in (shape_given b)) (sent_given b) (received_given b)) (first b a) processes

  same : given ≡ o
  same =
      λ i. after_turns (lent (shape_same b a i) (sent_same b a i) (received_same b a i))
      (started (lent (shape_same b a i) (sent_same b a i) (received_same b a i)) (as_process b.initiator) b.purpose b.strands) processes

  long : length (shape_given b) ≡ shape_length
  long = shape_long b a.read

  by_calls : handed_after b turns ≡ handed given
  by_calls =
      ap (λ (w : Handed). after_calls (shape_given b) (sent_given b) (received_given b) w turns) (start_handed b a)
      ∙ calls_are (shape_given b) (sent_given b) (received_given b) long turns (first b a) (first_is b a)

  now : handed_after b turns ≡ handed o
  now = by_calls ∙ ap handed same

  given_is : IsSession given.session
  given_is = all_are (shape_given b) (sent_given b) (received_given b) long turns (first b a) (first_is b a)

  leads : s.initiator.0 ≡ b.initiator
  leads =
      ap (λ (t : Ongoing). t.session.initiator.0) (sym same)
      ∙ ap (λ (p : Process). p.0)
      (all_lead (shape_given b) (sent_given b) (received_given b) long turns (first b a) (first_is b a) ∙ first_lead b a)

  some : 1 ≤ b.initiator
  some = (named_in (shape_left (inside b)).n b.initiator (is_named_lem b a)).0

  size : size_given b ≡ (shape_left (inside b)).n
  size = size_given_lem b a.read

  few : (shape_left (inside b)).n ≤ 16
  few = (accepted_size (is_search_lem b a).accepted).1

  -- ---- what is read

  delivered_is : delivered_in_words (handed_after b turns).session ≡ s.delivered
  delivered_is = ap (λ (w : Handed). delivered_in_words w.session) now ∙ read_delivered s

  rounds_are : rounds_in_words (handed_after b turns).session ≡ s.machine.rounds
  rounds_are = ap (λ (w : Handed). rounds_in_words w.session) now ∙ read_rounds s

  passed_is : passed_given b ≡ passed (view_left (inside b))
  passed_is = passed_given_lem b a ∙ ap passed (view_same b a)

  answer : (p : ℕ) → next_answer b turns p ≡ next_question (inside b) processes (as_process p)
  answer p =
      ap (λ (w : Handed). turn_answer w.session (shape_given b) (sent_given b) (received_given b) p w.strands) by_calls
      ∙ answer_is (shape_given b) (sent_given b) (received_given b) long given given_is p
      ∙ (λ i. turn_question (lent (shape_same b a i) (sent_same b a i) (received_same b a i)) (same i).session (as_process p) (same i).strands)

  module _ (j : ℕ) (there : j < size_given b) where
    within : j < (shape_left (inside b)).n
    within = omega (arith, size)

    small : j < 16
    small = omega (arith, within, few)

    line_is : word (line_given b) j ≡ line (view_left (inside b)) j
    line_is = line_given_lem b a j small ∙ ap (λ (v : View). line v j) (view_same b a)

    stands_is : stands_in_words b.initiator (handed_after b turns).session j ≡ stands_on s j
    stands_is =
        ap (λ (w : Handed). stands_in_words b.initiator w.session j) now ∙ stands_read s b.initiator leads some j small

    ended_is : ended_in_words b.initiator (handed_after b turns).session j ≡ has_ended s j
    ended_is =
        ap (λ (w : Handed). ended_in_words b.initiator w.session j) now ∙ ended_read s b.initiator leads some j small

  -- ---- the line

  abbrev v : View
  v = view_given b

  line_there : (j : ℕ) → j < v.n → word (line_given b) j ≡ line v j
  unfolding shape_in
  line_there j there = line_given_lem b a j (small j there)

  is_set : IsSet v (line v)
  is_set = subst (λ (t : View). IsSet t (line t)) (sym (view_same b a)) holds.line_set

  is_consistent : Consistent v (line v)
  is_consistent = subst (λ (t : View). Consistent t (line t)) (sym (view_same b a)) holds.line_consistent

  is_latest : (c : ℕ → ℕ) → IsSet v c → Consistent v c → (j : ℕ) → j < size_given b → c j ≤ word (line_given b) j
  is_latest c is pairs j there =
      let most : c j ≤ line (view_left (inside b)) j =
      holds.latest c (subst (λ (t : View). IsSet t c) (view_same b a) is)
      (subst (λ (t : View). Consistent t c) (view_same b a) pairs) j (within j there) in
      omega (arith, most, line_is j there)

  -- ---- the rounds

  start_waits_lem : start_begins_wait b ≡ start_waits (inside b)
  start_waits_lem =
      ap (λ (w : Handed). pick (some_report_awaited w.session) 1 0) (start_handed b a)
      ∙ ap (λ (t : Bool). pick t 1 0) (some_awaited (first b a).session)
      ∙ (λ i.
      pick
      (someone
      (started (lent (shape_same b a i) (sent_same b a i) (received_same b a i)) (as_process b.initiator) b.purpose b.strands).session.machine.awaited)
      1 0)

  begun_is :
      waits_begun_by (shape_given b) (sent_given b) (received_given b) b.initiator (handed_by_start b) turns
      ≡ waits_begun (tables_left (inside b)) (at_start (inside b)) processes
  begun_is =
      ap (λ (w : Handed). waits_begun_by (shape_given b) (sent_given b) (received_given b) b.initiator w turns) (start_handed b a)
      ∙ begun_are (shape_given b) (sent_given b) (received_given b) long b.initiator turns (first b a) (first_is b a)
      (ap (λ (p : Process). p.0) (first_lead b a))
      ∙ (λ i.
      waits_begun (lent (shape_same b a i) (sent_same b a i) (received_same b a i))
      (started (lent (shape_same b a i) (sent_same b a i) (received_same b a i)) (as_process b.initiator) b.purpose b.strands) processes)

  accepted_is :
      accepted_calls (shape_given b) (sent_given b) (received_given b) (handed_by_start b) turns
      ≡ accepted_turns (tables_left (inside b)) (at_start (inside b)) processes
  accepted_is =
      ap (λ (w : Handed). accepted_calls (shape_given b) (sent_given b) (received_given b) w turns) (start_handed b a)
      ∙ accepted_are (shape_given b) (sent_given b) (received_given b) long turns (first b a) (first_is b a)
      ∙ (λ i.
      accepted_turns (lent (shape_same b a i) (sent_same b a i) (received_same b a i))
      (started (lent (shape_same b a i) (sent_same b a i) (received_same b a i)) (as_process b.initiator) b.purpose b.strands) processes)

  -- ---- together

  exactly :
      some_message_waits (handed_after b turns).session ≡ some_worker_goes_on (size_given b) b.initiator (handed_after b turns).session
  exactly =
      ap (λ (w : Handed). some_message_waits w.session) now
      ∙ some_waits s
      ∙ holds.waits_exactly
      ∙ sym (some_goes_on s b.initiator leads some (shape_left (inside b)).n few)
      ∙ (λ i. some_worker_goes_on (sym size i) b.initiator (sym now i).session)

  rounds_counted :
      rounds_in_words (handed_after b turns).session
      ≡ start_begins_wait b + waits_begun_by (shape_given b) (sent_given b) (received_given b) b.initiator (handed_by_start b) turns
  rounds_counted = rounds_are ∙ holds.rounds ∙ sym (λ i. start_waits_lem i + begun_is i)

  waits_inside : (p : ℕ) → 1 ≤ p → p ≤ 16 → waits_in_words (handed_after b turns).session (p - 1) ≡ true → waits_on s (p - 1) ≡ true
  waits_inside p least most e =
      let in_words : waits_in_words (handed o).session (p - 1) ≡ waits_on s (p - 1) = waits_read s (p - 1) (omega arith) in
      sym in_words ∙ sym (ap (λ (w : Handed). waits_in_words w.session (p - 1)) now) ∙ e

  holds_in_words : HoldsInWords b turns
  holds_in_words =
      record {
        waits_exactly = exactly;
        delivered = delivered_is ∙ holds.delivered ∙ sym accepted_is;
        few_delivered =
            few_of (delivered_in_words (handed_after b turns).session) s.delivered (size_given b) (shape_left (inside b)).n (passed_given b)
            (passed (view_left (inside b))) delivered_is size passed_is holds.few_delivered;
        rounds = rounds_counted;
        few_rounds = omega (arith, rounds_are, passed_is, holds.few_rounds);
        none_below = λ j there. omega (arith, line_is j there, stands_is j there, holds.none_below j (within j there));
        ended_on_line = λ j there ended.
            stands_is j there ∙ holds.ended_on_line j (within j there) (sym (ended_is j there) ∙ ended) ∙ sym (line_is j there);
        line_set = same_set v (word (line_given b)) (line v) line_there is_set;
        line_consistent = same_consistent v (word (line_given b)) (line v) line_there is_consistent;
        latest = is_latest;
        accepted_or_full = λ p least most waits.
            subst (λ (q : ℕ). (q ≡ 0) ⊎ (q ≡ 17)) (sym (answer p))
            (holds.accepted_or_full (as_process p) least (waits_inside p least most waits));
        with_room = λ p least most waits room.
            answer p
            ∙ holds.with_room (as_process p) least (waits_inside p least most waits)
            (subst (λ (n : ℕ). room_for_all n ≤ length b.strands) size room);
      }

pub demand_3_in_words : Demand3InWords
demand_3_in_words b a h turns = holds_in_words b a h turns
