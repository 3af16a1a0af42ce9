-- Strands that are one byte too short can refuse a turn: by computation, for each number of processes.
use mathlib.Core.Path.{◌≡◌, refl, sym, ap, subst, ◌∙◌}
use mathlib.Core.Bool.{Bool, true, false, ◌&&◌, true≢false}
use mathlib.Core.List.{[]}
use mathlib.Core.Logic.{inr}
use Prim.Native.Nat.{ℕ, ◌+◌, ◌-◌, ◌≤◌, ◌<◌}
use native.Mathlib.Decide.{dec_lt, ℕ_discrete}
use native.Mathlib.Omega.{arith}
use borrow.Author.Tests.{eqb-true}
use lib.ListN.{length, get_or-replicate}
use lib.Dec.{eqb}
use Rattle.book.specs.declared.Shape.{Shape}
use Rattle.book.specs.Read.{read_question, no_shape, shape_read}
use Rattle.book.proofs.Questions.{kept_refused}
use Rattle.lists.proofs.Tests.{and_both}
use Rattle.lists.specs.Over.{all_to}
use Rattle.lists.proofs.Over.{all_in}
use Rattle.strands.specs.Strands.{room_for_all}
use Rattle.session.specs.Workers.{waits_on}
use Rattle.session.specs.declared.Session.{Session}
use Rattle.session.specs.Calls.{start_question, no_session, session_started}
use Rattle.session.specs.Turns.{after_turns}
use Rattle.demand3.specs.Statement.{Beginning, shape_left, after, next_question, tables_left}
use Rattle.room_examples.specs.Room.{IsRefusedByRoom, short_strands, FewerCanFail}
use Rattle.session_examples.proofs.Computing.{computing}

-- what is computed of each n: the rest of what is claimed follows from it
unfoldable refused_by_room : ℕ → Bool
refused_by_room n =
    let b : Beginning = short_strands n in
    eqb (shape_left b).n n
    && (eqb (length b.strands + 1) (room_for_all n)
    && (waits_on (after b []).session (n - 1) && eqb (next_question b [] (record { 0 = n })) 17))

-- for five numbers of processes at a time, so that no declaration computes too long
abbrev five : ℕ → Bool
five n = all_to 5 (λ k. refused_by_room (n + k))

from_two : five 2 ≡ true
unfolding computing refused_by_room
from_two = refl

from_seven : five 7 ≡ true
unfolding computing refused_by_room
from_seven = refl

from_twelve : five 12 ≡ true
unfolding computing refused_by_room
from_twelve = refl

refused_in : (n : ℕ) → 2 ≤ n → n ≤ 16 → refused_by_room n ≡ true
refused_in n low high =
    elim (dec_lt n 7) [
      | yes h ↦ at 2 from_two low (omega arith)
      | no h ↦ elim (dec_lt n 12) [
        | yes i ↦ at 7 from_seven (omega arith) (omega arith)
        | no i ↦ at 12 from_twelve (omega arith) (omega arith)
      ]
    ]
  where
    at : (first : ℕ) → five first ≡ true → first ≤ n → n < first + 5 → refused_by_room n ≡ true
    at first all over under =
        let same : first + (n - first) ≡ n = omega arith in
        subst (λ (m : ℕ). refused_by_room m ≡ true) same (all_in 5 (λ k. refused_by_room (first + k)) all (n - first) (omega arith))

module _ (n : ℕ) (low : 2 ≤ n) (high : n ≤ 16) where
  abbrev b : Beginning
  b = short_strands n

  abbrev starts : ℕ
  starts = start_question (tables_left b) b.initiator b.purpose b.strands

  -- a refused read leaves no processes
  is_read : (shape_left b).n ≡ n → read_question b.bytes b.sent b.received ≡ 0
  unfolding shape_read
  is_read same = elim (ℕ_discrete (read_question b.bytes b.sent b.received) 0) [
    | yes h ↦ h
    | no h ↦
        let none : n ≡ 0 =
        sym same ∙ ap (λ (s : Shape). s.n) (kept_refused (read_question b.bytes b.sent b.received) no_shape _ h) in
        absurd (omega arith)
  ]

  -- and after a refused start nothing waits
  nothing_waits : waits_on no_session (n - 1) ≡ false
  unfolding no_session
  nothing_waits = rw (get_or-replicate {A = ℕ} 16 (n - 1) 0 0 (omega arith))

  is_started : waits_on (after b []).session (n - 1) ≡ true → starts ≡ 0
  unfolding after_turns session_started
  is_started waits = elim (ℕ_discrete starts 0) [
    | yes h ↦ h
    | no h ↦
        absurd (true≢false (sym waits ∙ ap (λ (s : Session). waits_on s (n - 1)) (kept_refused starts no_session _ h) ∙ nothing_waits))
  ]

  pub refused_by_room_lem : IsRefusedByRoom n b (record { 0 = n })
  unfolding refused_by_room
  refused_by_room_lem =
      let t1 = and_both (eqb (shape_left b).n n) _ (refused_in n low high) in
      let t2 = and_both (eqb (length b.strands + 1) (room_for_all n)) _ t1.1 in
      let t3 = and_both (waits_on (after b []).session (n - 1)) (eqb (next_question b [] (record { 0 = n })) 17) t2.1 in
      let same : (shape_left b).n ≡ n = eqb-true _ _ t1.0 in
      record {
        accepted = record { read = is_read same; start = is_started t3.0 };
        searches = inr refl;
        processes = same;
        one_fewer = eqb-true _ _ t2.0;
        named = omega arith;
        waits = t3.0;
        refused = eqb-true _ _ t3.1;
      }

pub fewer_can_fail : FewerCanFail
fewer_can_fail n low high = refused_by_room_lem n low high
