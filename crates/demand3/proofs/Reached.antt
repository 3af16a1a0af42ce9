-- A search can always be brought to its end: from every list of turns on there are further ones, each accepted, after which
-- every worker has ended, on the line. (How many at most, `few-delivered` of demand 3 says.)
use mathlib.Core.Path.{◌≡◌, sym, subst}
use mathlib.Core.Bool.{true}
use mathlib.Core.List.{List, [], ◌∷◌, ◌++◌, append_assoc, append-nil}
use mathlib.Core.Logic.{⊎_elim}
use Prim.Native.Nat.{ℕ, zero, suc, ◌+◌, ◌≤◌, ◌<◌}
use native.Mathlib.Omega.{arith}
use borrow.Author.Tests.{eq-eqb}
use lib.ListN.{length}
use Rattle.book.specs.Lent.{Tables}
use Rattle.book.specs.declared.Process.{Process}
use Rattle.lists.specs.Pick.{pick}
use Rattle.strands.specs.Strands.{room_for_all}
use Rattle.session.specs.Workers.{has_ended}
use Rattle.session.specs.Turns.{Ongoing, after_turn, after_turns, turn_accepted, accepted_turns}
use Rattle.demand3.specs.Statement.{Beginning, shape_left, view_left, IsAccepted, Searches, at_start, after, next_question, most_delivered, tables_left}
use Rattle.demand3.specs.Beside.{AtEnd, EndIsReached}
use Rattle.demand3.proofs.Claims.{demand_3, goes_on, comes_to_end}

-- one turn more is counted where it is accepted
accepted_more :
    (t : Tables) (turns : List Process) (o : Ongoing) (p : Process) → accepted_turns t o (turns ++ (p ∷ []))
    ≡ accepted_turns t o turns
    + pick (turn_accepted t (after_turns t o turns) p) 1 0
unfolding accepted_turns after_turns
accepted_more t [] o p = omega arith
accepted_more t (q ∷ turns) o p = omega (arith, accepted_more t turns (after_turn t o q) p)

module _
    (b : Beginning)
    (a : IsAccepted b)
    (h : Searches b)
    (room : room_for_all (shape_left b).n ≤ length b.strands)
  where
    abbrev accepted : List Process → ℕ
    accepted turns = accepted_turns (tables_left b) (at_start b) turns

    abbrev Reached : List Process → Type 0
    Reached turns =
        (more : List Process) × (accepted (turns ++ more) ≡ accepted turns + length more) × AtEnd b (turns ++ more)

    at_once : (turns : List Process) → AtEnd b turns → Reached turns
    at_once turns e = (
      [],
      subst (λ (l : List Process). accepted l ≡ accepted turns + 0) (sym (append-nil turns)) (omega arith),
      subst (λ (l : List Process). AtEnd b l) (sym (append-nil turns)) e,
    )

    reached : (left : ℕ) (turns : List Process) → most_delivered (view_left b) ≤ accepted turns + left → Reached turns
    reached zero turns many = at_once turns (comes_to_end b a h room turns (omega arith))
    reached (suc left) turns many =
        ⊎_elim
        (λ (all : (j : ℕ) → j < (shape_left b).n → has_ended (after b turns).session j ≡ true).
        at_once turns (λ j small. (all j small, (demand_3 b a h turns).ended_on_line j small (all j small))))
        (λ (next : (p : Process) × (next_question b turns p ≡ 0)).
        go next.0 next.1
        (reached left (turns ++ (next.0 ∷ [])) (omega (arith, one_more_lem next.0 next.1, many))))
        (goes_on b a h room turns)
      where
        one_more_lem : (p : Process) → next_question b turns p ≡ 0 → accepted (turns ++ (p ∷ [])) ≡ accepted turns + 1
        one_more_lem p e =
            let counted : ◌≡◌ {A = ℕ} (pick (turn_accepted (tables_left b) (after b turns) p) 1 0) 1 =
            rw (eq-eqb (next_question b turns p) 0 e) in
            omega (arith, accepted_more (tables_left b) turns (at_start b) p, counted)

        go : (p : Process) → next_question b turns p ≡ 0 → Reached (turns ++ (p ∷ [])) → Reached turns
        go p e r = (
          p ∷ r.0,
          subst (λ (l : List Process). accepted l ≡ accepted turns + length (p ∷ r.0)) (append_assoc turns (p ∷ []) r.0)
              (omega (arith, r.1, one_more_lem p e)),
          subst (λ (l : List Process). AtEnd b l) (append_assoc turns (p ∷ []) r.0) r.2,
        )

pub end_is_reached : EndIsReached
end_is_reached b a h room turns =
    let r = reached b a h room (most_delivered (view_left b)) turns (omega arith) in
    let all = demand_3 b a h (turns ++ r.0) in
    (r.0, r.1, omega (arith, r.1, all.few_delivered, all.delivered), r.2)
