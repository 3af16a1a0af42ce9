-- The set of checkpoints that a search ends on.
use mathlib.Core.Path.{◌≡◌, refl, ap, ◌∙◌}
use mathlib.Core.Bool.{Bool, true, false}
use mathlib.Core.List.{List}
use Prim.Native.Nat.{ℕ, suc, ◌+◌, ◌-◌, ◌*◌, ◌≤◌, ◌<◌}
use native.Mathlib.Numerals.{add-one}
use native.Mathlib.Omega.{arith}
use borrow.Author.Tests.{lt-ltb, eq-eqb, ne_eqb}
use lib.ListN.{length, get_or}
use lib.Dec.{eqb}
use Rattle.book.specs.declared.Shape.{Shape}
use Rattle.book.specs.declared.Checkpoint.{Checkpoint}
use Rattle.book.specs.View.{count}
use Rattle.book.proofs.Sums.{sum_more, sum_take}
use Rattle.lists.specs.Over.{sum_to}
use Rattle.line_theory.specs.Sets.{newer_than}
use Rattle.lists.proofs.Over.{sum_ext, at_place}
use Rattle.line_theory.proofs.Accepted.{accepted_few}
use Rattle.consistency.specs.Set.{chosen}
use Rattle.finder.specs.Line.{checkpoints}
use Rattle.finder.proofs.Sixteen.{chosen_there}
use Rattle.lists.specs.Pick.{pick}
use Rattle.participant.specs.declared.Participant.{Participant}
use Rattle.participant.specs.Calls.{no_participant}
use Rattle.initiator.specs.declared.Initiator.{Initiator}
use Rattle.session.proofs.Places.{beyond}
use Rattle.session_theory.proofs.Search.{Search, IsSearch, size, view_in}
use Rattle.session_theory.proofs.Facts.{few, book_is, line_is}
use Rattle.demand3.proofs.Purposes.{restarts}
use Rattle.searches.specs.Parts.{Among}
use Rattle.searches.proofs.Ends.{end_in}

-- where everybody stands, from a session's parts
abbrev pub stands_by : List Participant → Initiator → ℕ → ℕ → ℕ
stands_by participants machine own j =
    pick (eqb j own) machine.candidate.0 (get_or participants j no_participant).candidate.0

-- where a process stands, by whether it is the initiator; the place is one of the list, so that what stands beyond does not matter
module _ (participants : List Participant) (machine : Initiator) (own j : ℕ) where
  pub stands_own : j ≡ own → machine.candidate.0 ≡ stands_by participants machine own j
  stands_own e = rw (eq-eqb j own e)

  pub stands_other : (j ≡ own → ⊥) → j < length participants
      → (get_or participants j beyond).candidate.0 ≡ stands_by participants machine own j
  stands_other other small =
      rw (ne_eqb j own other) (ap (λ (p : Participant). p.candidate.0) (at_place beyond no_participant participants j small))

-- ---- how many are newer, added up to a place

pub record Added (shape : Shape) (set : List Checkpoint) (total j : ℕ) : Type 0 where
  pub within : j ≤ shape.n
  pub few : total ≤ 256 * j
  pub so_far : total ≡ sum_to j (λ i. count shape i - chosen set i)

module _ (shape : Shape) (set : List Checkpoint) where
  pub added_none : Added shape set 0 0
  unfolding sum_to
  added_none = record { within = omega arith; few = omega arith; so_far = refl }

  pub added_more : (total j : ℕ) → Among shape set → Added shape set total j → j < shape.n
      → Added shape set (total + (count shape j - chosen set j)) (j + 1)
  unfolding sum_to
  added_more total j among added small =
      let small_count : count shape j ≤ 256 = among.small j small in
      record {
        within = omega arith;
        few = omega (arith, added.few, small_count);
        so_far = rw (add-one j) (ap (λ (k : ℕ). k + (count shape j - chosen set j)) added.so_far);
      }

  pub added_all : (total j : ℕ) → Added shape set total j → shape.n ≤ j → total ≡ sum_to shape.n (λ i. count shape i - chosen set i)
  added_all total j added all =
      let e : j ≡ shape.n = omega (arith, added.within) in
      added.so_far ∙ ap (λ (k : ℕ). sum_to k (λ i. count shape i - chosen set i)) e

-- ---- where everybody ends is among its checkpoints

module _ (g : Search) (is : IsSearch g) where
  end_among : (j : ℕ) → j < size g → end_in g j ≤ count g.tables.shape j
  end_among j small = go (restarts g) refl
    where
      go : (v : Bool) → restarts g ≡ v → end_in g j ≤ count g.tables.shape j
      go true e = rw (e, lt-ltb j (size g) small) ((book_is g is).some j small)
      go false e = rw e ((line_is g is).is_set.among j small)

  pub end_is_among : Among g.tables.shape (checkpoints (end_in g))
  end_is_among =
      record {
        few = few g is;
        there =
            λ j small.
            let here : chosen (checkpoints (end_in g)) j ≡ end_in g j = chosen_there (end_in g) j (omega (arith, few g is)) in
            omega (arith, here, end_among j small);
        small =
            λ j small.
            omega (
              arith,
              sum_more g.tables.shape.counts j,
              sum_take g.tables.shape.counts (suc j),
              accepted_few is.accepted,
            );
      }

  -- how many are newer
  pub end_passed : sum_to (size g) (λ j. count g.tables.shape j - chosen (checkpoints (end_in g)) j) ≡ newer_than (view_in g) (end_in g)
  unfolding newer_than
  end_passed =
      sum_ext (size g) (λ j. count g.tables.shape j - chosen (checkpoints (end_in g)) j) (λ j. count g.tables.shape j - end_in g j)
      (λ j small. ap (λ (r : ℕ). count g.tables.shape j - r) (chosen_there (end_in g) j (omega (arith, few g is))))
