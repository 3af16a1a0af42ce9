-- One process of a set steps back, and the finder's loop from its start to the line.
use mathlib.Core.Path.{◌≡◌, sym, ◌∙◌}
use mathlib.Core.Bool.{Bool, false}
use mathlib.Core.List.{List}
use Prim.Native.Nat.{ℕ, ◌+◌, ◌-◌, ◌≤◌, ◌<◌}
use native.Mathlib.Decide.{dec_lt, ℕ_discrete}
use native.Mathlib.Omega.{arith}
use lib.ListN.{length, get_or, set}
use lib.Seq.{get_or-set_same, get_or-set_other}
use Rattle.book.specs.Lent.{lent}
use Rattle.book.specs.declared.Checkpoint.{Checkpoint}
use Rattle.book.specs.declared.TableRows.{TableRows}
use Rattle.book.specs.Bounds.{mark}
use Rattle.book.specs.Accepted.{AcceptedRows}
use Rattle.book.specs.View.{count}
use Rattle.book.specs.Fits.{Placed}
use Rattle.book.proofs.Sums.{sum_of, sum_take}
use Rattle.lists.specs.Over.{sum_to}
use Rattle.line_theory.specs.Sets.{View, IsBook, newer_than, cut}
use Rattle.line_theory.specs.Search.{line}
use Rattle.line_theory.specs.OfTables.{view_of}
use Rattle.lists.proofs.Over.{sum_le, sum_at}
use Rattle.line_theory.proofs.Accepted.{accepted_size, accepted_book, rows_placed}
use Rattle.line_theory.proofs.Line.{line_absent, cut_is_book}
use Rattle.line_theory.proofs.StepsBack.{Searching, begun, step_some, stepped_back, ended}
use Rattle.consistency.specs.Set.{chosen}
use Rattle.consistency.specs.Given.{AllNamed}
use Rattle.consistency.proofs.Calls.{named_is_set}
use Rattle.finder.specs.Line.{checkpoints}
use Rattle.finder.specs.Steps.{AbsentZero, Named, SameSet, row_of, set_at, by_row, RowsGiven, ForSixteen, must_step_back, flagged, AreFlags, FlaggedBeside, SteppedBack, IsFirstFlagged}
use Rattle.finder.proofs.Sixteen.{checkpoints_are}
use Rattle.finder.proofs.Rows.{given_named, rows_given, must_by_row, stepped_by_row}

-- ---- one step back, among the rows

abbrev pub back : List ℕ → ℕ → List ℕ
back at j = set at j (row_of at j - 1)

module _ (at : List ℕ) (j : ℕ) (long : length at ≡ 16) (small : j < 16) where
  row_here : row_of (back at j) j ≡ row_of at j - 1
  row_here = get_or-set_same at j (row_of at j - 1) 0 (omega (arith, long))

  row_other : (p : ℕ) → (p ≡ j → ⊥) → row_of (back at j) p ≡ row_of at p
  row_other p e = get_or-set_other at j p (row_of at j - 1) 0 e

  pub back_given : {n : ℕ} {sent received : List ℕ} → RowsGiven n sent received at → RowsGiven n sent received (back at j)
  back_given given = record {
    most = given.most;
    in_sent = given.in_sent;
    in_received = given.in_received;
    rows = λ p k. elim (ℕ_discrete p j) [
      | yes e ↦ let h : row_of at j < 256 = rw e at (given.rows p k) in rw (e, row_here) (omega arith)
      | no e ↦ rw (row_other p e) (given.rows p k)
    ];
  }

  -- with the flags beside it
  pub back_flags : {v : View} (flags next : List Bool) (b : Bool) → 1 ≤ row_of at j → length next ≡ 16 → b ≡ must_step_back v (row_of (back at j)) j
      → FlaggedBeside v (row_of (back at j)) j (flagged flags) (flagged next)
      → SteppedBack v j (row_of at) (row_of (back at j)) (flagged flags) (flagged (set next j b))
  back_flags flags next b later sixteen own beside = record {
    back = omega (arith, row_here);
    others = row_other;
    own = rw (get_or-set_same next j b false (omega (arith, sixteen))) own;
    beside = λ p k e. rw (get_or-set_other next j p b false e) (beside p k);
  }

-- ---- the loop

-- the checkpoint numbers of a set add up to no more than there are checkpoints
few_in_set : {rows : TableRows} {c : ℕ → ℕ} → Placed rows → ((j : ℕ) → j < rows.shape.n → c j ≤ count rows.shape j)
    → sum_to rows.shape.n c ≤ 256
few_in_set {rows} {c} placed among =
    let n = rows.shape.n in
    let counts = rows.shape.counts in
    omega (arith, sum_le n c (λ j. get_or counts j 0) among, sum_of counts n, sum_take counts n, placed.inside)

-- the search from a given set on, in the book that is cut to it; j is the process that steps back next
pub record FoundSoFar (rows : TableRows) (sent received : List ℕ) (start : List Checkpoint) (at : List ℕ) (flags : List Bool) (steps j : ℕ) : Type 0 where
  pub given : AcceptedRows rows sent received
  pub named : AllNamed rows.shape start
  pub searching : Searching (cut (view_of (lent rows.shape sent received)) (chosen start)) (set_at rows.shape.counts at) (flagged flags) steps
  pub long : ForSixteen at flags
  pub next : IsFirstFlagged rows.shape.n (flagged flags) j

start_book : {rows : TableRows} {sent received : List ℕ} (start : List Checkpoint) → AcceptedRows rows sent received → AllNamed rows.shape start
    → IsBook mark (cut (view_of (lent rows.shape sent received)) (chosen start))
start_book start given named = cut_is_book mark _ (chosen start) (accepted_book given.accepted) (named_is_set named)

pub found_begun : {rows : TableRows} {sent received : List ℕ} (start : List Checkpoint) (at : List ℕ) (flags : List Bool) {j : ℕ}
    → AcceptedRows rows sent received → AllNamed rows.shape start → SameSet rows.shape.n (set_at rows.shape.counts at) (chosen start) → ForSixteen at flags
    → AreFlags (by_row rows.shape.n sent received) (row_of at) (flagged flags) → IsFirstFlagged rows.shape.n (flagged flags) j
    → FoundSoFar rows sent received start at flags 0 j
found_begun {rows} {sent} {received} start at flags given named same long exact next =
    let c : ℕ → ℕ = set_at rows.shape.counts at in
    record {
      given = given;
      named = named;
      searching = begun {v = cut (view_of (lent rows.shape sent received)) (chosen start)} {c = c} (start_book start given named) same
          (λ j k. exact j k ∙ must_by_row sent received at (given_named start c given named same) j k);
      long = long;
      next = next;
    }

module _ {rows : TableRows} {sent received : List ℕ} {start : List Checkpoint} {at : List ℕ} {flags : List Bool} {steps j : ℕ}
    (now : FoundSoFar rows sent received start at flags steps j) where
  pub found_named : Named rows (set_at rows.shape.counts at)
  found_named = record {
    placed = rows_placed now.given;
    most = (accepted_size now.given.accepted).1;
    some = now.searching.is_set.some;
    among = λ p k. omega (arith, now.searching.is_set.among p k, now.named p k);
  }

  pub found_rows : RowsGiven rows.shape.n sent received at
  found_rows = rows_given at now.given found_named

  module _ (there : j < rows.shape.n) where
    found_later : 2 ≤ set_at rows.shape.counts at j
    found_later = step_some (start_book start now.given now.named) now.searching j there (now.next.here there)

    -- there is a row before the present one
    pub found_some : 1 ≤ row_of at j
    found_some = omega (arith, found_later)

    -- there are fewer steps than checkpoints
    pub found_few : steps < 256
    found_few =
        omega (
          arith,
          few_in_set {c = chosen start} (rows_placed now.given) (λ p k. (now.named p k).1),
          now.searching.taken,
          found_later,
          sum_at rows.shape.n (set_at rows.shape.counts at) j there,
        )

    pub found_more : (at' : List ℕ) (flags' : List Bool) {j' : ℕ}
        → SteppedBack (by_row rows.shape.n sent received) j (row_of at) (row_of at') (flagged flags) (flagged flags') → ForSixteen at' flags'
        → IsFirstFlagged rows.shape.n (flagged flags') j' → FoundSoFar rows sent received start at' flags' (steps + 1) j'
    found_more at' flags' step long next =
        let by_set = stepped_by_row sent received at at' found_named j there found_later step in
        record {
          given = now.given;
          named = now.named;
          searching = stepped_back (start_book start now.given now.named) now.searching j there (now.next.here there) by_set.back by_set.others by_set.own by_set.beside;
          long = long;
          next = next;
        }

  pub found_ended : rows.shape.n ≤ j → (s : List Checkpoint) → length s ≡ 16 → SameSet rows.shape.n (chosen s) (set_at rows.shape.counts at)
      → AbsentZero rows s → let v : View = cut (view_of (lent rows.shape sent received)) (chosen start) in (s ≡ checkpoints (line v)) × (steps ≡ newer_than v (line v))
  found_ended all s sixteen same absent =
      let v : View = cut (view_of (lent rows.shape sent received)) (chosen start) in
      let done = ended (start_book start now.given now.named) now.searching (λ p k. now.next.before p (omega arith)) in (
        checkpoints_are s (line v) sixteen (λ p i. elim (dec_lt p rows.shape.n) [
          | yes k ↦ same p k ∙ done.0 p k
          | no k ↦ absent p (omega arith) ∙ sym (line_absent v p (omega arith))
        ]),
        done.1,
      )
