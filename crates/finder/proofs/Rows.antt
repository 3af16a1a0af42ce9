-- A set and the rows in which its checkpoints lie: what the tables say of the one, they say of the other.
use mathlib.Core.Path.{◌≡◌, refl, sym, ap, ◌∙◌}
use mathlib.Core.Bool.{Bool, not, ◌&&◌}
use mathlib.Core.List.{List}
use Prim.Native.Nat.{ℕ, zero, suc, ◌+◌, ◌-◌, ◌*◌, ◌≤◌, ◌<◌}
use native.Mathlib.Decide.{ℕ_discrete}
use native.Mathlib.Omega.{arith}
use lib.ListN.{length, get_or}
use lib.Dec.{leb}
use Rattle.book.specs.Lent.{lent}
use Rattle.book.specs.declared.Checkpoint.{Checkpoint}
use Rattle.book.specs.declared.TableRows.{TableRows}
use Rattle.book.specs.Accepted.{AcceptedRows}
use Rattle.book.specs.View.{first_row, counter_at}
use Rattle.book.specs.Starts.{RowStart}
use Rattle.book.proofs.Sums.{row_within}
use Rattle.book.proofs.Starts.{placed_first}
use Rattle.lists.specs.Over.{all_to}
use Rattle.line_theory.specs.Sets.{View, received_more}
use Rattle.line_theory.specs.Search.{permitted, sent_to}
use Rattle.line_theory.specs.OfTables.{view_of}
use Rattle.line_theory.proofs.Accepted.{accepted_size, accepted_lengths, rows_placed}
use Rattle.consistency.specs.Set.{chosen}
use Rattle.consistency.specs.Given.{AllNamed}
use Rattle.finder.specs.Steps.{Named, SameSet, row_of, set_at, by_row, RowsGiven, must_step_back, SteppedBack}

-- ---- where a checkpoint lies

-- the set that is given, and in another way
pub given_named : {rows : TableRows} {sent received : List ℕ} (s : List Checkpoint) (c : ℕ → ℕ) → AcceptedRows rows sent received
    → AllNamed rows.shape s → SameSet rows.shape.n c (chosen s) → Named rows c
given_named s c given named same = record {
  placed = rows_placed given;
  most = (accepted_size given.accepted).1;
  some = λ j k. rw (same j k) (named j k).0;
  among = λ j k. rw (same j k) (named j k).1;
}

module _ {rows : TableRows} {c : ℕ → ℕ} (set : Named rows c) (j : ℕ) (there : j < rows.shape.n) where
  -- its row is one of all the rows
  pub row_small : first_row rows.shape.counts j + (c j - 1) < 256
  row_small = row_within rows.shape.counts j (c j) 256 set.placed.inside (set.some j there) (set.among j there)

  pub first_at : length rows.shape.counts ≡ 16 → RowStart rows.shape.counts j (get_or rows.first j 0)
  first_at long = placed_first set.placed j (omega (arith, long, set.most))

-- the row of a set that is given by its rows
row_back : (counts at : List ℕ) (j : ℕ) → 1 ≤ set_at counts at j → first_row counts j + (set_at counts at j - 1) ≡ row_of at j
row_back counts at j h = omega arith

-- so its counters are those of the row
counter_by_row : (counts table at : List ℕ) (j p : ℕ) → 1 ≤ set_at counts at j
    → counter_at counts table j (set_at counts at j) p ≡ get_or table (row_of at j * 16 + p) 0
counter_by_row counts table at j p h = ap (λ (row : ℕ). get_or table (row * 16 + p) 0) (row_back counts at j h)

pub rows_given : {rows : TableRows} {sent received : List ℕ} (at : List ℕ) → AcceptedRows rows sent received
    → Named rows (set_at rows.shape.counts at) → RowsGiven rows.shape.n sent received at
rows_given {rows} at given set = record {
  most = set.most;
  in_sent = (accepted_lengths given.accepted).0;
  in_received = (accepted_lengths given.accepted).1;
  rows = λ j k. omega (arith, row_small set j k, row_back rows.shape.counts at j (set.some j k));
}

-- ---- who must step back

permitted_ext : (n : ℕ) (row row' known known' : ℕ → ℕ) → ((p : ℕ) → p < n → row p ≡ row' p) → ((p : ℕ) → p < n → known p ≡ known' p)
    → permitted n row known ≡ permitted n row' known'
unfolding permitted all_to
permitted_ext zero row row' known known' e f = refl
permitted_ext (suc n) row row' known known' e f =
    let less : permitted n row known ≡ permitted n row' known' = permitted_ext n row row' known known' (λ p i. e p (omega arith)) (λ p i. f p (omega arith)) in
    let here : leb (row n) (known n) ≡ leb (row' n) (known' n) = rw (e n (omega arith), f n (omega arith)) in
    ap (λ (b : Bool). b && leb (row n) (known n)) less ∙ ap (λ (b : Bool). permitted n row' known' && b) here

module _ {rows : TableRows} (sent received at : List ℕ) (set : Named rows (set_at rows.shape.counts at)) where
  received_by_row : (j p : ℕ) → j < rows.shape.n → p < rows.shape.n
      → received_more (by_row rows.shape.n sent received) (row_of at) j p
      ≡ received_more (view_of (lent rows.shape sent received)) (set_at rows.shape.counts at) j p
  received_by_row j p k l =
      let counts = rows.shape.counts in
      rw (counter_by_row counts sent at p j (set.some p l), counter_by_row counts received at j p (set.some j k))

  pub must_by_row : (j : ℕ) → j < rows.shape.n
      → must_step_back (by_row rows.shape.n sent received) (row_of at) j
      ≡ must_step_back (view_of (lent rows.shape sent received)) (set_at rows.shape.counts at) j
  must_by_row j k =
      let counts = rows.shape.counts in
      let n = rows.shape.n in
      let b : View = by_row n sent received in
      let v : View = view_of (lent rows.shape sent received) in
      let c : ℕ → ℕ = set_at counts at in
      ap not (permitted_ext n (b.R j (row_of at j)) (v.R j (c j)) (sent_to b (row_of at) j) (sent_to v c j)
      (λ p l. sym (counter_by_row counts received at j p (set.some j k)))
      (λ p l. sym (counter_by_row counts sent at p j (set.some p l))))

-- ---- one step back

module _ {rows : TableRows} (sent received at at' : List ℕ) (set : Named rows (set_at rows.shape.counts at)) (j : ℕ) (there : j < rows.shape.n)
    (later : 2 ≤ set_at rows.shape.counts at j) {flags flags' : ℕ → Bool}
    (step : SteppedBack (by_row rows.shape.n sent received) j (row_of at) (row_of at') flags flags') where
  back_here : set_at rows.shape.counts at' j + 1 ≡ set_at rows.shape.counts at j
  back_here = omega (arith, step.back)

  back_other : (p : ℕ) → (p ≡ j → ⊥) → set_at rows.shape.counts at' p ≡ set_at rows.shape.counts at p
  back_other p e = omega (arith, step.others p e)

  back_named : Named rows (set_at rows.shape.counts at')
  back_named = record {
    placed = set.placed;
    most = set.most;
    some = λ p k. elim (ℕ_discrete p j) [ yes e ↦ rw e (omega (arith, back_here)) | no e ↦ omega (arith, back_other p e, set.some p k) ];
    among = λ p k. elim (ℕ_discrete p j) [ yes e ↦ rw e (omega (arith, back_here, set.among j there)) | no e ↦ omega (arith, back_other p e, set.among p k) ];
  }

  pub stepped_by_row : SteppedBack (view_of (lent rows.shape sent received)) j (set_at rows.shape.counts at) (set_at rows.shape.counts at') flags flags'
  stepped_by_row = record {
    back = back_here;
    others = back_other;
    own = step.own ∙ must_by_row sent received at' back_named j there;
    beside = λ p k e. rw (← received_by_row sent received at' back_named p j k there) (step.beside p k e);
  }
