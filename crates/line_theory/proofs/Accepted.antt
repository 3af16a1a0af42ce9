-- Tables that pass every question are a book, as the theory of the line wants it, and have few enough processes and
-- checkpoints.
use mathlib.Core.Path.{◌≡◌, refl, sym, ap, subst, ◌∙◌}
use mathlib.Core.Bool.{true}
use mathlib.Core.List.{List, [], ◌∷◌, ◌++◌}
use mathlib.Core.Logic.{◌⊎◌, inl, inr}
use Prim.Native.Nat.{ℕ, zero, suc, ◌+◌, ◌-◌, ◌*◌, ◌≤◌, ◌<◌}
use native.Mathlib.Nat.{add-zero, zero-add}
use native.Mathlib.Decide.{dec_lt, ℕ_discrete}
use native.Mathlib.Omega.{arith}
use borrow.Author.Tests.{lt-ltb, le-ltb, eqb-true}
use lib.ListN.{length, take, drop, get_or}
use lib.Seq.{take-take, get_or-take, get_or-drop}
use Rattle.book.specs.declared.Shape.{Shape}
use Rattle.book.specs.declared.TableRows.{TableRows}
use Rattle.book.specs.Bounds.{mark}
use Rattle.book.specs.Lent.{lent, Tables}
use Rattle.book.specs.Check.{tables_question}
use Rattle.book.specs.Accepted.{AreAccepted, AcceptedRows}
use Rattle.book.specs.Fits.{Placed}
use Rattle.book.specs.Layout.{Book}
use Rattle.book.specs.Questions.{all_zero, unused_of, unused_from}
use Rattle.book.specs.Tables.{partner_column, book_of}
use Rattle.book.specs.View.{sum, counter_at, count, S, R}
use Rattle.book.proofs.Zeros.{zero_at}
use Rattle.book.proofs.Counts.{few_in_all}
use Rattle.round_trips.specs.WellFormed.{process, counter, WellFormed}
use Rattle.round_trips.proofs.Tables.{Checked, tables_taken, of_good}
use Rattle.round_trips.proofs.View.{view_count, view_sent, view_received}
use Rattle.round_trips.proofs.Well.{good_well}
use Rattle.round_trips.proofs.Zeros.{zero_cons, append_zeros}
use Rattle.line_theory.specs.Sets.{IsBook}
use Rattle.line_theory.specs.OfTables.{view_of}

-- counts that are zero from place k on add nothing
sum_held : (k : ℕ) (l : List ℕ) → all_zero (drop k l) ≡ true → sum l ≡ sum (take k l)
unfolding sum
sum_held zero [] z = refl
sum_held (suc k) [] z = refl
sum_held zero (v ∷ l) z = let e = zero_at (v ∷ l) z 0 in let ih = sum_held zero l (zero_cons v l z).1 in omega arith
sum_held (suc k) (v ∷ l) z = ap (λ x. v + x) (sum_held k l z)

-- ---- unused columns

-- a column that process j does not use: its own, and those of absent processes
abbrev pub Unused : ℕ → ℕ → ℕ → Type 0
Unused n j q = (q ≡ j) ⊎ ((n ≤ q) × (q < 16))

-- in the first row of a table
unused_first : (n j q : ℕ) (table : List ℕ) → get_or table j 0 ≡ 0 → all_zero (drop n (take 16 table)) ≡ true → Unused n j q → get_or table q 0 ≡ 0
unused_first n j q table own absent (inl e) = rw e own
unused_first n j q table own absent (inr (out, few)) =
    let e : n + (q - n) ≡ q = omega arith in
    rw (get_or-drop n (take 16 table) (q - n) 0, e, get_or-take 16 table q 0 few) at (zero_at (drop n (take 16 table)) absent (q - n))

-- of a process whose rows begin the table
unused_of_lem : (n j q c : ℕ) (table : List ℕ) → Unused n j q → all_zero (unused_of n j c table) ≡ true → (r : ℕ) → r < c
    → get_or table (r * 16 + q) 0 ≡ 0
unfolding unused_of
unused_of_lem n j q zero table u z r h = absurd (omega arith)
unused_of_lem n j q (suc c) table u z zero h =
    let row : List ℕ = drop n (take 16 table) in
    let rest : List ℕ = unused_of n j c (drop 16 table) in
    let both = zero_cons (get_or table j 0) (row ++ rest) z in
    rw (zero-add q) (unused_first n j q table (eqb-true (get_or table j 0) 0 both.0) (append_zeros row rest both.1).0 u)
unused_of_lem n j q (suc c) table u z (suc r) h =
    let row : List ℕ = drop n (take 16 table) in
    let rest : List ℕ = unused_of n j c (drop 16 table) in
    let later = append_zeros row rest (zero_cons (get_or table j 0) (row ++ rest) z).1 in
    let e : suc r * 16 + q ≡ 16 + (r * 16 + q) = omega arith in
    rw (e, ← get_or-drop 16 table (r * 16 + q) 0) (unused_of_lem n j q c (drop 16 table) u later.1 r (omega arith))

-- of process i after j others
unused_from_lem : (n j q : ℕ) (counts table : List ℕ) → all_zero (unused_from n j counts table) ≡ true → (i r : ℕ) → Unused n (j + i) q
    → r < get_or counts i 0 → get_or table ((sum (take i counts) + r) * 16 + q) 0 ≡ 0
unfolding unused_from sum
unused_from_lem n j q [] table z i r u h = absurd (omega arith)
unused_from_lem n j q (c ∷ counts) table z zero r u h =
    rw (zero-add r)
    (unused_of_lem n j q c table (rw (add-zero j) at u)
    (append_zeros (unused_of n j c table) (unused_from n (suc j) counts (drop (c * 16) table)) z).0 r h)
unused_from_lem n j q (c ∷ counts) table z (suc i) r u h =
    let before : ℕ = sum (take i counts) in
    let e : (c + before + r) * 16 + q ≡ c * 16 + ((before + r) * 16 + q) = omega arith in
    let next : j + suc i ≡ suc j + i = omega arith in
    rw (e, ← get_or-drop (c * 16) table ((before + r) * 16 + q) 0)
    (unused_from_lem n (suc j) q counts (drop (c * 16) table)
    (append_zeros (unused_of n j c table) (unused_from n (suc j) counts (drop (c * 16) table)) z).1 i r (rw next at u) h)

-- ---- the other columns

-- what holds of the own column and of the column of each of the others holds of every process
pub by_column : (P : ℕ → Type 0) (n j : ℕ) → j < n → P j → ((k : ℕ) → k < n - 1 → P (partner_column j k)) → (p : ℕ) → p < n → P p
unfolding partner_column
by_column P n j h own other p m =
    elim (dec_lt p j) [
      | yes lt ↦ rw (lt-ltb p j lt) at (other p (omega arith))
      | no ge ↦ elim (ℕ_discrete p j) [ yes e ↦ subst P (sym e) own | no ne ↦ after (omega arith) ]
    ]
  where
    after : j < p → P p
    after lt =
        let e : p - 1 + 1 ≡ p = omega arith in
        rw (le-ltb (p - 1) j (omega arith), e) at (other (p - 1) (omega arith))

-- ---- accepted tables

-- of the size the sixteen counts are not needed
pub passed_size : (t : Tables) → tables_question t ≡ 0 → (1 ≤ t.shape.n) × (t.shape.n ≤ 16)
passed_size t h = let c = tables_taken t h in (c.some, c.few)

module _ {shape : Shape} {sent received : List ℕ} (accepted : AreAccepted (lent shape sent received)) where
  abbrev pub book : Book
  book = book_of (lent shape sent received)

  -- the counts of the processes that there are
  abbrev pub held : List ℕ
  held = take shape.n shape.counts

  pub checked : Checked (lent shape sent received)
  checked = tables_taken (lent shape sent received) accepted.passed

  pub accepted_size : (1 ≤ shape.n) × (shape.n ≤ 16)
  accepted_size = (checked.some, checked.few)

  pub accepted_lengths : (length sent ≡ 4096) × (length received ≡ 4096)
  accepted_lengths = (checked.sent, checked.received)

  pub accepted_few : sum shape.counts ≤ 256
  accepted_few = rw (sum_held shape.n shape.counts checked.counts_zero) (few_in_all held checked.counts)

  pub accepted_absent : (j : ℕ) → shape.n ≤ j → count shape j ≡ 0
  accepted_absent j h =
      let e : shape.n + (j - shape.n) ≡ j = omega arith in
      rw (get_or-drop shape.n shape.counts (j - shape.n) 0, e) at
      (zero_at (drop shape.n shape.counts) checked.counts_zero (j - shape.n))

  pub well : WellFormed book
  well = good_well book (of_good accepted.sixteen checked)

  -- an unused column of process j, at its checkpoint r, counted from 0
  pub unused_entry : (table : List ℕ) → all_zero (unused_from shape.n 0 held table) ≡ true → (j r q : ℕ) → j < shape.n
      → r < count shape j → Unused shape.n j q → counter_at shape.counts table j (suc r) q ≡ 0
  unused_entry table z j r q h m u =
      let back : suc r - 1 ≡ r = omega arith in
      rw back
      (rw (take-take j shape.n shape.counts (omega arith)) at
      (unused_from_lem shape.n 0 q held table z j r (rw (zero-add j) u) (rw (get_or-take shape.n shape.counts j 0 h) m)))

  -- the entries of that checkpoint
  module _ (j r : ℕ) (h : j < shape.n) (m : r < count shape j) where
    pub inside : r < length (process book j)
    inside = rw (view_count accepted.sixteen checked j h) at m

    pub sent_own : S shape sent j (suc r) j ≡ 0
    sent_own = unused_entry sent checked.sent_zero j r j h m (inl refl)

    pub received_own : R shape received j (suc r) j ≡ 0
    received_own = unused_entry received checked.received_zero j r j h m (inl refl)

    pub sent_of : (k : ℕ) → k < shape.n - 1 → S shape sent j (suc r) (partner_column j k) ≡ counter book j r k
    sent_of k i = view_sent accepted.sixteen checked j h r k m i

    pub received_of : (k : ℕ) → k < shape.n - 1 → R shape received j (suc r) (partner_column j k) ≡ counter book j r (shape.n - 1 + k)
    received_of k i = view_received accepted.sixteen checked j h r k m i

  -- received counters rise too, of which the theory of the line says nothing
  pub received_rises : (j r p : ℕ) → j < shape.n → p < shape.n → 1 ≤ r → r < count shape j
      → R shape received j r p ≤ R shape received j (suc r) p
  received_rises j zero p h o a m = absurd (omega arith)
  received_rises j (suc r) p h o a m =
      let m' : r < count shape j = omega arith in
      by_column (λ q. R shape received j (suc r) q ≤ R shape received j (suc (suc r)) q) shape.n j h (rw (received_own j r h m') (omega arith))
      (λ k i.
      rw (received_of j r h m' k i, received_of j (suc r) h m k i)
      (well.rising j r (shape.n - 1 + k) h (inside j (suc r) h m) (omega arith))) p o

  pub accepted_book : IsBook mark (view_of (lent shape sent received))
  accepted_book = record { some = some; rising = rising; below = below; received = at_most; oldest = oldest; own = own }
    where
      some : (j : ℕ) → j < shape.n → 1 ≤ count shape j
      some j h = rw (view_count accepted.sixteen checked j h) (well.some j h)

      rising : (j r p : ℕ) → j < shape.n → p < shape.n → 1 ≤ r → r < count shape j → S shape sent j r p ≤ S shape sent j (suc r) p
      rising j zero p h o a m = absurd (omega arith)
      rising j (suc r) p h o a m =
          let m' : r < count shape j = omega arith in
          by_column (λ q. S shape sent j (suc r) q ≤ S shape sent j (suc (suc r)) q) shape.n j h (rw (sent_own j r h m') (omega arith))
          (λ k i. rw (sent_of j r h m' k i, sent_of j (suc r) h m k i) (well.rising j r k h (inside j (suc r) h m) (omega arith))) p o

      below : (j r p : ℕ) → j < shape.n → p < shape.n → 1 ≤ r → r ≤ count shape j → S shape sent j r p < mark
      below j zero p h o a m = absurd (omega arith)
      below j (suc r) p h o a m =
          by_column (λ q. S shape sent j (suc r) q < mark) shape.n j h (rw (sent_own j r h m) (omega arith))
          (λ k i. rw (sent_of j r h m k i) (well.known j r k h (inside j r h m) (omega arith))) p o

      at_most : (j r p : ℕ) → j < shape.n → p < shape.n → 1 ≤ r → r ≤ count shape j → R shape received j r p ≤ mark
      at_most j zero p h o a m = absurd (omega arith)
      at_most j (suc r) p h o a m =
          by_column (λ q. R shape received j (suc r) q ≤ mark) shape.n j h (rw (received_own j r h m) (omega arith))
          (λ k i. let f = well.known j r (shape.n - 1 + k) h (inside j r h m) (omega arith) in rw (received_of j r h m k i) (omega arith)) p o

      oldest : (j p : ℕ) → j < shape.n → p < shape.n → R shape received j 1 p ≡ 0
      oldest j p h o =
          by_column (λ q. R shape received j 1 q ≡ 0) shape.n j h (received_own j 0 h (some j h))
          (λ k i. received_of j 0 h (some j h) k i ∙ well.oldest_received j k h i) p o

      own : (j r : ℕ) → j < shape.n → 1 ≤ r → r ≤ count shape j → (S shape sent j r j ≡ 0) × (R shape received j r j ≡ 0)
      own j zero h a m = absurd (omega arith)
      own j (suc r) h a m = (sent_own j r h m, received_own j r h m)

-- the rows that a call has found
pub rows_placed : {rows : TableRows} {sent received : List ℕ} → AcceptedRows rows sent received → Placed rows
rows_placed given = record { starts = given.starts; inside = accepted_few given.accepted }

pub rows_few : {rows : TableRows} {sent received : List ℕ} → AcceptedRows rows sent received → rows.shape.n ≤ 16
rows_few given = (accepted_size given.accepted).1
