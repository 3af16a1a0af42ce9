-- The entries of tables are the counters of the book that they hold.
use mathlib.Core.Path.{◌≡◌, refl, sym, ap, ◌∙◌}
use mathlib.Core.List.{List, [], ◌∷◌, ◌++◌}
use Prim.Native.Nat.{ℕ, zero, suc, ◌+◌, ◌-◌, ◌*◌, ◌≤◌, ◌<◌}
use native.Mathlib.Nat.{add-zero, zero-add}
use native.Mathlib.Omega.{arith}
use lib.ListN.{length, take, drop, get_or, length-drop, get_or-append}
use lib.Seq.{length-take-le, take-take, get_or-take, drop-drop, get_or-drop, get_or-append-add}
use Rattle.book.specs.Lent.{lent}
use Rattle.book.specs.declared.Shape.{Shape}
use Rattle.book.specs.Tables.{others, partner_column, checkpoints_of, processes_of, book_of}
use Rattle.book.specs.View.{sum, first_row, count, S, R}
use Rattle.book.specs.Layout.{Book}
use Rattle.book.proofs.Counts.{few_in_all}
use Rattle.book.proofs.Rows.{length_checkpoints_of, length_others, get_d_others}
use Rattle.book.proofs.Sums.{row_within}
use Rattle.round_trips.specs.WellFormed.{process, checkpoint, counter}
use Rattle.round_trips.proofs.Tables.{Checked}

-- checkpoint r is what its two rows hold
checkpoint_at : (n j c : ℕ) (s t : List ℕ) (r : ℕ) → r < c
    → get_or (checkpoints_of n j c s t) r [] ≡ others n j (drop (r * 16) s) ++ others n j (drop (r * 16) t)
unfolding checkpoints_of
checkpoint_at n j zero s t r h = absurd (omega arith)
checkpoint_at n j (suc c) s t zero h = refl
checkpoint_at n j (suc c) s t (suc r) h =
    let e : suc r * 16 ≡ 16 + r * 16 = omega arith in
    rw (e, ← drop-drop (r * 16) 16 s, ← drop-drop (r * 16) 16 t) (checkpoint_at n j c (drop 16 s) (drop 16 t) r (omega arith))

-- process i after j others begins where the rows of those before it end
process_at : (n j : ℕ) (counts s t : List ℕ) (i : ℕ) → i < length counts
    → get_or (processes_of n j counts s t) i []
    ≡ checkpoints_of n (j + i) (get_or counts i 0) (drop (sum (take i counts) * 16) s) (drop (sum (take i counts) * 16) t)
unfolding processes_of sum
process_at n j [] s t i h = absurd (omega arith)
process_at n j (c ∷ counts) s t zero h = rw (add-zero j)
process_at n j (c ∷ counts) s t (suc i) h =
    let before : ℕ = sum (take i counts) in
    let e : (c + before) * 16 ≡ c * 16 + before * 16 = omega arith in
    let f : j + suc i ≡ suc j + i = omega arith in
    rw (e, f, ← drop-drop (before * 16) (c * 16) s, ← drop-drop (before * 16) (c * 16) t)
    (process_at n (suc j) counts (drop (c * 16) s) (drop (c * 16) t) i (omega arith))

-- ---- one counter

-- the checkpoint whose rows begin at `row`
module _ (n j k row : ℕ) (s t : List ℕ) (h : j < n) (few : n ≤ 16) (m : k < n - 1) (ls : row + 16 ≤ length s) (lt : row + 16 ≤ length t) where
  abbrev x : List ℕ
  x = others n j (drop row s)

  abbrev y : List ℕ
  y = others n j (drop row t)

  length_x : length x ≡ n - 1
  length_x = length_others n j (drop row s) h (rw (length-drop row s) (omega arith))

  pub sent_entry : get_or (x ++ y) k 0 ≡ get_or s (row + partner_column j k) 0
  sent_entry =
      get_or-append x y 0 k (rw length_x m)
      ∙ get_d_others n j k (drop row s) h (rw (length-drop row s) (omega arith)) m
      ∙ get_or-drop row s (partner_column j k) 0

  pub received_entry : get_or (x ++ y) (n - 1 + k) 0 ≡ get_or t (row + partner_column j k) 0
  received_entry =
      rw (← length_x) (get_or-append-add x y k 0)
      ∙ get_d_others n j k (drop row t) h (rw (length-drop row t) (omega arith)) m
      ∙ get_or-drop row t (partner_column j k) 0

-- ---- the view of accepted tables

module _ {shape : Shape} {s t : List ℕ} (sixteen : length shape.counts ≡ 16) (c : Checked (lent shape s t)) (j : ℕ) (h : j < shape.n) where
  abbrev held : List ℕ
  held = take shape.n shape.counts

  abbrev book : Book
  book = book_of (lent shape s t)

  abbrev first : ℕ
  first = first_row shape.counts j

  same_first : sum (take j held) ≡ first
  same_first = ap sum (take-take j shape.n shape.counts (omega arith))

  same_count : get_or held j 0 ≡ count shape j
  same_count = get_or-take shape.n shape.counts j 0 h

  process_held : process book j ≡ checkpoints_of shape.n j (count shape j) (drop (first * 16) s) (drop (first * 16) t)
  process_held =
      let here : j < length held = rw (length-take-le shape.n shape.counts (rw sixteen c.few)) h in
      process_at shape.n 0 held s t j here ∙ rw (zero-add j, same_first, same_count)

  pub view_count : count shape j ≡ length (process book j)
  view_count = rw (process_held, length_checkpoints_of)

  module _ (r k : ℕ) (m : r < count shape j) (o : k < shape.n - 1) where
    abbrev row : ℕ
    row = (first + r) * 16

    one_back : suc r - 1 ≡ r
    one_back = omega arith

    row_fits : row + 16 ≤ 4096
    row_fits =
        let w : sum (take j held) + (suc r - 1) < 256
        = row_within held j (suc r) 256 (few_in_all held c.counts) (omega arith) (rw same_count m) in
        omega (arith, same_first)

    checkpoint_held : checkpoint book j r ≡ others shape.n j (drop row s) ++ others shape.n j (drop row t)
    checkpoint_held =
        let e : first * 16 + r * 16 ≡ row = omega arith in
        rw process_held
        (checkpoint_at shape.n j (count shape j) (drop (first * 16) s) (drop (first * 16) t) r m
        ∙ rw (drop-drop (r * 16) (first * 16) s, drop-drop (r * 16) (first * 16) t, e))

    pub view_sent : S shape s j (suc r) (partner_column j k) ≡ counter book j r k
    view_sent =
        rw (checkpoint_held, one_back)
        (sym (sent_entry shape.n j k row s t h c.few o (rw c.sent row_fits) (rw c.received row_fits)))

    pub view_received : R shape t j (suc r) (partner_column j k) ≡ counter book j r (shape.n - 1 + k)
    view_received =
        rw (checkpoint_held, one_back)
        (sym (received_entry shape.n j k row s t h c.few o (rw c.sent row_fits) (rw c.received row_fits)))
