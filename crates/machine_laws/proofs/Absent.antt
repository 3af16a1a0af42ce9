-- In accepted tables the columns of absent processes hold zero.
use mathlib.Core.Path.{◌≡◌}
use mathlib.Core.Bool.{true}
use mathlib.Core.List.{List, [], ◌∷◌, ◌++◌}
use Prim.Native.Nat.{ℕ, zero, suc, ◌+◌, ◌-◌, ◌*◌, ◌≤◌, ◌<◌}
use native.Mathlib.Nat.{zero-add}
use native.Mathlib.Omega.{arith}
use lib.ListN.{take, drop, get_or}
use lib.Seq.{take-take, get_or-take, get_or-drop}
use Rattle.book.specs.Lent.{Tables}
use Rattle.book.specs.Check.{tables_question}
use Rattle.book.specs.Questions.{all_zero, unused_of, unused_from}
use Rattle.book.specs.View.{sum, count, S}
use Rattle.book.proofs.Zeros.{zero_at}
use Rattle.round_trips.proofs.Tables.{tables_taken}
use Rattle.round_trips.proofs.Zeros.{zero_cons, append_zeros}

module _ (n p : ℕ) (after : n ≤ p) (within : p < 16) where
  -- of a process whose rows begin the table
  absent_of : (j c : ℕ) (table : List ℕ) → all_zero (unused_of n j c table) ≡ true → (r : ℕ) → r < c → get_or table (r * 16 + p) 0 ≡ 0
  unfolding unused_of
  absent_of j zero table z r h = absurd (omega arith)
  absent_of j (suc c) table z zero h =
      let beyond : List ℕ = drop n (take 16 table) in
      let rest : List ℕ = unused_of n j c (drop 16 table) in
      let zeros = append_zeros beyond rest (zero_cons (get_or table j 0) (beyond ++ rest) z).1 in
      let e : n + (p - n) ≡ p = omega arith in
      rw (zero-add p)
      (rw (get_or-drop n (take 16 table) (p - n) 0, e, get_or-take 16 table p 0) at (zero_at beyond zeros.0 (p - n)))
  absent_of j (suc c) table z (suc r) h =
      let beyond : List ℕ = drop n (take 16 table) in
      let rest : List ℕ = unused_of n j c (drop 16 table) in
      let zeros = append_zeros beyond rest (zero_cons (get_or table j 0) (beyond ++ rest) z).1 in
      let e : suc r * 16 + p ≡ 16 + (r * 16 + p) = omega arith in
      rw (e, ← get_or-drop 16 table (r * 16 + p) 0) (absent_of j c (drop 16 table) zeros.1 r (omega arith))

  -- of process i after j others
  absent_from : (j : ℕ) (counts table : List ℕ) → all_zero (unused_from n j counts table) ≡ true → (i r : ℕ) → r < get_or counts i 0
      → get_or table ((sum (take i counts) + r) * 16 + p) 0 ≡ 0
  unfolding unused_from sum
  absent_from j [] table z i r h = absurd (omega arith)
  absent_from j (c ∷ counts) table z zero r h =
      rw (zero-add r)
      (absent_of j c table (append_zeros (unused_of n j c table) (unused_from n (suc j) counts (drop (c * 16) table)) z).0 r h)
  absent_from j (c ∷ counts) table z (suc i) r h =
      let before : ℕ = sum (take i counts) in
      let e : (c + before + r) * 16 + p ≡ c * 16 + ((before + r) * 16 + p) = omega arith in
      rw (e, ← get_or-drop (c * 16) table ((before + r) * 16 + p) 0)
      (absent_from (suc j) counts (drop (c * 16) table)
      (append_zeros (unused_of n j c table) (unused_from n (suc j) counts (drop (c * 16) table)) z).1 i r h)

pub absent_sent : (t : Tables) → tables_question t ≡ 0
    → (j r p : ℕ) → j < t.shape.n → 1 ≤ r → r ≤ count t.shape j → t.shape.n ≤ p → p < 16 → S t.shape t.sent j r p ≡ 0
absent_sent t none j r p h some most after within =
    let counts : List ℕ = t.shape.counts in
    rw (take-take j t.shape.n counts (omega arith)) at
    (absent_from t.shape.n p after within 0 (take t.shape.n counts) t.sent (tables_taken t none).sent_zero j (r - 1)
    (rw (get_or-take t.shape.n counts j 0 h) (omega arith)))
