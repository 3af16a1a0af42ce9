-- The equations of a book's bytes in parts: one part, then the parts after it.
use mathlib.Core.Path.{◌≡◌, refl, sym, ap, ◌∙◌}
use mathlib.Core.List.{List, [], ◌++◌, append_assoc}
use Prim.Native.Nat.{ℕ, suc, ◌+◌, ◌-◌, ◌*◌, ◌≤◌, ◌<◌}
use native.Mathlib.Numerals.{add-one}
use native.Mathlib.Omega.{arith}
use lib.ListN.{length, take, drop, get_or, length-take, length-drop, drop_of_length-le}
use lib.Seq.{drop-cons, get_or-drop, get_or-take, length-take-le}
use Rattle.book.specs.Lent.{lent}
use Rattle.varint.specs.Number.{encode}
use Rattle.varint.specs.Sequence.{encode_all}
use Rattle.varint.proofs.Sequence.{encode_all_append}
use Rattle.book.specs.declared.Shape.{Shape}
use Rattle.book.specs.Layout.{joined, numbers_of_processes}
use Rattle.book.specs.Tables.{others, partner_column, checkpoints_of, processes_of}
use Rattle.book.specs.Write.{bytes_of}
use Rattle.book.specs.Fits.{RowsFit, BookFits}
use Rattle.book.proofs.Rows.{length_others, get_d_others, length_checkpoints_of, drop_rows}
use Rattle.writer.proofs.Turns.{Parts}
use Rattle.writer.specs.Parts.{row_bytes, checkpoint_bytes, checkpoints_bytes, process_bytes, processes_bytes}

row_long : {n j row : ℕ} {table : List ℕ} → RowsFit n j row 1 table → n ≤ length (drop (row * 16) table)
row_long f = simp length-drop (omega arith)

pub row_more : {n j row k v : ℕ} {table : List ℕ} → RowsFit n j row 1 table → k < n - 1 → v ≡ get_or table (row * 16 + partner_column j k) 0
    → Parts (row_bytes n j row k table) (encode v) (row_bytes n j row (k + 1) table)
unfolding row_bytes encode_all
row_more {n} {j} {row} {k} {v} {table} f h e =
    let from : List ℕ = drop (row * 16) table in
    let w : n ≤ length from = row_long f in
    let i : k < length (others n j from) = rw (length_others n j from f.present w) h in
    record { split = rw (e, drop-cons (others n j from) k 0 i, get_d_others n j k from f.present w h, get_or-drop (row * 16) table (partner_column j k) 0, add-one k) }

pub row_done : {n j row k : ℕ} {table : List ℕ} → RowsFit n j row 1 table → n - 1 ≤ k → row_bytes n j row k table ≡ []
unfolding row_bytes encode_all
row_done {n} {j} {row} {k} {table} f h =
    let from : List ℕ = drop (row * 16) table in
    let w : n ≤ length from = row_long f in
    let i : length (others n j from) ≤ k = rw (length_others n j from f.present w) h in
    ap encode_all (drop_of_length-le (others n j from) {i = k} i)

pub both_rows : {n j row : ℕ} {sent received : List ℕ} → RowsFit n j row 1 sent → RowsFit n j row 1 received
    → Parts (checkpoint_bytes n j row sent received) (row_bytes n j row 0 sent) (row_bytes n j row 0 received)
unfolding checkpoint_bytes
both_rows s r = record { split = refl }

one_more_lem : (n j row left : ℕ) (sent received : List ℕ)
    → checkpoints_bytes n j row (suc left) sent received ≡ checkpoint_bytes n j row sent received ++ checkpoints_bytes n j (row + 1) left sent received
unfolding checkpoints_bytes checkpoint_bytes row_bytes checkpoints_of joined
one_more_lem n j row left sent received = rw (drop_rows row 1 sent, drop_rows row 1 received, encode_all_append) (rw encode_all_append)

module _ {n j first count : ℕ} {sent received : List ℕ} (in_sent : RowsFit n j first count sent) (in_received : RowsFit n j first count received) where
  pub checkpoints_begun : checkpoints_bytes n j (first + 0) (count - 0) sent received ≡ checkpoints_bytes n j first count sent received
  checkpoints_begun =
      let a : first + 0 ≡ first = omega arith in
      let b : count - 0 ≡ count = omega arith in
      rw (a, b)

  pub checkpoints_more : {r : ℕ} → r < count
      → Parts (checkpoints_bytes n j (first + r) (count - r) sent received) (checkpoint_bytes n j (first + r) sent received)
      (checkpoints_bytes n j (first + (r + 1)) (count - (r + 1)) sent received)
  checkpoints_more {r} h =
      let a : count - r ≡ suc (count - (r + 1)) = omega arith in
      let b : first + (r + 1) ≡ first + r + 1 = omega arith in
      record { split = rw (a, b) (one_more_lem n j (first + r) (count - (r + 1)) sent received) }

  pub checkpoints_done : {r : ℕ} → count ≤ r → checkpoints_bytes n j (first + r) (count - r) sent received ≡ []
  unfolding checkpoints_bytes checkpoints_of joined encode_all
  checkpoints_done {r} h = let a : count - r ≡ 0 = omega arith in rw a

  pub count_first : Parts (process_bytes n j first count sent received) (encode count) (checkpoints_bytes n j first count sent received)
  unfolding process_bytes
  count_first = record { split = refl }

-- ---- the book

module _ (shape : Shape) {sent received : List ℕ} (in_sent : BookFits shape.n shape.counts sent)
    (in_received : BookFits shape.n shape.counts received) where
  pub number_first : Parts (bytes_of (lent shape sent received)) (encode shape.n) (processes_bytes shape 0 0 sent received)
  unfolding processes_bytes encode_all
  number_first = record { split = refl }

  pub processes_more : {j : ℕ} (row : ℕ) → length shape.counts ≡ 16 → j < shape.n
      → let count : ℕ = get_or shape.counts j 0 in
      Parts (processes_bytes shape j row sent received) (process_bytes shape.n j row count sent received)
      (processes_bytes shape (j + 1) (row + count) sent received)
  unfolding processes_bytes process_bytes checkpoints_bytes processes_of numbers_of_processes encode_all
  processes_more {j} row w h =
      let n : ℕ = shape.n in
      let counts : List ℕ = shape.counts in
      let count : ℕ = get_or counts j 0 in
      let s : List ℕ = drop (row * 16) sent in
      let r : List ℕ = drop (row * 16) received in
      let s' : List ℕ = drop ((row + count) * 16) sent in
      let r' : List ℕ = drop ((row + count) * 16) received in
      let own : List ℕ = joined (checkpoints_of n j count s r) in
      let more : List ℕ = numbers_of_processes (processes_of n (suc j) (drop (suc j) (take n counts)) s' r') in
      let i : j < length (take n counts) = rw (length-take-le n counts (omega (arith, in_sent.most))) h in
      record {
        split =
            rw (drop-cons (take n counts) j 0 i, get_or-take n counts j 0 h, add-one j)
            (rw (length_checkpoints_of n j count s r, drop_rows row count sent, drop_rows row count received)
            (ap (λ (l : List ℕ). encode count ++ l) (encode_all_append own more)
            ∙ sym (append_assoc (encode count) (encode_all own) (encode_all more))));
      }

  pub processes_done : {j : ℕ} (row : ℕ) → shape.n ≤ j → processes_bytes shape j row sent received ≡ []
  unfolding processes_bytes processes_of numbers_of_processes encode_all
  processes_done {j} row h =
      let i : length (take shape.n shape.counts) ≤ j = simp length-take (omega arith) in
      rw (drop_of_length-le (take shape.n shape.counts) {i = j} i)
