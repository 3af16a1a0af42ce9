-- Along the processes of a book in tables: where their rows begin, and questions 6 to 8 of them in turn.
use mathlib.Core.Path.{◌≡◌, refl, sym, ap, ◌∙◌}
use mathlib.Core.List.{List, [], ◌∷◌}
use Prim.Native.Nat.{ℕ, ◌+◌, ◌*◌, ◌≤◌, ◌<◌}
use native.Mathlib.Numerals.{add-one}
use native.Mathlib.Omega.{arith}
use lib.ListN.{length, take, drop, get_or, drop_of_length-le}
use lib.Seq.{slice, slice-cons, length-take-le}
use Rattle.book.specs.Layout.{joined}
use Rattle.book.specs.Tables.{checkpoints_of, processes_of}
use Rattle.book.specs.Starts.{RowStart}
use Rattle.book.specs.Check.{rows_question}
use Rattle.book.specs.InTurn.{◌then◌}
use Rattle.book.specs.Along.{process_question}
use Rattle.book.specs.Fits.{BookFits}
use Rattle.book.proofs.Starts.{starts_carried}
use Rattle.book.proofs.Rows.{drop_rows, length_checkpoints_of}
use Rattle.tables.proofs.Answers.{answer_fails, answer_passes}

-- the processes before j are passed, and the rows of process j begin at row `first`
pub record Placed (counts : List ℕ) (n first j : ℕ) : Type 0 where
  pub passed : j ≤ n
  pub fits : n ≤ length counts
  pub starts : RowStart counts j first

pub placed_none : (n : ℕ) (counts table : List ℕ) → BookFits n counts table → length counts ≡ 16 → Placed counts n 0 0
placed_none n counts table b l = record { passed = omega arith; fits = omega arith; starts = (starts_carried counts).begins }

module _ (counts : List ℕ) (n first j : ℕ) (p : Placed counts n first j) where
  pub counts_end : n ≤ j → slice j n counts ≡ []
  counts_end h = drop_of_length-le (take n counts) {i = j} (rw (length-take-le n counts p.fits) h)

  module _ (h : j < n) where
    pub counts_next : slice j n counts ≡ get_or counts j 0 ∷ slice (j + 1) n counts
    counts_next = rw add-one (slice-cons j n counts 0 h p.fits)

    pub placed_more : Placed counts n (first + get_or counts j 0) (j + 1)
    placed_more = record { passed = omega arith; fits = p.fits; starts = (starts_carried counts).next j first p.starts }

rows_none : (mark n j : ℕ) (sent received : List ℕ) → rows_question mark n (processes_of n j [] sent received) ≡ 0
unfolding rows_question processes_of
rows_none mark n j sent received = refl

-- the answer of process j
abbrev process_answer : ℕ → ℕ → ℕ → ℕ → List ℕ → List ℕ → ℕ
process_answer mark n j count sent received = process_question mark n count (joined (checkpoints_of n j count sent received))

rows_next : (mark n j count : ℕ) (counts sent received : List ℕ)
    → rows_question mark n (processes_of n j (count ∷ counts) sent received)
    ≡ (process_answer mark n j count sent received
    then λ _. rows_question mark n (processes_of n (j + 1) counts (drop (count * 16) sent) (drop (count * 16) received)))
unfolding rows_question processes_of
rows_next mark n j count counts sent received = rw (length_checkpoints_of, add-one j)

-- `whole` is the answer for all processes: those before j pass
pub record Walked (whole mark n : ℕ) (counts sent received : List ℕ) (first j : ℕ) : Type 0 where
  pub placed : Placed counts n first j
  pub in_sent : BookFits n counts sent
  pub in_received : BookFits n counts received
  pub rest : whole ≡ rows_question mark n (processes_of n j (slice j n counts) (drop (first * 16) sent) (drop (first * 16) received))

pub walked_none : (mark n : ℕ) (counts sent received : List ℕ) → BookFits n counts sent → BookFits n counts received → length counts ≡ 16
    → Walked (rows_question mark n (processes_of n 0 (take n counts) sent received)) mark n counts sent received 0 0
walked_none mark n counts sent received s r l =
    record { placed = placed_none n counts sent s l; in_sent = s; in_received = r; rest = refl }

module _ (whole mark n : ℕ) (counts sent received : List ℕ) (first j : ℕ) (w : Walked whole mark n counts sent received first j) where
  left : ℕ
  left =
      rows_question mark n
      (processes_of n (j + 1) (slice (j + 1) n counts) (drop ((first + get_or counts j 0) * 16) sent) (drop ((first + get_or counts j 0) * 16) received))

  module _ (h : j < n) (a : ℕ)
      (same : a ≡ process_question mark n (get_or counts j 0) (joined (checkpoints_of n j (get_or counts j 0) (drop (first * 16) sent) (drop (first * 16) received)))) where
    next : whole ≡ (process_answer mark n j (get_or counts j 0) (drop (first * 16) sent) (drop (first * 16) received) then λ _. left)
    unfolding left
    next =
        rw (← drop_rows first (get_or counts j 0) sent, ← drop_rows first (get_or counts j 0) received)
        (w.rest
        ∙ ap (λ (l : List ℕ). rows_question mark n (processes_of n j l (drop (first * 16) sent) (drop (first * 16) received))) (counts_next counts n first j w.placed h)
        ∙ rows_next mark n j (get_or counts j 0) (slice (j + 1) n counts) (drop (first * 16) sent) (drop (first * 16) received))

    pub walked_fails : (a ≡ 0 → ⊥) → a ≡ whole
    walked_fails f = answer_fails whole a _ (λ _. left) next same f

    pub walked_more : a ≡ 0 → Walked whole mark n counts sent received (first + get_or counts j 0) (j + 1)
    unfolding left
    walked_more z =
        record {
          placed = placed_more counts n first j w.placed h;
          in_sent = w.in_sent;
          in_received = w.in_received;
          rest = answer_passes whole a _ (λ _. left) next same z;
        }

  pub walked_end : n ≤ j → 0 ≡ whole
  walked_end h =
      sym (w.rest
      ∙ ap (λ (l : List ℕ). rows_question mark n (processes_of n j l (drop (first * 16) sent) (drop (first * 16) received))) (counts_end counts n first j w.placed h)
      ∙ rows_none mark n j (drop (first * 16) sent) (drop (first * 16) received))
