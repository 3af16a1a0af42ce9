-- Questions 2, 4 and 5: lengths, n and counts.
use mathlib.Core.Path.{◌≡◌, refl}
use mathlib.Core.Bool.{◌&&◌}
use mathlib.Core.List.{List, [], ◌∷◌}
use Prim.Native.Nat.{ℕ, zero, suc, ◌+◌, ◌≤◌, ◌<◌}
use native.Mathlib.Omega.{arith}
use borrow.Author.Tests.{leb-true, le-leb, lt-leb, eqb-true, eq-eqb}
use lib.ListN.{length, get_or}
use lib.Dec.{leb, eqb}
use Rattle.book.specs.View.{sum}
use Rattle.book.specs.Check.{counts_question}
use Rattle.book.specs.Questions.{size_question, count_question, length_question}
use Rattle.book.proofs.Questions.{then_none, then_both, asked_yes}
use Rattle.lists.proofs.Tests.{and_both}

pub lengths_taken : (s r : List ℕ) → length_question s r ≡ 0 → (length s ≡ 4096) × (length r ≡ 4096)
lengths_taken s r h =
    let b = and_both (eqb (length s) 4096) (eqb (length r) 4096) (asked_yes 1 (eqb (length s) 4096 && eqb (length r) 4096) h) in
    (eqb-true (length s) 4096 b.0, eqb-true (length r) 4096 b.1)

pub lengths_given : (s r : List ℕ) → length s ≡ 4096 → length r ≡ 4096 → length_question s r ≡ 0
lengths_given s r h k = rw (eq-eqb (length s) 4096 h, eq-eqb (length r) 4096 k)

pub size_taken : (n : ℕ) → size_question n ≡ 0 → (1 ≤ n) × (n ≤ 16)
size_taken n h =
    let b = and_both (leb 1 n) (leb n 16) (asked_yes 3 (leb 1 n && leb n 16) h) in (leb-true 1 n b.0, leb-true n 16 b.1)

-- which way n fails question 4
pub size_none : (n : ℕ) → n < 1 → size_question n ≡ 4
size_none n h = rw (lt-leb 1 n h)

pub size_many : (n : ℕ) → 1 ≤ n → 16 < n → size_question n ≡ 4
size_many n h k = rw (le-leb 1 n h, lt-leb n 16 k)

pub size_given_lem : (n : ℕ) → 1 ≤ n → n ≤ 16 → size_question n ≡ 0
size_given_lem n h k = rw (le-leb 1 n h, le-leb n 16 k)

pub count_taken : (before c : ℕ) → count_question before c ≡ 0 → (1 ≤ c) × (before + c ≤ 256)
count_taken before c h =
    let b = and_both (leb 1 c) (leb (before + c) 256) (asked_yes 4 (leb 1 c && leb (before + c) 256) h) in
    (leb-true 1 c b.0, leb-true (before + c) 256 b.1)

-- which way a count fails question 5
pub count_none : (before c : ℕ) → c < 1 → count_question before c ≡ 5
count_none before c h = rw (lt-leb 1 c h)

pub count_many : (before c : ℕ) → 1 ≤ c → 256 < before + c → count_question before c ≡ 5
count_many before c h k = rw (le-leb 1 c h, lt-leb (before + c) 256 k)

pub count_given : (before c : ℕ) → 1 ≤ c → before + c ≤ 256 → count_question before c ≡ 0
count_given before c h k = rw (le-leb 1 c h, le-leb (before + c) 256 k)

counts_head : (before c : ℕ) (counts : List ℕ) → counts_question before (c ∷ counts) ≡ 0
    → (1 ≤ c) × (before + c ≤ 256) × (counts_question (before + c) counts ≡ 0)
unfolding counts_question
counts_head before c counts h =
    let b = then_none (count_question before c) (λ _. counts_question (before + c) counts) h in
    let e = count_taken before c b.0 in
    (e.0, e.1, b.1)

-- the counts add up to at most 256, and each is at least 1
pub counts_few : (before : ℕ) (counts : List ℕ) → before ≤ 256 → counts_question before counts ≡ 0 → before + sum counts ≤ 256
unfolding sum
counts_few before [] h k = omega arith
counts_few before (c ∷ counts) h k =
    let b = counts_head before c counts k in
    let ih = counts_few (before + c) counts b.1 b.2 in
    omega arith

pub few_in_all : (counts : List ℕ) → counts_question 0 counts ≡ 0 → sum counts ≤ 256
few_in_all counts h = let f = counts_few 0 counts (omega arith) h in omega arith

pub counts_some : (before : ℕ) (counts : List ℕ) → counts_question before counts ≡ 0 → (j : ℕ) → j < length counts → 1 ≤ get_or counts j 0
counts_some before [] h j k = absurd (omega arith)
counts_some before (c ∷ counts) h zero k = (counts_head before c counts h).0
counts_some before (c ∷ counts) h (suc j) k = counts_some (before + c) counts (counts_head before c counts h).2 j (omega arith)

pub counts_given : (before : ℕ) (counts : List ℕ) → ((j : ℕ) → j < length counts → 1 ≤ get_or counts j 0) → before + sum counts ≤ 256
    → counts_question before counts ≡ 0
unfolding counts_question sum
counts_given before [] h k = refl
counts_given before (c ∷ counts) h k =
    then_both (count_question before c) (λ _. counts_question (before + c) counts)
    (count_given before c (h 0 (omega arith)) (omega arith))
    (counts_given (before + c) counts (λ j m. h (suc j) (omega arith)) (omega arith))
