-- The finder's steps: it begins at the newest set, takes a flagged process back by one checkpoint, and ends on the line.
use mathlib.Core.Path.{◌≡◌, refl, sym, ap, ◌∙◌}
use mathlib.Core.Bool.{Bool, true, false, ◌||◌, not, or-true}
use Prim.Native.Nat.{ℕ, ◌+◌, ◌≤◌, ◌<◌}
use native.Mathlib.Decide.{ℕ_discrete}
use native.Mathlib.Omega.{arith}
use borrow.Author.Tests.{lt-ltb, le-ltb, not-true, not-false}
use lib.Dec.{ltb}
use Rattle.lists.specs.Over.{sum_to}
use Rattle.line_theory.specs.Sets.{View, IsBook, IsSet, received_more, newer_than}
use Rattle.line_theory.specs.Search.{permitted, sent_to, line}
use Rattle.line_theory.specs.Statements.{AboveLine}
use Rattle.lists.proofs.Over.{sum_ext, sum_less}
use Rattle.line_theory.proofs.Tests.{permitted_in, refused_by, refused_witness, permits_consistent}
use Rattle.line_theory.proofs.Steps.{sent_rises, permitted_more}
use Rattle.line_theory.proofs.Line.{line_is_line, newer_is_distance, refused_is_above, consistent_above_is_line}

-- The finder's state, while it searches in a book from the newest set on: a set `c`, a flag for each process, and how many
-- steps back were taken.
pub record Searching (v : View) (c : ℕ → ℕ) (flags : ℕ → Bool) (steps : ℕ) : Type 0 where
  pub is_set : IsSet v c
  -- none of its checkpoints is earlier than the line's
  pub above : (j : ℕ) → j < v.n → line v j ≤ c j
  -- exactly those processes are flagged whose checkpoint the others' sent counters do not permit
  pub exact : (j : ℕ) → j < v.n → flags j ≡ not (permitted v.n (v.R j (c j)) (sent_to v c j))
  -- every step took one checkpoint back
  pub taken : steps + sum_to v.n c ≡ sum_to v.n v.count

-- Of what is known only j's counter falls: so a row is refused that was refused before, or that j's counter now refuses.
refused_now : (n : ℕ) (row known known' : ℕ → ℕ) (j : ℕ) → j < n → known' j ≤ known j
    → ((p : ℕ) → p < n → (p ≡ j → ⊥) → known' p ≡ known p)
    → not (permitted n row known') ≡ (not (permitted n row known) || ltb (known' j) (row j))
refused_now n row known known' j k falls others = go (permitted n row known') refl
  where
    less : (p : ℕ) → p < n → known' p ≤ known p
    less p l = elim (ℕ_discrete p j) [ yes e ↦ rw e falls | no e ↦ omega (arith, others p l e) ]

    go : (b : Bool) → permitted n row known' ≡ b
        → not (permitted n row known') ≡ (not (permitted n row known) || ltb (known' j) (row j))
    go true h =
        let at : row j ≤ known' j = permitted_in n row known' h j k in
        rw (h, permitted_more n row known' known less h, le-ltb (known' j) (row j) at)
    go false h =
        let w = refused_witness n row known' h in
        elim (ℕ_discrete w.0 j) [
          | yes e ↦
              let at : known' j < row j = rw e at w.2 in
              rw (h, lt-ltb (known' j) (row j) at, or-true (not (permitted n row known)))
          | no e ↦
              let same : known' w.0 ≡ known w.0 = others w.0 w.1 e in
              rw (h, refused_by n row known w.0 w.1 (omega (arith, w.2)))
        ]

pub begun : {m : ℕ} {v : View} {c : ℕ → ℕ} {flags : ℕ → Bool} → IsBook m v → ((j : ℕ) → j < v.n → c j ≡ v.count j)
    → ((j : ℕ) → j < v.n → flags j ≡ not (permitted v.n (v.R j (c j)) (sent_to v c j))) → Searching v c flags 0
begun {m} {v} {c} book newest exact = record {
  is_set = record { some = λ j k. rw (newest j k) (book.some j k); among = λ j k. omega (arith, newest j k) };
  above = λ j k. rw (newest j k) ((line_is_line m v book).is_set.among j k);
  exact = exact;
  taken = omega (arith, sum_ext v.n c v.count newest);
}

module _ {m : ℕ} {v : View} {c : ℕ → ℕ} {flags : ℕ → Bool} {steps : ℕ} (book : IsBook m v) (now : Searching v c flags steps) where
  up : AboveLine v c
  up = record { above = now.above; among = now.is_set.among }

  -- a flagged process stands after the line
  after_line : (j : ℕ) → j < v.n → flags j ≡ true → line v j < c j
  after_line j k flag =
      refused_is_above m v c (sent_to v c j) j (c j) book up k (λ p l. omega arith) (now.above j k)
      (not-true (permitted v.n (v.R j (c j)) (sent_to v c j)) (sym (now.exact j k) ∙ flag))

  -- so it has a checkpoint to go back to
  pub step_some : (j : ℕ) → j < v.n → flags j ≡ true → 2 ≤ c j
  step_some j k flag = omega (arith, (line_is_line m v book).is_set.some j k, after_line j k flag)

  -- Only what j has sent has changed, and it did not rise: so those are flagged that were before, and those that received
  -- more from j than it now has sent.
  pub stepped_back : {c' : ℕ → ℕ} {flags' : ℕ → Bool} (j : ℕ) → j < v.n → flags j ≡ true → c' j + 1 ≡ c j
      → ((p : ℕ) → (p ≡ j → ⊥) → c' p ≡ c p)
      → flags' j ≡ not (permitted v.n (v.R j (c' j)) (sent_to v c' j))
      → ((p : ℕ) → p < v.n → (p ≡ j → ⊥) → flags' p ≡ (flags p || received_more v c' p j))
      → Searching v c' flags' (steps + 1)
  stepped_back {c'} {flags'} j k flag one others own hurt = record {
    is_set = record {
      some = λ p l. elim (ℕ_discrete p j) [
        | yes e ↦ rw e (omega (arith, step_some j k flag))
        | no e ↦ rw (others p e) (now.is_set.some p l)
      ];
      among = λ p l. omega (arith, less p, now.is_set.among p l);
    };
    above = λ p l. elim (ℕ_discrete p j) [
      | yes e ↦ rw e (omega (arith, after_line j k flag))
      | no e ↦ rw (others p e) (now.above p l)
    ];
    exact = λ p l. elim (ℕ_discrete p j) [ yes e ↦ rw e own | no e ↦ exact p l e ];
    taken = omega (arith, sum_less v.n j c c' k one (λ p l e. others p e), now.taken);
  }
    where
      less : (p : ℕ) → c' p ≤ c p
      less p = elim (ℕ_discrete p j) [ yes e ↦ rw e (omega arith) | no e ↦ omega (arith, others p e) ]

      exact : (p : ℕ) → p < v.n → (p ≡ j → ⊥) → flags' p ≡ not (permitted v.n (v.R p (c' p)) (sent_to v c' p))
      exact p l e =
          let falls : v.S j (c' j) p ≤ v.S j (c j) p
          = sent_rises m v book j (c' j) (c j) p k l (omega (arith, step_some j k flag)) (less j) (now.is_set.among j k) in
          let same : (q : ℕ) → q < v.n → (q ≡ j → ⊥) → sent_to v c' p q ≡ sent_to v c p q = λ q _ o. ap (λ (r : ℕ). v.S q r p) (others q o) in
          rw (hurt p l e, now.exact p l, others p e) (sym (refused_now v.n (v.R p (c p)) (sent_to v c p) (sent_to v c' p) j k falls same))

  -- where no process is flagged
  pub ended : ((j : ℕ) → j < v.n → flags j ≡ false) → ((j : ℕ) → j < v.n → c j ≡ line v j) × (steps ≡ newer_than v (line v))
  ended none =
      let permits : (j : ℕ) → j < v.n → permitted v.n (v.R j (c j)) (sent_to v c j) ≡ true
      = λ j k. not-false (permitted v.n (v.R j (c j)) (sent_to v c j)) (sym (now.exact j k) ∙ none j k) in
      let same : (j : ℕ) → j < v.n → c j ≡ line v j
      = consistent_above_is_line m v c book up (permits_consistent v c permits) in
      (same, omega (arith, sum_ext v.n c (line v) same, newer_is_distance v (line v) (line_is_line m v book).is_set, now.taken))
