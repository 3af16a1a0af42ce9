-- Questions 3 and 6 to 8 look at so many numbers and at none after them.
use mathlib.Core.Path.{◌≡◌, refl}
use mathlib.Core.Bool.{Bool, true, false}
use mathlib.Core.List.{List, [], ◌∷◌, ◌++◌}
use Prim.Native.Nat.{ℕ, zero, suc, ◌-◌, ◌*◌, ◌≤◌}
use native.Mathlib.Omega.{arith}
use lib.ListN.{length, take, drop, replicate, length-take, length-drop, length-replicate}
use lib.Seq.{length-take-le, take-append-le, drop-append-le, take_at, drop_at}
use Rattle.book.specs.Layout.{width}
use Rattle.book.specs.InTurn.{◌then◌}
use Rattle.book.specs.Questions.{counter_question}
use Rattle.book.specs.Along.{counters_question, sent_zeros, received_zeros, checkpoint_question, checkpoints_question, process_question}
use Rattle.book.proofs.Questions.{then_none}

-- only an oldest checkpoint is asked question 7
pub later_sent : sent_zeros false ≡ false
unfolding sent_zeros
later_sent = refl

pub later_received : received_zeros false ≡ false
unfolding received_zeros
later_received = refl

-- ---- one half

module _ (mark : ℕ) (zeros : Bool) where
  -- the first question, and those after it
  pub counters_taken : (b v : ℕ) (before vs : List ℕ) → counters_question mark zeros (b ∷ before) (v ∷ vs) ≡ 0
      → (counter_question mark zeros b v ≡ 0) × (counters_question mark zeros before vs ≡ 0)
  unfolding counters_question
  counters_taken b v before vs h = then_none (counter_question mark zeros b v) (λ _. counters_question mark zeros before vs) h

  -- where question 3 does not fail, there are numbers enough
  pub counters_long : (before vs : List ℕ) → counters_question mark zeros before vs ≡ 0 → length before ≤ length vs
  unfolding counters_question
  counters_long [] vs h = omega arith
  counters_long (b ∷ before) [] h = absurd (omega arith)
  counters_long (b ∷ before) (v ∷ vs) h =
      let ih = counters_long before vs (counters_taken b v before vs h).1 in omega arith

  -- the numbers after those do not matter
  pub counters_front : (before vs rest : List ℕ) → length before ≤ length vs
      → counters_question mark zeros before (vs ++ rest) ≡ counters_question mark zeros before vs
  unfolding counters_question
  counters_front [] vs rest h = refl
  counters_front (b ∷ before) [] rest h = absurd (omega arith)
  counters_front (b ∷ before) (v ∷ vs) rest h = rw (counters_front before vs rest (omega arith))

-- ---- a checkpoint, and several

module _ (mark n : ℕ) (oldest : Bool) where
  -- the questions of the sent half, and those of the received half
  pub checkpoint_taken : (before vs : List ℕ) → checkpoint_question mark n oldest before vs ≡ 0
      → (counters_question mark (sent_zeros oldest) (take (n - 1) before) vs ≡ 0)
      × (counters_question mark (received_zeros oldest) (drop (n - 1) before) (drop (n - 1) vs) ≡ 0)
  unfolding checkpoint_question
  checkpoint_taken before vs h =
      then_none (counters_question mark (sent_zeros oldest) (take (n - 1) before) vs)
      (λ _. counters_question mark (received_zeros oldest) (drop (n - 1) before) (drop (n - 1) vs)) h

  -- the same where the halves of the checkpoint before stand apart
  pub checkpoint_halves : (b₁ b₂ vs : List ℕ) → length b₁ ≡ n - 1
      → checkpoint_question mark n oldest (b₁ ++ b₂) vs
      ≡ (counters_question mark (sent_zeros oldest) b₁ vs
      then λ _. counters_question mark (received_zeros oldest) b₂ (drop (n - 1) vs))
  unfolding checkpoint_question
  checkpoint_halves b₁ b₂ vs h = rw (take_at b₁ b₂ (n - 1) h, drop_at b₁ b₂ (n - 1) h)

  checkpoint_long : (before vs : List ℕ) → length before ≡ width n → checkpoint_question mark n oldest before vs ≡ 0 → width n ≤ length vs
  checkpoint_long before vs l h =
      let received = counters_long mark (received_zeros oldest) (drop (n - 1) before) (drop (n - 1) vs) (checkpoint_taken before vs h).1 in
      let enough : length before - (n - 1) ≤ length vs - (n - 1) = simp length-drop at received in
      omega arith

  pub checkpoint_front : (before vs rest : List ℕ) → length before ≡ width n → width n ≤ length vs
      → checkpoint_question mark n oldest before (vs ++ rest) ≡ checkpoint_question mark n oldest before vs
  unfolding checkpoint_question
  checkpoint_front before vs rest l h =
      rw (
        counters_front mark (sent_zeros oldest) (take (n - 1) before) vs rest (rw length-take (omega arith)),
        drop-append-le (n - 1) vs rest (omega arith),
        counters_front mark (received_zeros oldest) (drop (n - 1) before) (drop (n - 1) vs) rest (simp length-drop (omega arith)),
      )

module _ (mark n : ℕ) where
  pub checkpoints_long : (oldest : Bool) (before : List ℕ) (c : ℕ) (vs : List ℕ) → length before ≡ width n
      → checkpoints_question mark n oldest before c vs ≡ 0 → c * width n ≤ length vs
  unfolding checkpoints_question
  checkpoints_long oldest before zero vs l h = omega arith
  checkpoints_long oldest before (suc c) vs l h =
      let w : ℕ = width n in
      let b = then_none (checkpoint_question mark n oldest before vs) (λ _. checkpoints_question mark n false (take w vs) c (drop w vs)) h in
      let first : w ≤ length vs = checkpoint_long mark n oldest before vs l b.0 in
      let later = checkpoints_long false (take w vs) c (drop w vs) (length-take-le w vs first) b.1 in
      let more : c * w ≤ length vs - w = simp length-drop at later in
      omega arith

  pub checkpoints_front : (oldest : Bool) (before : List ℕ) (c : ℕ) (vs rest : List ℕ) → length before ≡ width n → c * width n ≤ length vs
      → checkpoints_question mark n oldest before c (vs ++ rest) ≡ checkpoints_question mark n oldest before c vs
  unfolding checkpoints_question
  checkpoints_front oldest before zero vs rest l h = refl
  checkpoints_front oldest before (suc c) vs rest l h =
      let w : ℕ = width n in
      let first : w ≤ length vs = omega arith in
      rw (
        checkpoint_front mark n oldest before vs rest l first,
        take-append-le w vs rest first,
        drop-append-le w vs rest first,
        checkpoints_front false (take w vs) c (drop w vs) rest (length-take-le w vs first) (rw (length-drop w vs) (omega arith)),
      )

  -- one checkpoint, and then those after it
  pub checkpoints_next : (oldest : Bool) (before c : List ℕ) (left : ℕ) (rest : List ℕ) → length before ≡ width n → length c ≡ width n
      → checkpoints_question mark n oldest before (suc left) (c ++ rest)
      ≡ (checkpoint_question mark n oldest before c then λ _. checkpoints_question mark n false c left rest)
  unfolding checkpoints_question
  checkpoints_next oldest before c left rest l h =
      rw (checkpoint_front mark n oldest before c rest l (omega arith), take_at c rest (width n) h, drop_at c rest (width n) h)

  pub process_long : (c : ℕ) (vs : List ℕ) → process_question mark n c vs ≡ 0 → c * width n ≤ length vs
  process_long c vs h = checkpoints_long true (replicate (width n) 0) c vs (length-replicate {A = ℕ} (width n) 0) h
