-- Questions 6 to 8 of every counter, one by one.
use mathlib.Core.Path.{◌≡◌, refl, sym, subst, ◌∙◌}
use mathlib.Core.Bool.{Bool, true, false}
use mathlib.Core.List.{List, [], ◌∷◌}
use Prim.Native.Nat.{ℕ, zero, suc, ◌+◌, ◌-◌, ◌*◌, ◌≤◌, ◌<◌}
use native.Mathlib.Decide.{dec_lt}
use native.Mathlib.Omega.{arith}
use borrow.Author.Tests.{ltb-true, leb-true}
use lib.ListN.{length, take, drop, get_or, replicate, length-drop, length-replicate}
use lib.Seq.{length-take-le, get_or-take, get_or-drop}
use lib.Dec.{ltb, leb}
use Rattle.book.specs.Layout.{width, joined}
use Rattle.book.specs.InTurn.{◌then◌, ask}
use Rattle.book.specs.Questions.{zero_if_asked, counter_question}
use Rattle.book.specs.Along.{counters_question, sent_zeros, received_zeros, checkpoint_question, checkpoints_question, process_question}
use Rattle.book.specs.Check.{rows_question}
use Rattle.book.proofs.Questions.{then_none, then_both, asked_yes}
use Rattle.book.proofs.Counters.{good}
use Rattle.round_trips.proofs.Numbers.{Wide}
use Rattle.book.proofs.Asked.{counters_taken, checkpoint_taken, checkpoints_next}

-- a counter v that passes, after a counter b one checkpoint before
pub record Passes (mark : ℕ) (zeros : Bool) (b v : ℕ) : Type 0 where
  pub known : v < mark
  pub zero : zero_if_asked zeros v ≡ true
  pub rising : b ≤ v

-- ---- one half of a checkpoint

module _ (mark : ℕ) (zeros : Bool) where
  counter_taken : (b v : ℕ) → counter_question mark zeros b v ≡ 0 → Passes mark zeros b v
  unfolding counter_question
  counter_taken b v h =
      let x = then_none (ask 6 (ltb v mark)) (λ _. ask 7 (zero_if_asked zeros v) then λ _. ask 8 (leb b v)) h in
      let y = then_none (ask 7 (zero_if_asked zeros v)) (λ _. ask 8 (leb b v)) x.1 in
      record {
        known = ltb-true v mark (asked_yes 5 (ltb v mark) x.0);
        zero = asked_yes 6 (zero_if_asked zeros v) y.0;
        rising = leb-true b v (asked_yes 7 (leb b v) y.1);
      }

  counters_each : (before vs : List ℕ) → counters_question mark zeros before vs ≡ 0
      → (k : ℕ) → k < length before → Passes mark zeros (get_or before k 0) (get_or vs k 0)
  unfolding counters_question
  counters_each [] vs h k m = absurd (omega arith)
  counters_each (b ∷ before) [] h k m = absurd (omega arith)
  counters_each (b ∷ before) (v ∷ vs) h zero m = counter_taken b v (counters_taken mark zeros b v before vs h).0
  counters_each (b ∷ before) (v ∷ vs) h (suc k) m =
      counters_each before vs (counters_taken mark zeros b v before vs h).1 k (omega arith)

  each_counters : (before vs : List ℕ) → length before ≤ length vs
      → ((k : ℕ) → k < length before → Passes mark zeros (get_or before k 0) (get_or vs k 0)) → counters_question mark zeros before vs ≡ 0
  unfolding counters_question
  each_counters [] vs h p = refl
  each_counters (b ∷ before) [] h p = absurd (omega arith)
  each_counters (b ∷ before) (v ∷ vs) h p =
      let first = p 0 (omega arith) in
      then_both (counter_question mark zeros b v) (λ _. counters_question mark zeros before vs)
      (sym (good mark zeros b v first.known first.zero first.rising))
      (each_counters before vs (omega arith) (λ k m. p (suc k) (omega arith)))

-- ---- one checkpoint

-- what holds of each sent and of each received counter holds of all counters of a checkpoint
pub by_half : (P : ℕ → Type 0) (half : ℕ) → ((k : ℕ) → k < half → P k) → ((k : ℕ) → k < half → P (half + k)) → (k : ℕ) → k < 2 * half → P k
by_half P half sent received k h = elim (dec_lt k half) [
  | yes l ↦ sent k l
  | no l ↦ let e : half + (k - half) ≡ k = omega arith in subst P e (received (k - half) (omega arith))
]

-- every counter of checkpoint c passes, after checkpoint b
pub record AllPass (mark n : ℕ) (oldest : Bool) (b c : List ℕ) : Type 0 where
  pub sent : (k : ℕ) → k < n - 1 → Passes mark (sent_zeros oldest) (get_or b k 0) (get_or c k 0)
  pub received : (k : ℕ) → k < n - 1 → Passes mark (received_zeros oldest) (get_or b (n - 1 + k) 0) (get_or c (n - 1 + k) 0)

module _ (mark n : ℕ) (oldest : Bool) (b c : List ℕ) (wide_before : length b ≡ width n) (wide : length c ≡ width n) where
  sent_long : length (take (n - 1) b) ≡ n - 1
  sent_long = length-take-le (n - 1) b (omega arith)

  received_long : (l : List ℕ) → length l ≡ width n → length (drop (n - 1) l) ≡ n - 1
  received_long l h = length-drop (n - 1) l ∙ omega arith

  checkpoint_each : checkpoint_question mark n oldest b c ≡ 0 → AllPass mark n oldest b c
  checkpoint_each q =
      let halves = checkpoint_taken mark n oldest b c q in
      record {
        sent = λ k h.
            rw (get_or-take (n - 1) b k 0 h) at (counters_each mark (sent_zeros oldest) (take (n - 1) b) c halves.0 k (rw sent_long h));
        received = λ k h.
            rw (get_or-drop (n - 1) b k 0, get_or-drop (n - 1) c k 0) at
            (counters_each mark (received_zeros oldest) (drop (n - 1) b) (drop (n - 1) c) halves.1 k (rw (received_long b wide_before) h));
      }

  each_checkpoint : AllPass mark n oldest b c → checkpoint_question mark n oldest b c ≡ 0
  unfolding checkpoint_question
  each_checkpoint p =
      then_both (counters_question mark (sent_zeros oldest) (take (n - 1) b) c)
      (λ _. counters_question mark (received_zeros oldest) (drop (n - 1) b) (drop (n - 1) c))
      (each_counters mark (sent_zeros oldest) (take (n - 1) b) c (omega (arith, sent_long)) (λ k m.
      let h : k < n - 1 = rw sent_long at m in rw (get_or-take (n - 1) b k 0 h) (p.sent k h)))
      (each_counters mark (received_zeros oldest) (drop (n - 1) b) (drop (n - 1) c)
      (omega (arith, received_long b wide_before, received_long c wide)) (λ k m.
      rw (get_or-drop (n - 1) b k 0, get_or-drop (n - 1) c k 0) (p.received k (rw (received_long b wide_before) at m))))

-- ---- the checkpoints of a process, one by one

abbrev pub oldest_at : Bool → ℕ → Bool
oldest_at oldest zero = oldest
oldest_at oldest (suc r) = false

module _ (mark n : ℕ) where
  checkpoints_taken : (oldest : Bool) (before c : List ℕ) (cs : List (List ℕ)) → length before ≡ width n → length c ≡ width n
      → checkpoints_question mark n oldest before (suc (length cs)) (joined (c ∷ cs)) ≡ 0
      → (checkpoint_question mark n oldest before c ≡ 0) × (checkpoints_question mark n false c (length cs) (joined cs) ≡ 0)
  unfolding joined
  checkpoints_taken oldest before c cs h l q =
      then_none (checkpoint_question mark n oldest before c) (λ _. checkpoints_question mark n false c (length cs) (joined cs))
      (sym (checkpoints_next mark n oldest before c (length cs) (joined cs) h l) ∙ q)

  checkpoints_each : (oldest : Bool) (before : List ℕ) (cs : List (List ℕ)) → length before ≡ width n → Wide (width n) cs
      → checkpoints_question mark n oldest before (length cs) (joined cs) ≡ 0
      → (r : ℕ) → r < length cs → checkpoint_question mark n (oldest_at oldest r) (get_or (before ∷ cs) r []) (get_or cs r []) ≡ 0
  checkpoints_each oldest before [] h wide q r m = absurd (omega arith)
  checkpoints_each oldest before (c ∷ cs) h wide q zero m = (checkpoints_taken oldest before c cs h (wide 0 (omega arith)) q).0
  checkpoints_each oldest before (c ∷ cs) h wide q (suc r) m =
      let l : length c ≡ width n = wide 0 (omega arith) in
      next r (checkpoints_each false c cs l (λ i k. wide (suc i) (omega arith)) (checkpoints_taken oldest before c cs h l q).1 r (omega arith))
    where
      next : (r : ℕ) → checkpoint_question mark n (oldest_at false r) (get_or (c ∷ cs) r []) (get_or cs r []) ≡ 0
          → checkpoint_question mark n false (get_or (c ∷ cs) r []) (get_or cs r []) ≡ 0
      next zero e = e
      next (suc r) e = e

  each_checkpoints : (oldest : Bool) (before : List ℕ) (cs : List (List ℕ)) → length before ≡ width n → Wide (width n) cs
      → ((r : ℕ) → r < length cs → checkpoint_question mark n (oldest_at oldest r) (get_or (before ∷ cs) r []) (get_or cs r []) ≡ 0)
      → checkpoints_question mark n oldest before (length cs) (joined cs) ≡ 0
  unfolding checkpoints_question joined
  each_checkpoints oldest before [] h wide p = refl
  each_checkpoints oldest before (c ∷ cs) h wide p =
      let l : length c ≡ width n = wide 0 (omega arith) in
      checkpoints_next mark n oldest before c (length cs) (joined cs) h l
      ∙ then_both (checkpoint_question mark n oldest before c) (λ _. checkpoints_question mark n false c (length cs) (joined cs)) (p 0 (omega arith))
      (each_checkpoints false c cs l (λ i k. wide (suc i) (omega arith)) later)
    where
      later : (r : ℕ) → r < length cs → checkpoint_question mark n (oldest_at false r) (get_or (c ∷ cs) r []) (get_or cs r []) ≡ 0
      later zero k = p 1 (omega arith)
      later (suc r) k = p (suc (suc r)) (omega arith)

-- ---- a process

-- the checkpoint before checkpoint r, and zeros before the oldest
abbrev pub before_at : ℕ → List (List ℕ) → ℕ → List ℕ
before_at w cs r = get_or (replicate w 0 ∷ cs) r []

module _ (mark n : ℕ) (cs : List (List ℕ)) (wide : Wide (width n) cs) where
  length_zeros : length (replicate {A = ℕ} (width n) 0) ≡ width n
  length_zeros = length-replicate {A = ℕ} (width n) 0

  length_before : (r : ℕ) → r < length cs → length (before_at (width n) cs r) ≡ width n
  length_before zero h = length_zeros
  length_before (suc r) h = wide r (omega arith)

  pub process_each : process_question mark n (length cs) (joined cs) ≡ 0 → (r : ℕ) → r < length cs
      → AllPass mark n (oldest_at true r) (before_at (width n) cs r) (get_or cs r [])
  process_each q r h =
      checkpoint_each mark n (oldest_at true r) (before_at (width n) cs r) (get_or cs r []) (length_before r h) (wide r h)
      (checkpoints_each mark n true (replicate (width n) 0) cs length_zeros wide q r h)

  pub each_process : ((r : ℕ) → r < length cs → AllPass mark n (oldest_at true r) (before_at (width n) cs r) (get_or cs r []))
      → process_question mark n (length cs) (joined cs) ≡ 0
  each_process p =
      each_checkpoints mark n true (replicate (width n) 0) cs length_zeros wide (λ r h.
      each_checkpoint mark n (oldest_at true r) (before_at (width n) cs r) (get_or cs r []) (length_before r h) (wide r h) (p r h))

-- ---- all processes

pub rows_each : (mark n : ℕ) (ps : List (List (List ℕ))) → rows_question mark n ps ≡ 0
    → (j : ℕ) → j < length ps → process_question mark n (length (get_or ps j [])) (joined (get_or ps j [])) ≡ 0
unfolding rows_question
rows_each mark n [] h j k = absurd (omega arith)
rows_each mark n (cs ∷ ps) h zero k = (then_none (process_question mark n (length cs) (joined cs)) (λ _. rows_question mark n ps) h).0
rows_each mark n (cs ∷ ps) h (suc j) k =
    rows_each mark n ps (then_none (process_question mark n (length cs) (joined cs)) (λ _. rows_question mark n ps) h).1 j (omega arith)

pub each_rows : (mark n : ℕ) (ps : List (List (List ℕ)))
    → ((j : ℕ) → j < length ps → process_question mark n (length (get_or ps j [])) (joined (get_or ps j [])) ≡ 0)
    → rows_question mark n ps ≡ 0
unfolding rows_question
each_rows mark n [] p = refl
each_rows mark n (cs ∷ ps) p =
    then_both (process_question mark n (length cs) (joined cs)) (λ _. rows_question mark n ps) (p 0 (omega arith))
    (each_rows mark n ps (λ j k. p (suc j) (omega arith)))
