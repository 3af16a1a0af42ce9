-- The entries of a list asked one after another: what the questions tell of one, and what holds of all that pass.
use mathlib.Core.Path.{◌≡◌, refl, subst}
use mathlib.Core.Bool.{Bool, true, not, ◌&&◌}
use mathlib.Core.List.{List, [], ◌∷◌}
use Prim.Native.Nat.{ℕ, zero, suc, ◌+◌, ◌-◌, ◌*◌, ◌≤◌, ◌<◌}
use native.Mathlib.Decide.{dec_lt}
use native.Mathlib.Omega.{arith}
use borrow.Author.Tests.{ltb-true, leb-true, eqb-true, eqb-false, not-true, lt-ltb, le-ltb, le-leb, eq-eqb, ne_eqb}
use lib.ListN.{length, get_or}
use lib.Dec.{ltb, leb, eqb}
use Rattle.book.specs.Bounds.{most_processes}
use Rattle.book.specs.Names.{is_named}
use Rattle.book.specs.InTurn.{ask}
use Rattle.book.proofs.Names.{named_in}
use Rattle.book.proofs.Questions.{then_none, then_both, ask_yes, asked_yes}
use Rattle.lists.proofs.Tests.{and_both, both_and, or_first, second_of_or}
use Rattle.resend.specs.Layout.{channel_at}
use Rattle.resend.specs.Questions.{rises, entry_formed, entry_question, entries_question}

-- no number is above m
abbrev pub AtMost : ℕ → List ℕ → Type 0
AtMost m l = (i : ℕ) → i < length l → get_or l i 0 ≤ m

pub most_cons : (m v : ℕ) (l : List ℕ) → v ≤ m → AtMost m l → AtMost m (v ∷ l)
most_cons m v l h k zero b = h
most_cons m v l h k (suc i) b = k i (omega arith)

-- ---- one entry

-- how many channels are behind after the entry of the channel from s to r: none before the first entry, where both are 0
abbrev pub behind : ℕ → ℕ → ℕ
behind s r = (s - 1) * most_processes + r

-- s and r are those of an entry, or both 0
pub record IsBehind (s r : ℕ) : Type 0 where
  pub most : r ≤ 16
  pub both : r ≤ s * 16

-- an entry after so many channels
pub record Entry (n place sender receiver first last : ℕ) : Type 0 where
  pub rising : place ≤ channel_at sender receiver
  pub from : (1 ≤ sender) × (sender ≤ n)
  pub to : (1 ≤ receiver) × (receiver ≤ n)
  pub other : sender ≡ receiver → ⊥
  pub some : 1 ≤ first
  pub ordered : first ≤ last

module _ (n s r a b f l : ℕ) (few : n ≤ 16) (at : IsBehind s r) where
  rises_in : 1 ≤ a → 1 ≤ b → rises s r a b ≡ true → behind s r ≤ channel_at a b
  rises_in one one' h =
      elim (dec_lt s a) [
        | yes m ↦ omega (arith, at.most, at.both)
        | no m ↦
            let rest = and_both (eqb s a) (ltb r b) (second_of_or (ltb s a) (eqb s a && ltb r b) h (le-ltb s a (omega arith))) in
            omega (arith, eqb-true s a rest.0, ltb-true r b rest.1)
      ]

  rises_out : 1 ≤ a → 1 ≤ b → b ≤ 16 → behind s r ≤ channel_at a b → rises s r a b ≡ true
  rises_out one one' most h =
      elim (dec_lt s a) [
        | yes m ↦ or_first (ltb s a) (eqb s a && ltb r b) (lt-ltb s a m)
        | no m ↦
            let same : s ≡ a = omega arith in
            let later : r < b = omega arith in
            rw (le-ltb s a (omega arith), eq-eqb s a same, lt-ltb r b later)
      ]

  entry_in : entry_question n s r a b f l ≡ 0 → Entry n (behind s r) a b f l
  unfolding entry_question
  entry_in h =
      let q = then_none (ask 10 (is_named n a && is_named n b)) (λ _. ask 21 (entry_formed s r a b f l)) h in
      let named = and_both (is_named n a) (is_named n b) (asked_yes 9 (is_named n a && is_named n b) q.0) in
      let formed = and_both (rises s r a b) (not (eqb a b) && (leb 1 f && leb f l)) (asked_yes 20 (entry_formed s r a b f l) q.1) in
      let rest = and_both (not (eqb a b)) (leb 1 f && leb f l) formed.1 in
      let numbers = and_both (leb 1 f) (leb f l) rest.1 in
      let from = named_in n a named.0 in
      let to = named_in n b named.1 in
      record {
        rising = rises_in from.0 to.0 formed.0;
        from = from;
        to = to;
        other = eqb-false a b (not-true (eqb a b) rest.0);
        some = leb-true 1 f numbers.0;
        ordered = leb-true f l numbers.1;
      }

  pub entry_out : Entry n (behind s r) a b f l → entry_question n s r a b f l ≡ 0
  unfolding entry_question
  entry_out e =
      let named : (is_named n a && is_named n b) ≡ true
      = rw (le-leb 1 a e.from.0, le-leb a n e.from.1, le-leb 1 b e.to.0, le-leb b n e.to.1) in
      let rest : (not (eqb a b) && (leb 1 f && leb f l)) ≡ true = rw (ne_eqb a b e.other, le-leb 1 f e.some, le-leb f l e.ordered) in
      let rising : rises s r a b ≡ true = rises_out e.from.0 e.to.0 (omega (arith, e.to.1)) e.rising in
      then_both (ask 10 (is_named n a && is_named n b)) (λ _. ask 21 (entry_formed s r a b f l)) (ask_yes 10 (is_named n a && is_named n b) named)
      (ask_yes 21 (entry_formed s r a b f l) (both_and (rises s r a b) (not (eqb a b) && (leb 1 f && leb f l)) rising rest))

-- after an entry
pub entry_behind : (n place a b f l : ℕ) → n ≤ 16 → Entry n place a b f l → IsBehind a b × (behind a b ≡ suc (channel_at a b)) × (channel_at a b < 256)
entry_behind n place a b f l few e =
    let from = e.from in
    let to = e.to in
    (record { most = omega arith; both = omega arith }, omega arith, omega arith)

-- ---- all of them

-- it holds of no entries, and with one more entry in front
pub asked_induction : (n : ℕ) → n ≤ 16 → (ended : Bool) (P : ℕ → ℕ → List ℕ → Type 0) → ((place : ℕ) → ended ≡ true → P place 0 [])
    → ((place count a b f l : ℕ) (xs : List ℕ) → Entry n place a b f l → P (suc (channel_at a b)) count xs
    → P place (suc count) (a ∷ b ∷ f ∷ l ∷ xs))
    → (s r count : ℕ) (xs : List ℕ) → IsBehind s r → entries_question n s r count ended xs ≡ 0 → P (behind s r) count xs
unfolding entries_question
asked_induction n few ended P none more s r zero [] at h = none (behind s r) (asked_yes 20 ended h)
asked_induction n few ended P none more s r zero (x ∷ xs) at h = let z : ◌≡◌ {A = ℕ} 21 0 = h in absurd (omega arith)
asked_induction n few ended P none more s r (suc count) [] at h = let z : ◌≡◌ {A = ℕ} 3 0 = h in absurd (omega arith)
asked_induction n few ended P none more s r (suc count) (a ∷ []) at h = let z : ◌≡◌ {A = ℕ} 3 0 = h in absurd (omega arith)
asked_induction n few ended P none more s r (suc count) (a ∷ b ∷ []) at h = let z : ◌≡◌ {A = ℕ} 3 0 = h in absurd (omega arith)
asked_induction n few ended P none more s r (suc count) (a ∷ b ∷ f ∷ []) at h = let z : ◌≡◌ {A = ℕ} 3 0 = h in absurd (omega arith)
asked_induction n few ended P none more s r (suc count) (a ∷ b ∷ f ∷ l ∷ xs) at h =
    let q = then_none (entry_question n s r a b f l) (λ _. entries_question n a b count ended xs) h in
    let e : Entry n (behind s r) a b f l = entry_in n s r a b f l few at q.0 in
    let on = entry_behind n (behind s r) a b f l few e in
    more (behind s r) count a b f l xs e
    (subst (λ (k : ℕ). P k count xs) on.1 (asked_induction n few ended P none more a b count xs on.0 q.1))

-- before the first
pub none_behind : IsBehind 0 0
none_behind = record { most = omega arith; both = omega arith }

module _ (n : ℕ) (few : n ≤ 16) (ended : Bool) (s r count : ℕ) (xs : List ℕ) (at : IsBehind s r) (h : entries_question n s r count ended xs ≡ 0) where
  pub asked_length : length xs ≡ 4 * count
  asked_length = asked_induction n few ended (λ p c ys. length ys ≡ 4 * c) (λ p e. refl) (λ p c a b f l ys e ih. omega arith) s r count xs at h

  -- the bytes end there
  pub asked_ended : ended ≡ true
  asked_ended = asked_induction n few ended (λ p c ys. ended ≡ true) (λ p e. e) (λ p c a b f l ys e ih. ih) s r count xs at h
