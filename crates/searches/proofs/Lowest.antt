-- The lowest strand on which a message waits.
use mathlib.Core.Path.{◌≡◌, sym, ap, subst, ◌∙◌}
use mathlib.Core.Bool.{true, false, not, true≢false}
use mathlib.Core.List.{List}
use mathlib.Core.Option.{Option, none, some}
use Prim.Native.Nat.{ℕ, suc, ◌+◌, ◌-◌, ◌≤◌, ◌<◌}
use native.Mathlib.Decide.{ℕ_discrete}
use native.Mathlib.Omega.{arith}
use native.Mathlib.Numerals.{add-one}
use borrow.Author.Tests.{eq-eqb, ne_eqb}
use Rattle.book.specs.declared.Process.{Process}
use Rattle.lists.specs.Over.{lowest, numbered}
use Rattle.lists.proofs.Before.{Before}
use Rattle.lists.proofs.Lowest.{IsLowest, lowest_is, lowest_some, lowest_none}
use Rattle.strands.specs.Strands.{length_on}
use Rattle.session.specs.declared.Session.{Session}
use Rattle.session.specs.Workers.{waits_on}
use Rattle.demand3.specs.Statement.{message_waits}
use Rattle.demand3.proofs.Exactly.{waits_some, waits_none}
use Rattle.searches.specs.Lowest.{lowest_waiting}

-- the loop that looks for it, over the lengths: nothing waits on the strands so far
abbrev pub NoneYet : List ℕ → ℕ → Type 0
NoneYet lengths k = Before 16 (λ q. length_on lengths q ≡ 0) k

module _ (s : Session) where
  abbrev waiting : Option ℕ
  waiting = lowest 16 (waits_on s)

  quiet : (q : ℕ) → length_on s.lengths q ≡ 0 → waits_on s q ≡ false
  quiet q e = ap not (eq-eqb (length_on s.lengths q) 0 e)

  waiting_is : (k : ℕ) → NoneYet s.lengths k → k < 16 → (length_on s.lengths k ≡ 0 → ⊥)
      → ◌≡◌ {A = Process} (record { 0 = k + 1 }) (lowest_waiting s)
  waiting_is k n small waits =
      let at : waiting ≡ some k
      = lowest_some 16 (waits_on s) k
      record {
        below = small;
        here = ap not (ne_eqb (length_on s.lengths k) 0 waits);
        before = λ q before. quiet q (n.so_far q before);
      } in
      ap {B = Process} (λ (p : ℕ). record { 0 = p }) (add-one k ∙ sym (ap numbered at))

  waiting_nowhere : (k : ℕ) → NoneYet s.lengths k → 16 ≤ k → ◌≡◌ {A = Process} (record { 0 = 0 }) (lowest_waiting s)
  waiting_nowhere k n all =
      let at : waiting ≡ none = lowest_none 16 (waits_on s) (λ q small. quiet q (n.so_far q (omega arith))) in
      ap {B = Process} (λ (p : ℕ). record { 0 = p }) (sym (ap numbered at))

  -- what is found: a process on whose strand a message waits,
  pub record Found (found : ℕ) : Type 0 where
    pub from : 1 ≤ found
    pub among : found ≤ 16
    pub waits : waits_on s (found - 1) ≡ true

  pub found_waits : 1 ≤ numbered waiting → Found (numbered waiting)
  found_waits = go waiting (lowest_is 16 (waits_on s))
    where
      go : (o : Option ℕ) → IsLowest (waits_on s) 16 o → 1 ≤ numbered o → Found (numbered o)
      go none never from_1 = absurd (omega arith)
      go (some i) at from_1 =
          let place : suc i - 1 ≡ i = omega arith in
          record { from = from_1; among = omega (arith, at.below); waits = ap (waits_on s) place ∙ at.here }

  pub found_some : 1 ≤ numbered waiting → message_waits s ≡ true
  found_some from_1 =
      let f : Found (numbered waiting) = found_waits from_1 in
      waits_some s (numbered waiting - 1) (omega (arith, f.from, f.among)) f.waits

  -- or nothing, where no message waits on any
  pub found_none : numbered waiting ≡ 0 → message_waits s ≡ false
  found_none e = waits_none s (go waiting (lowest_is 16 (waits_on s)) e)
    where
      go : (o : Option ℕ) → IsLowest (waits_on s) 16 o → numbered o ≡ 0 → (q : ℕ) → q < 16 → waits_on s q ≡ false
      go none never z = never
      go (some i) at z = absurd (omega arith)

  pub some_found : message_waits s ≡ true → 1 ≤ numbered waiting
  some_found waits =
      elim (ℕ_discrete (numbered waiting) 0) [
        | yes none' ↦ absurd (true≢false (sym waits ∙ found_none none'))
        | no some' ↦ omega arith
      ]

-- so of each session with these lengths
pub lowest_in : (lengths : List ℕ) (k : ℕ) → NoneYet lengths k → k < 16 → (length_on lengths k ≡ 0 → ⊥)
    → (s : Session) → s.lengths ≡ lengths → ◌≡◌ {A = Process} (record { 0 = k + 1 }) (lowest_waiting s)
lowest_in lengths k n small waits s e =
    waiting_is s k (subst (λ (l : List ℕ). NoneYet l k) (sym e) n) small (subst (λ (l : List ℕ). (length_on l k ≡ 0 → ⊥)) (sym e) waits)

pub none_in : (lengths : List ℕ) (k : ℕ) → NoneYet lengths k → 16 ≤ k
    → (s : Session) → s.lengths ≡ lengths → ◌≡◌ {A = Process} (record { 0 = 0 }) (lowest_waiting s)
none_in lengths k n all s e = waiting_nowhere s k (subst (λ (l : List ℕ). NoneYet l k) (sym e) n) all
