-- A list of words that lies in another one from a place on: it lies there by its parts, and alone it is the other one.
use mathlib.Core.Path.{◌≡◌, refl, sym, ap, ◌∙◌}
use mathlib.Core.List.{List, ◌++◌}
use Prim.Native.Nat.{ℕ, ◌+◌, ◌-◌, ◌<◌}
use native.Mathlib.Decide.{dec_lt}
use native.Mathlib.Omega.{arith}
use lib.ListN.{length, length-append, get_or-append}
use lib.Seq.{get_or-append-add, ext_get_or}
use Rattle.lists.specs.Over.{tab}
use Rattle.lists.proofs.Over.{length_tab, get_d_tab}
use Rattle.words.specs.Words.{word}

pub record Lies (words : List ℕ) (at : ℕ) (l : List ℕ) : Type 0 where
  pub each : (i : ℕ) → i < length l → word words (at + i) ≡ word l i

pub lies_self : (l : List ℕ) → Lies l 0 l
lies_self l = record { each = λ i h. ap (word l) (omega arith) }

-- one that lies at the start of a list as long is that list
pub lies_all : {words l : List ℕ} → Lies words 0 l → length words ≡ length l → l ≡ words
lies_all {words} {l} lies long =
    ext_get_or 0 l words (sym long) (λ i h. sym (lies.each i h) ∙ ap (word words) (omega arith))

-- ---- two parts, the second of which lies from `next` on

module _ {words : List ℕ} {at : ℕ} (a b : List ℕ) (next : ℕ) (seam : next ≡ at + length a) where
  pub lies_first : Lies words at (a ++ b) → Lies words at a
  lies_first lies =
      record { each = λ i h. lies.each i (omega (arith, length-append a b)) ∙ get_or-append a b 0 i h }

  pub lies_second : Lies words at (a ++ b) → Lies words next b
  lies_second lies =
      record {
        each = λ i h.
            let there : next + i ≡ at + (length a + i) = omega arith in
            ap (word words) there
            ∙ lies.each (length a + i) (omega (arith, length-append a b))
            ∙ get_or-append-add a b i 0;
      }

  pub lies_both : Lies words at a → Lies words next b → Lies words at (a ++ b)
  lies_both first second = record { each = λ i h. at_each i h }
    where
      at_each : (i : ℕ) → i < length (a ++ b) → word words (at + i) ≡ word (a ++ b) i
      at_each i h =
          elim (dec_lt i (length a)) [
            | yes m ↦ first.each i m ∙ sym (get_or-append a b 0 i m)
            | no m ↦
                let there : at + i ≡ next + (i - length a) = omega arith in
                let back : length a + (i - length a) ≡ i = omega arith in
                ap (word words) there
                ∙ second.each (i - length a) (omega (arith, length-append a b))
                ∙ sym (get_or-append-add a b (i - length a) 0)
                ∙ ap (word (a ++ b)) back
          ]

-- ---- the values of a function

pub lies_tab_in : {words : List ℕ} {at : ℕ} (k : ℕ) (f : ℕ → ℕ) → Lies words at (tab k f) → (i : ℕ) → i < k
    → word words (at + i) ≡ f i
lies_tab_in k f lies i h = lies.each i (omega (arith, length_tab k f)) ∙ get_d_tab k f i 0 h

pub lies_tab_out : {words : List ℕ} {at : ℕ} (k : ℕ) (f : ℕ → ℕ) → ((i : ℕ) → i < k → word words (at + i) ≡ f i)
    → Lies words at (tab k f)
lies_tab_out k f same =
    record { each = λ i h. same i (omega (arith, length_tab k f)) ∙ sym (get_d_tab k f i 0 (omega (arith, length_tab k f))) }

-- the words that stand there
pub lies_there : (words : List ℕ) (at k : ℕ) → Lies words at (tab k (λ i. word words (at + i)))
lies_there words at k = lies_tab_out k (λ i. word words (at + i)) (λ i h. refl)
