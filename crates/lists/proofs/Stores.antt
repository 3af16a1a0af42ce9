-- Runs of stores: one after another, what a run leaves as it was, and a loop that stores the values of a function.
use mathlib.Core.Path.{◌≡◌, refl, sym, ap, ◌∙◌}
use mathlib.Core.List.{List, [], ◌∷◌, ◌++◌}
use Prim.Native.Nat.{ℕ, suc, ◌+◌, ◌≤◌, ◌<◌}
use native.Mathlib.Nat.{add-zero, add-suc, suc-add}
use native.Mathlib.Numerals.{add-one}
use native.Mathlib.Omega.{arith}
use lib.ListN.{length, get_or, set, length-set}
use lib.Seq.{sets, get_or-set_other}
use Rattle.lists.specs.Over.{tab_from, tab}
use Rattle.lists.proofs.Over.{length_tab, tab_last}

-- a run of stores that goes on where another ended is one run
pub sets_append : (a b l : List ℕ) (at : ℕ) → sets (sets l at a) (at + length a) b ≡ sets l at (a ++ b)
sets_append [] b l at = ap (λ (k : ℕ). sets l k b) (add-zero at)
sets_append (v ∷ a) b l at =
    ap (λ (k : ℕ). sets (sets (set l at v) (suc at) a) k b) (add-suc at (length a) ∙ sym (suc-add at (length a)))
    ∙ sets_append a b (set l at v) (suc at)

-- one store more
pub sets_more : (done l : List ℕ) (from i v : ℕ) → i ≡ from + length done → set (sets l from done) i v ≡ sets l from (done ++ (v ∷ []))
sets_more done l from i v e = ap (λ (k : ℕ). set (sets l from done) k v) e ∙ sets_append done (v ∷ []) l from

-- entries before a run, and after it
pub get_d_below : (vs l : List ℕ) (k i : ℕ) → i < k → get_or (sets l k vs) i 0 ≡ get_or l i 0
get_d_below [] l k i h = refl
get_d_below (x ∷ vs) l k i h = get_d_below vs (set l k x) (suc k) i (omega arith) ∙ get_or-set_other l k i x 0 (λ e. omega arith)

pub get_d_past : (vs l : List ℕ) (k i : ℕ) → k + length vs ≤ i → get_or (sets l k vs) i 0 ≡ get_or l i 0
get_d_past [] l k i h = refl
get_d_past (x ∷ vs) l k i h = get_d_past vs (set l k x) (suc k) i (omega arith) ∙ get_or-set_other l k i x 0 (λ e. omega arith)

-- ---- the values of a function

-- the first k of so many values are stored, from a place on
pub record Stored (size : ℕ) (f : ℕ → ℕ) (l₀ : List ℕ) (at : ℕ) (l : List ℕ) (k : ℕ) : Type 0 where
  pub within : k ≤ size
  pub same : length l ≡ length l₀
  pub present : l ≡ sets l₀ at (tab k f)

module _ {size : ℕ} {f : ℕ → ℕ} {l₀ : List ℕ} {at : ℕ} where
  pub stored_none : Stored size f l₀ at l₀ 0
  unfolding tab_from
  stored_none = record { within = omega arith; same = refl; present = refl }

  module _ {l : List ℕ} {k : ℕ} (stored : Stored size f l₀ at l k) where
    -- at a place that may be said another way
    pub stored_at : k < size → (i : ℕ) → i ≡ at + k → (v : ℕ) → v ≡ f k → Stored size f l₀ at (set l i v) (k + 1)
    stored_at h i place v here =
        record {
          within = omega arith;
          same = simp length-set stored.same;
          present = ap (λ (m : List ℕ). set m i v) stored.present
              ∙ sets_more (tab k f) l₀ at i v (omega (arith, length_tab k f))
              ∙ ap (λ (w : ℕ). sets l₀ at (tab k f ++ (w ∷ []))) here
              ∙ ap (sets l₀ at) (sym (tab_last k f) ∙ ap (λ (m : ℕ). tab m f) (sym (add-one k)));
        }

    pub stored_more : k < size → (v : ℕ) → v ≡ f k → Stored size f l₀ at (set l (at + k) v) (k + 1)
    stored_more h v here = stored_at h (at + k) refl v here

    -- what lies after them is as before
    pub stored_after : (i : ℕ) → at + k ≤ i → get_or l i 0 ≡ get_or l₀ i 0
    stored_after i h = ap (λ (m : List ℕ). get_or m i 0) stored.present ∙ get_d_past (tab k f) l₀ at i (omega (arith, length_tab k f))

    pub stored_all : size ≤ k → l ≡ sets l₀ at (tab size f)
    stored_all h = let all : k ≡ size = omega (arith, stored.within) in rw all at stored.present
