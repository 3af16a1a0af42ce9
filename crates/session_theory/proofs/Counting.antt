-- How many participants there are.
use mathlib.Core.Path.{◌≡◌, refl, sym, ap, ◌∙◌}
use mathlib.Core.Bool.{Bool, true, false}
use Prim.Native.Nat.{ℕ, ◌-◌}
use borrow.Author.Tests.{lt-ltb}
use Rattle.book.specs.Bounds.{most_processes}
use Rattle.lists.specs.Over.{sum_to}
use Rattle.lists.proofs.Over.{sum_ext}
use Rattle.lists.specs.Pick.{pick}
use Rattle.matrix.specs.Matrix.{is_pair}
use Rattle.machine_laws.proofs.Pairs.{pair_sym}
use Rattle.exchange_laws.proofs.Counts.{count_pairs}
use Rattle.session_theory.proofs.Search.{Search, IsSearch, size, lead, is_part}
use Rattle.session_theory.proofs.Invariant.{one}
use Rattle.session_theory.proofs.Facts.{few, lead_in}

-- as many as pairs with the initiator
pub count_parts : (g : Search) → IsSearch g → sum_to most_processes (λ k. one (is_part g k)) ≡ size g - 1
count_parts g is =
    sum_ext 16 (λ k. one (is_part g k)) (λ k. pick (is_pair (size g) (lead g) k) 1 0) (λ k h. same k)
    ∙ count_pairs (size g) (lead g) (lead_in g is) (few g is)
  where
    as_one : (b : Bool) → one b ≡ pick b 1 0
    as_one true = refl
    as_one false = refl

    paired : (k : ℕ) → is_pair (size g) (lead g) k ≡ is_part g k
    paired k = pair_sym (size g) (lead g) k ∙ rw (lt-ltb (lead g) (size g) (lead_in g is))

    same : (k : ℕ) → one (is_part g k) ≡ pick (is_pair (size g) (lead g) k) 1 0
    same k = ap one (sym (paired k)) ∙ as_one (is_pair (size g) (lead g) k)
