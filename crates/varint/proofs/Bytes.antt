-- Lists of bytes: every element below 256.
-- Assumes nothing.
use mathlib.Core.List.{List, [], ◌∷◌, ◌++◌}
use Prim.Native.Nat.{ℕ, zero, suc, ◌<◌}
use native.Mathlib.Decide.{dec_lt}
use native.Mathlib.Omega.{arith}
use borrow.Author.Tests.{lt-ltb, le-ltb}
use lib.ListN.{drop}
use lib.Dec.{T}
use lib.Pow.{are_bytes}

pub bytes_cons : (b : ℕ) (s : List ℕ) → b < 256 → T (are_bytes s) → T (are_bytes (b ∷ s))
bytes_cons b s h t = rw (lt-ltb b 256 h) t

pub bytes_head : (b : ℕ) (s : List ℕ) → T (are_bytes (b ∷ s)) → b < 256
bytes_head b s t = elim (dec_lt b 256) [ yes h ↦ h | no h ↦ absurd (rw (le-ltb b 256 (omega arith)) at t) ]

pub bytes_tail : (b : ℕ) (s : List ℕ) → T (are_bytes (b ∷ s)) → T (are_bytes s)
bytes_tail b s t = rw (lt-ltb b 256 (bytes_head b s t)) at t

pub bytes_append : (a b : List ℕ) → T (are_bytes a) → T (are_bytes b) → T (are_bytes (a ++ b))
bytes_append [] b t u = u
bytes_append (x ∷ a) b t u = bytes_cons x (a ++ b) (bytes_head x a t) (bytes_append a b (bytes_tail x a t) u)

pub bytes_drop : (n : ℕ) (s : List ℕ) → T (are_bytes s) → T (are_bytes (drop n s))
bytes_drop zero s t = t
bytes_drop (suc n) [] t = tt
bytes_drop (suc n) (b ∷ s) t = bytes_drop n s (bytes_tail b s t)
