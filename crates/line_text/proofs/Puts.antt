-- The first bytes of a text, and whether they fit.
-- Assumes nothing.
use mathlib.Core.Path.{◌≡◌, refl, sym, ap, ◌∙◌}
use mathlib.Core.Bool.{Bool, true, false}
use mathlib.Core.List.{List, ◌++◌}
use Prim.Native.Nat.{ℕ, ◌+◌, ◌≤◌, ◌<◌}
use native.Mathlib.Omega.{arith}
use borrow.Author.Tests.{le-leb, lt-leb, leb-true}
use lib.ListN.{length, take, drop}
use lib.Seq.{sets, sets-eq, length-take-le}
use lib.Dec.{leb}
use Rattle.std.specs.Prelude.{Ok, Err}
use Rattle.book.specs.InTurn.{ask, answer_with}
use Rattle.line_text.specs.Put.{put_answer, text_put}

-- ---- whether it fits

module _ (bytes : List ℕ) (len : ℕ) (out : List ℕ) (inside : len ≤ length bytes) where
  pub too_long : length out < len → (Err 17 ≡ put_answer (take len bytes) out) × (out ≡ text_put (take len bytes) out)
  unfolding put_answer answer_with text_put
  too_long h =
      let l = length-take-le len bytes inside in
      let e = lt-leb len (length out) h in
      (rw (l, e), rw (l, e))

  pub fits : len ≤ length out → (Ok len ≡ put_answer (take len bytes) out) × (sets out 0 (take len bytes) ≡ text_put (take len bytes) out)
  unfolding put_answer answer_with text_put
  fits h =
      let l = length-take-le len bytes inside in
      let e = le-leb len (length out) h in
      (rw (l, e), rw (l, e))

  -- the first bytes copied over the first of the buffer
  pub copied : len ≤ length out → take len bytes ++ drop len out ≡ sets out 0 (take len bytes)
  copied h =
      let l = length-take-le len bytes inside in
      let end : 0 + length (take len bytes) ≡ len = omega (arith, l) in
      sym (sets-eq (take len bytes) out 0 (omega (arith, l)) ∙ ap (λ (k : ℕ). take len bytes ++ drop k out) end)

-- a length that is answered lies within the buffer
pub put_within : (text out : List ℕ) (n : ℕ) → put_answer text out ≡ Ok n → n ≤ length out
unfolding put_answer answer_with
put_within text out n = go (leb (length text) (length out)) refl
  where
    go : (t : Bool) → leb (length text) (length out) ≡ t → answer_with (ask 17 t) (length text) ≡ Ok n → n ≤ length out
    go true e is = let same : length text ≡ n = cc in omega (arith, leb-true (length text) (length out) e)
    go false e other = let z : ◌≡◌ {A = ℕ} 0 1 = cc in absurd (omega arith)
