-- The loops that measure and that write: what is done, followed by the bytes that are left, is the whole.
use mathlib.Core.Path.{◌≡◌, refl, sym, ap, ◌∙◌}
use mathlib.Core.List.{List, [], ◌++◌}
use Prim.Native.Nat.{ℕ, ◌+◌, ◌≤◌}
use native.Mathlib.Omega.{arith}
use lib.ListN.{length, length-append}
use lib.Seq.{sets, length-sets}
use Rattle.lists.proofs.Stores.{sets_append}

-- what is left is a part, and then the rest
pub record Parts (left part rest : List ℕ) : Type 0 where
  pub split : left ≡ part ++ rest

-- how long the three are
pub long : {left part rest : List ℕ} → Parts left part rest → length left ≡ length part + length rest
long {left} {part} {rest} p = ap length p.split ∙ length-append part rest

-- ---- measuring

-- `size` bytes of all are counted, `left` is left
pub record Counted (all left : List ℕ) (size : ℕ) : Type 0 where
  pub total : size + length left ≡ length all

pub counted_begun : {all left : List ℕ} → left ≡ all → Counted all left 0
counted_begun e = record { total = omega (arith, ap length e) }

pub counted_first : {all part rest : List ℕ} {size : ℕ} → Parts all part rest → size ≡ length part → Counted all rest size
counted_first p h = record { total = omega (arith, long p) }

-- one part more
pub counted_more : {all left part rest : List ℕ} {size n : ℕ} → Parts left part rest → n ≡ length part → Counted all left size
    → Counted all rest (size + n)
counted_more p h r = record { total = omega (arith, r.total, long p) }

pub counted_ended : {all left : List ℕ} {size : ℕ} → left ≡ [] → Counted all left size → size ≡ length all
counted_ended e r = omega (arith, r.total, ap length e)

-- ---- writing

-- a part was written into `out` at a place, which gave `out'` and the place after it
abbrev pub Stored : List ℕ → List ℕ → ℕ → List ℕ → ℕ → Type 0
Stored part out at out' next = (next ≡ at + length part) × (out' ≡ sets out at part)

-- of `all`, to be written into `out₀` from `at` on, `left` is still to be written into `out` from `next` on
pub record Put (all out₀ : List ℕ) (at : ℕ) (left out : List ℕ) (next : ℕ) : Type 0 where
  pub bytes : sets out next left ≡ sets out₀ at all
  pub place : next + length left ≡ at + length all
  pub same : length out ≡ length out₀

pub put_begun : {all left out : List ℕ} {at : ℕ} → left ≡ all → Put all out at left out at
put_begun e = rw e (record { bytes = refl; place = refl; same = refl })

-- there is room for the next part
pub put_room : {all out₀ left out part rest : List ℕ} {at next : ℕ} → Parts left part rest → at + length all ≤ length out₀
    → Put all out₀ at left out next → next + length part ≤ length out
put_room p h r = omega (arith, r.place, r.same, long p)

-- it is written
pub put_more : {all out₀ left out part rest out' : List ℕ} {at next next' : ℕ} → Parts left part rest
    → Stored part out next out' next'
    → Put all out₀ at left out next → Put all out₀ at rest out' next'
put_more {all} {out₀} {left} {out} {part} {rest} {out'} {at} {next} {next'} p w r =
    record {
      bytes = rw (w.0, w.1) (sets_append part rest out next ∙ ap (sets out next) (sym p.split) ∙ r.bytes);
      place = omega (arith, w.0, r.place, long p);
      same = ap length w.1 ∙ length-sets out next part ∙ r.same;
    }

pub put_ended : {all out₀ left out : List ℕ} {at next : ℕ} → left ≡ [] → Put all out₀ at left out next
    → Stored all out₀ at out next
put_ended e r = (omega (arith, r.place, ap length e), rw e at r.bytes)

-- ---- two parts and nothing else

module _ {all a b : List ℕ} (out : List ℕ) (at : ℕ) (p : Parts all a b) where
  pub first_room : at + length all ≤ length out → at + length a ≤ length out
  first_room h = omega (arith, long p)

  pub second_room : {out' : List ℕ} {next : ℕ} → at + length all ≤ length out → Stored a out at out' next → next + length b ≤ length out'
  second_room h w = omega (arith, long p, w.0, ap length w.1, length-sets out at a)

  pub both_put : {out' out'' : List ℕ} {next end : ℕ} → Stored a out at out' next → Stored b out' next out'' end → Stored all out at out'' end
  both_put v w =
      (omega (arith, long p, v.0, w.0), w.1 ∙ rw (v.0, v.1) (sets_append a b out at ∙ ap (sets out at) (sym p.split)))
