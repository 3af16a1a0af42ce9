-- A text that grows: what stands behind what, and a text that grew from nothing.
-- Assumes nothing.
use mathlib.Core.Path.{◌≡◌, sym, ap, ◌∙◌}
use mathlib.Core.List.{List, [], ◌∷◌, ◌++◌, append_assoc, append-nil}
use Prim.Native.Nat.{ℕ, ◌+◌, ◌≤◌, ◌<◌}
use native.Mathlib.Numerals.{add-one}
use native.Mathlib.Omega.{arith}
use lib.ListN.{length, take, set, get_or, length-append}
use lib.Seq.{take-suc-set, take_at, length-take-le}
use Rattle.book.specs.declared.Checkpoint.{Checkpoint}
use Rattle.line_text.specs.declared.growing.Text.{Text}
use Rattle.line_text.specs.Text.{spaced, labelled, checkpoint_numbers}
use Rattle.line_text.specs.Parts.{Grown, Holds}
use Rattle.line_text.proofs.Decimal.{row_most, numbers_most}

pub grown_none : (text : Text) → Grown text text []
grown_none text = record { first = sym (append-nil (take text.len text.bytes)); long = omega arith }

-- a byte, or bytes, stored behind it
pub grown_byte : (before after : Text) (b : ℕ) → after.bytes ≡ set before.bytes before.len b → after.len ≡ before.len + 1
    → before.len < length before.bytes → Grown before after (b ∷ [])
grown_byte before after b stored long h =
    record { first = rw (stored, long, add-one before.len) (take-suc-set before.bytes before.len b h); long = long }

pub grown_bytes : (before after : Text) (w rest : List ℕ) → after.bytes ≡ take before.len before.bytes ++ (w ++ rest)
    → after.len ≡ before.len + length w → before.len ≤ length before.bytes → Grown before after w
grown_bytes before after w rest stored long h =
    let old : List ℕ = take before.len before.bytes in
    record {
      first = rw (stored, long)
          (ap (take (before.len + length w)) (sym (append_assoc old w rest))
          ∙ take_at (old ++ w) rest _ (omega (arith, length-append old w, length-take-le before.len before.bytes h)));
      long = long;
    }

pub grown_more : {a b c : Text} {v w : List ℕ} → Grown a b v → Grown b c w → Grown a c (v ++ w)
grown_more {a} {b} {c} {v} {w} g h =
    record {
      first = h.first ∙ ap (λ (l : List ℕ). l ++ w) g.first ∙ append_assoc (take a.len a.bytes) v w;
      long = rw (length-append v w) (omega (arith, g.long, h.long));
    }

-- what grew from nothing
pub holds_grown : {a b : Text} {v : List ℕ} → a.len ≡ 0 → Grown a b v → Holds b v
holds_grown {a} {b} {v} e g =
    let l : b.len ≡ length v = omega (arith, g.long) in
    record { first = g.first ∙ rw e; long = l }

-- how long a text is at most with one line more
pub row_room : {a b : Text} (word : List ℕ) (n : ℕ) → Grown a b (labelled word n) → b.len ≤ a.len + length word + 22
row_room {a} {b} word n g = omega (arith, g.long, row_most word n)

-- ---- the loop

-- the checkpoint numbers of the first j processes are behind
pub record Listed (n : ℕ) (set : List Checkpoint) (text next : Text) (j : ℕ) : Type 0 where
  pub place : j ≤ n
  pub behind : Grown text next (checkpoint_numbers j set)

pub list_begun : (n : ℕ) (set : List Checkpoint) (text : Text) → Listed n set text text 0
unfolding checkpoint_numbers
list_begun n set text = record { place = omega arith; behind = grown_none text }

module _ {n : ℕ} {set : List Checkpoint} {text next : Text} {j : ℕ} (r : Listed n set text next j) where
  pub list_room : text.len ≤ 176 → n ≤ 16 → j < n → next.len ≤ 491
  list_room room small h = omega (arith, r.behind.long, numbers_most j set)

  pub list_more : {then : Text} → j < n → Grown next then (spaced (get_or set j (record { 0 = 0 })).0) → Listed n set text then (j + 1)
  unfolding checkpoint_numbers
  list_more h g = record { place = omega arith; behind = rw (add-one j) (grown_more r.behind g) }

  pub list_ended : n ≤ j → Grown text next (checkpoint_numbers n set)
  list_ended h = let e : j ≡ n = omega (arith, r.place) in rw e at r.behind
