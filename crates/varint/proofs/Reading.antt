-- Reading a number at a place, for every list of bytes, place, number of groups and limit.
-- Assumes nothing.
use Rattle.std.specs.Prelude.{Option, Some, None}
use mathlib.Core.Bool.{Bool, true, false, true≢false}
use mathlib.Core.Path.{◌≡◌, refl, sym, ap, ◌∙◌}
use mathlib.Core.List.{List, [], ◌∷◌, ◌++◌, append-nil}
use Prim.Native.Nat.{ℕ, zero, suc, ◌+◌, ◌-◌, ◌*◌, ◌^◌, ◌/◌, ◌%◌, ◌≤◌, ◌<◌}
use native.Mathlib.Nat.{pow-suc}
use native.Mathlib.Decide.{dec_lt, dec_le}
use native.Mathlib.Omega.{arith}
use borrow.Author.Tests.{lt-ltb, le-ltb, le-leb, lt-leb}
use lib.ListN.{length, drop, get_or, length-append, length-drop, drop_of_length-le}
use lib.Seq.{drop-cons, drop-drop, drop-length}
use lib.Dec.{T}
use lib.Pow.{are_bytes}
use Rattle.varint.specs.Number.{encode, above, last_group, at_most, read_groups, read_number}
use Rattle.varint.proofs.Bytes.{bytes_head, bytes_tail, bytes_drop}
use Rattle.varint.proofs.Encode.{encode_last, encode_more}

-- ---- the equations of the reader

-- no byte, no number
pub groups_none : (g : ℕ) (first : Bool) (at : ℕ) → read_groups g first [] at ≡ None
unfolding read_groups
groups_none zero first at = refl
groups_none (suc g) first at = refl

-- a byte below 128 is the last group
pub groups_last : (g : ℕ) (first : Bool) (b : ℕ) (s : List ℕ) (at : ℕ) → b < 128
    → read_groups (suc g) first (b ∷ s) at ≡ last_group first b (at + 1)
unfolding read_groups
groups_last g first b s at h = rw (lt-ltb b 128 h, read_groups)

-- a byte from 128 up is a group that others follow
pub groups_more : (g : ℕ) (first : Bool) (b : ℕ) (s : List ℕ) (at : ℕ) → 128 ≤ b
    → read_groups (suc g) first (b ∷ s) at ≡ above (b - 128) (read_groups g false s (at + 1))
unfolding read_groups
groups_more g first b s at h = rw (le-ltb b 128 h, read_groups)

-- a last group that is not a zero after others
pub last_some : (first : Bool) (b next : ℕ) → (first ≡ false → 1 ≤ b) → last_group first b next ≡ Some (b, next)
last_some true b next h = refl
last_some false zero next h = let k : 1 ≤ 0 = h refl in absurd (omega arith)
last_some false (suc b) next h = refl

-- the limit itself is allowed
pub at_most_in : (l v next : ℕ) → v ≤ l → at_most l (Some (v, next)) ≡ Some (v, next)
at_most_in l v next h = rw (le-leb v l h, at_most)

pub at_most_over : (l v next : ℕ) → l < v → at_most l (Some (v, next)) ≡ None
at_most_over l v next h = rw (lt-leb v l h, at_most)

-- ---- what a number that was read says of the steps that read it

-- two answers that are the same hold the same number and the same place
pub same_number : {v next w n : ℕ} → ◌≡◌ {A = Option (ℕ × ℕ)} (Some (w, n)) (Some (v, next)) → (w ≡ v) × (n ≡ next)
same_number {v} {next} {w} {n} e =
    let pair : ◌≡◌ {A = ℕ × ℕ} (w, n) (v, next) = cc in (ap (λ (p : ℕ × ℕ). p.0) pair, ap (λ (p : ℕ × ℕ). p.1) pair)

-- the last group, when a number was read
record Last (first : Bool) (b v : ℕ) : Type 0 where
  same : b ≡ v
  some : first ≡ false → 1 ≤ v

last_number : (first : Bool) (b p v next : ℕ) → last_group first b p ≡ Some (v, next) → Last first b v × (p ≡ next)
last_number true b p v next e = let q = same_number e in (record { same = q.0; some = λ k. absurd (true≢false k) }, q.1)
last_number false zero p v next e = let z : ◌≡◌ {A = ℕ} 0 1 = cc in absurd (omega arith)
last_number false (suc b) p v next e =
    let q = same_number e in
    let same : suc b ≡ v = q.0 in (record { same = same; some = λ k. omega arith }, q.1)

-- the groups above a group
record Rest (low v next : ℕ) (r : Option (ℕ × ℕ)) : Type 0 where
  high : ℕ
  read : r ≡ Some (high, next)
  sum : v ≡ low + high * 128

above_number : (low : ℕ) (r : Option (ℕ × ℕ)) (v next : ℕ) → above low r ≡ Some (v, next) → Rest low v next r
above_number low None v next e = let z : ◌≡◌ {A = ℕ} 0 1 = cc in absurd (omega arith)
above_number low (Some (high, n)) v next e =
    let q = same_number e in record { high = high; read = ap (λ (p : ℕ). Some (high, p)) q.1; sum = sym q.0 }

at_most_number : (l : ℕ) (r : Option (ℕ × ℕ)) (v next : ℕ) → at_most l r ≡ Some (v, next) → (r ≡ Some (v, next)) × (v ≤ l)
at_most_number l None v next e = let z : ◌≡◌ {A = ℕ} 0 1 = cc in absurd (omega arith)
at_most_number l (Some (w, n)) v next e =
    elim (dec_le w l) [
      | yes h ↦
          let f : Some (w, n) ≡ Some (v, next) = sym (at_most_in l w n h) ∙ e in
          let q : w ≡ v = (same_number f).0 in (f, omega arith)
      | no h ↦
          let f : ◌≡◌ {A = Option (ℕ × ℕ)} None (Some (v, next)) = sym (at_most_over l w n (omega arith)) ∙ e in
          let z : ◌≡◌ {A = ℕ} 0 1 = cc in absurd (omega arith)
    ]

-- ---- the place after a number

-- what a number that was read says of the place after it, and of itself where groups went before
record Read (first : Bool) (s : List ℕ) (at v next : ℕ) : Type 0 where
  ahead : at < next
  within : next ≤ at + length s
  some : first ≡ false → 1 ≤ v

groups_read : (g : ℕ) (first : Bool) (s : List ℕ) (at v next : ℕ) → read_groups g first s at ≡ Some (v, next) → Read first s at v next
unfolding read_groups
groups_read zero first s at v next e = let z : ◌≡◌ {A = ℕ} 0 1 = cc in absurd (omega arith)
groups_read (suc g) first [] at v next e = let z : ◌≡◌ {A = ℕ} 0 1 = cc in absurd (omega arith)
groups_read (suc g) first (b ∷ s) at v next e =
    elim (dec_lt b 128) [
      | yes h ↦
          let d = last_number first b (at + 1) v next (sym (groups_last g first b s at h) ∙ e) in
          record { ahead = omega arith; within = omega arith; some = d.0.some }
      | no h ↦
          let d = above_number (b - 128) (read_groups g false s (at + 1)) v next (sym (groups_more g first b s at (omega arith)) ∙ e) in
          let ih = groups_read g false s (at + 1) d.high next d.read in
          let k : 1 ≤ d.high = ih.some refl in
          record { ahead = omega arith; within = omega arith; some = λ _. omega arith }
    ]

-- the place after a number is further on and within the bytes, and the number is at most the limit
pub read_next : (g l : ℕ) (s : List ℕ) (at v next : ℕ) → read_number g l s at ≡ Some (v, next)
    → (at < next) × (next ≤ length s) × (v ≤ l)
unfolding read_number
read_next g l s at v next e =
    let d = at_most_number l (read_groups g true (drop at s) at) v next e in
    let r = groups_read g true (drop at s) at v next d.0 in
    (r.ahead, omega (arith, r.ahead, r.within, length-drop at s), d.1)

-- a number below 128 is its one byte
one_group : (g b : ℕ) (s : List ℕ) (at v next : ℕ) → read_groups g true (b ∷ s) at ≡ Some (v, next) → v < 128 → (b ≡ v) × (next ≡ at + 1)
unfolding read_groups
one_group zero b s at v next e small = let z : ◌≡◌ {A = ℕ} 0 1 = cc in absurd (omega arith)
one_group (suc g) b s at v next e small =
    elim (dec_lt b 128) [
      | yes h ↦ let d = last_number true b (at + 1) v next (sym (groups_last g true b s at h) ∙ e) in (d.0.same, sym d.1)
      | no h ↦
          let d = above_number (b - 128) (read_groups g false s (at + 1)) v next (sym (groups_more g true b s at (omega arith)) ∙ e) in
          let k : 1 ≤ d.high = (groups_read g false s (at + 1) d.high next d.read).some refl in
          absurd (omega (arith, d.sum))
    ]

pub read_small : (g l : ℕ) (s : List ℕ) (at v next : ℕ) → read_number g l s at ≡ Some (v, next) → v < 128
    → (get_or s at 0 ≡ v) × (next ≡ at + 1)
unfolding read_number
read_small g l s at v next e small =
    let n = read_next g l s at v next e in
    let d = at_most_number l (read_groups g true (drop at s) at) v next e in
    one_group g (get_or s at 0) (drop (suc at) s) at v next (rw (drop-cons s at 0 (omega (arith, n.0, n.1))) at d.0) small

-- no number stands at or past the end
pub read_past : (g l : ℕ) (s : List ℕ) (at : ℕ) → length s ≤ at → read_number g l s at ≡ None
unfolding read_number
read_past g l s at h = rw (drop_of_length-le s {i = at} h, groups_none g true at)

-- ---- reading what was written

groups_encode : (g n : ℕ) (first : Bool) (rest : List ℕ) (at : ℕ) → 1 ≤ g → n < 128 ^ g → (first ≡ false → 1 ≤ n)
    → read_groups g first (encode n ++ rest) at ≡ Some (n, at + length (encode n))
groups_encode zero n first rest at h k f = absurd (omega arith)
groups_encode (suc zero) n first rest at h k f =
    rw (encode_last n k, groups_last 0 first n rest at k, last_some first n (at + 1) f)
groups_encode (suc (suc g)) n first rest at h k f =
    elim (dec_lt n 128) [
      | yes l ↦ rw (encode_last n l, groups_last (suc g) first n rest at l, last_some first n (at + 1) f)
      | no l ↦
          let m : 128 ≤ n = omega arith in
          let p : n < 128 ^ suc g * 128 = rw (pow-suc 128 (suc g)) at k in
          let q : n / 128 < 128 ^ suc g = omega arith in
          let ih : read_groups (suc g) false (encode (n / 128) ++ rest) (at + 1) ≡ Some (n / 128, at + 1 + length (encode (n / 128)))
          = groups_encode (suc g) (n / 128) false rest (at + 1) (omega arith) q (λ _. omega arith) in
          let top : 128 ≤ n % 128 + 128 = omega arith in
          let v : n % 128 + 128 - 128 + n / 128 * 128 ≡ n = omega arith in
          let e : at + 1 + length (encode (n / 128)) ≡ at + suc (length (encode (n / 128))) = omega arith in
          rw (encode_more n m, groups_more (suc g) first (n % 128 + 128) (encode (n / 128) ++ rest) at top, ih, v, e)
    ]

-- reading what was written gives the number and the place after it
pub read_encode : (g l n : ℕ) (s : List ℕ) (at : ℕ) (rest : List ℕ) → 1 ≤ g → n < 128 ^ g → n ≤ l → drop at s ≡ encode n ++ rest
    → read_number g l s at ≡ Some (n, at + length (encode n))
unfolding read_number
read_encode g l n s at rest h k m e =
    rw (e, groups_encode g n true rest at h k (λ p. absurd (true≢false p)), at_most_in l n (at + length (encode n)) m)

-- ---- what was read, written again

encode_groups : (g : ℕ) (first : Bool) (s : List ℕ) (at v next : ℕ) → T (are_bytes s) → read_groups g first s at ≡ Some (v, next)
    → s ≡ encode v ++ drop (next - at) s
unfolding read_groups
encode_groups zero first s at v next t e = let z : ◌≡◌ {A = ℕ} 0 1 = cc in absurd (omega arith)
encode_groups (suc g) first [] at v next t e = let z : ◌≡◌ {A = ℕ} 0 1 = cc in absurd (omega arith)
encode_groups (suc g) first (b ∷ s) at v next t e =
    elim (dec_lt b 128) [
      | yes h ↦
          let d = last_number first b (at + 1) v next (sym (groups_last g first b s at h) ∙ e) in
          let n : next - at ≡ 1 = omega arith in
          rw (n, ← d.0.same, encode_last b h)
      | no h ↦
          let d = above_number (b - 128) (read_groups g false s (at + 1)) v next (sym (groups_more g first b s at (omega arith)) ∙ e) in
          let r = groups_read g false s (at + 1) d.high next d.read in
          let k : 1 ≤ d.high = r.some refl in
          let ih : s ≡ encode d.high ++ drop (next - (at + 1)) s
          = encode_groups g false s (at + 1) d.high next (bytes_tail b s t) d.read in
          let small : b < 256 = bytes_head b s t in
          let n : next - at ≡ suc (next - (at + 1)) = omega arith in
          let low : v % 128 + 128 ≡ b = omega arith in
          let up : v / 128 ≡ d.high = omega arith in
          rw (n, encode_more v (omega arith), low, up) (ap (λ (w : List ℕ). b ∷ w) ih)
    ]

-- what was read, written again, is the bytes that were read
pub encode_read : (g l : ℕ) (s : List ℕ) (at v next : ℕ) → T (are_bytes s) → read_number g l s at ≡ Some (v, next)
    → drop at s ≡ encode v ++ drop next s
unfolding read_number
encode_read g l s at v next t e =
    let d = at_most_number l (read_groups g true (drop at s) at) v next e in
    let r = groups_read g true (drop at s) at v next d.0 in
    let n : at + (next - at) ≡ next = omega (arith, r.ahead) in
    rw (drop-drop (next - at) at s, n) at (encode_groups g true (drop at s) at v next (bytes_drop at s t) d.0)

-- the place after the number is right after its bytes
pub encode_next : (g l : ℕ) (s : List ℕ) (at v next : ℕ) → T (are_bytes s) → read_number g l s at ≡ Some (v, next)
    → next ≡ at + length (encode v)
encode_next g l s at v next t e =
    let n = read_next g l s at v next e in
    let d = simp (length-append, length-drop) at (ap length (encode_read g l s at v next t e)) in
    omega arith

-- a number has exactly one form: two lists of bytes that are both read whole as it are the same
pub one_form : (g l h m : ℕ) (a b : List ℕ) (v : ℕ) → T (are_bytes a) → T (are_bytes b)
    → read_number g l a 0 ≡ Some (v, length a) → read_number h m b 0 ≡ Some (v, length b) → a ≡ b
one_form g l h m a b v ta tb ea eb =
    let p : a ≡ encode v = encode_read g l a 0 v (length a) ta ea ∙ rw (drop-length a) (append-nil (encode v)) in
    let q : b ≡ encode v = encode_read h m b 0 v (length b) tb eb ∙ rw (drop-length b) (append-nil (encode v)) in
    p ∙ sym q
