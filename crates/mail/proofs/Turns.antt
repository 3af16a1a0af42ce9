-- Bytes in parts, one for each of sixteen processes, or three: the parts measured, and written one after another.
use mathlib.Core.Path.{◌≡◌, refl, sym, ap, subst, ◌∙◌}
use mathlib.Core.List.{List, [], ◌++◌, append-nil, append_assoc}
use Prim.Native.Nat.{ℕ, zero, suc, ◌+◌, ◌-◌, ◌*◌, ◌≤◌, ◌<◌}
use native.Mathlib.Nat.{zero-add, mul-suc}
use native.Mathlib.Numerals.{add-one}
use native.Mathlib.Omega.{arith}
use lib.ListN.{length, take, drop, length-append, length-drop, drop_of_length-le}
use lib.Seq.{sets, length-sets, sets-eq, take_all, drop-drop}
use Rattle.lists.proofs.Stores.{sets_append}

-- the bytes of the first k processes, and those of each
pub record Parts (up_to part : ℕ → List ℕ) : Type 0 where
  pub none : up_to 0 ≡ []
  pub more : (k : ℕ) → up_to (k + 1) ≡ up_to k ++ part k

module _ {up_to part : ℕ → List ℕ} (parts : Parts up_to part) where
  long_more : (k : ℕ) → length (up_to (k + 1)) ≡ length (up_to k) + length (part k)
  long_more k = ap length (parts.more k) ∙ length-append (up_to k) (part k)

  long_grows : (k further : ℕ) → length (up_to k) ≤ length (up_to (k + further))
  long_grows k zero = let e : k + 0 ≡ k = omega arith in rw e (omega arith)
  long_grows k (suc further) =
      let e : k + suc further ≡ k + further + 1 = omega arith in
      rw e (omega (arith, long_grows k further, long_more (k + further)))

  -- the next part is within the whole
  long_within : (k : ℕ) → k < 16 → length (up_to k) + length (part k) ≤ length (up_to 16)
  long_within k h =
      let e : k + 1 + (15 - k) ≡ 16 = omega arith in
      let grown : length (up_to (k + 1)) ≤ length (up_to 16) = rw e at (long_grows (k + 1) (15 - k)) in
      omega (arith, grown, long_more k)

-- ---- measuring

-- the parts of the first k processes are measured, each at most `most` bytes long
pub record Measured (most : ℕ) (up_to : ℕ → List ℕ) (k size : ℕ) : Type 0 where
  pub within : k ≤ 16
  pub few : size ≤ most * k
  pub so_far : size ≡ length (up_to k)

module _ {up_to part : ℕ → List ℕ} (parts : Parts up_to part) (most : ℕ) where
  pub measured_none : Measured most up_to 0 0
  measured_none = record { within = omega arith; few = omega arith; so_far = sym (ap length parts.none) }

  pub measured_more : {k size n : ℕ} → Measured most up_to k size → k < 16 → n ≡ length (part k) → n ≤ most
      → Measured most up_to (k + 1) (size + n)
  measured_more {k} {size} {n} m h e f =
      let product : most * (k + 1) ≡ most * k + most = rw (add-one k) (mul-suc most k) in
      record {
        within = omega arith;
        few = omega (arith, m.few, product);
        so_far = omega (arith, m.so_far, long_more parts k);
      }

  pub measured_all : {k size : ℕ} → Measured most up_to k size → 16 ≤ k → (size ≡ length (up_to 16)) × (size ≤ most * 16)
  measured_all {k} {size} m h =
      let e : k ≡ 16 = omega (arith, m.within) in
      (m.so_far ∙ ap (λ (i : ℕ). length (up_to i)) e, subst (λ (i : ℕ). size ≤ most * i) e m.few)

-- ---- writing

-- bytes were written into `out` at a place, which gave `out'` and the place after them
abbrev pub Stored : List ℕ → List ℕ → ℕ → List ℕ → ℕ → Type 0
Stored bytes out at out' next = (next ≡ at + length bytes) × (out' ≡ sets out at bytes)

pub stored_none : (out : List ℕ) (at : ℕ) → Stored [] out at out at
stored_none out at = (omega arith, refl)

-- the buffer is as long as before
pub stored_long : (bytes out : List ℕ) (at : ℕ) {out' : List ℕ} {next : ℕ} → Stored bytes out at out' next → length out' ≡ length out
stored_long bytes out at w = ap length w.1 ∙ length-sets out at bytes

-- what is written in turn is written as one
pub stored_more : (a b out : List ℕ) (at : ℕ) {out' out'' : List ℕ} {next end : ℕ} → Stored a out at out' next
    → Stored b out' next out'' end → Stored (a ++ b) out at out'' end
stored_more a b out at v w =
    (omega (arith, v.0, w.0, length-append a b), w.1 ∙ rw (v.0, v.1) (sets_append a b out at))

-- three parts and nothing else
pub record Three (whole a b c : List ℕ) : Type 0 where
  pub split : whole ≡ a ++ (b ++ c)

pub three_long : {whole a b c : List ℕ} → Three whole a b c → length whole ≡ length a + length b + length c
three_long {whole} {a} {b} {c} three = ap length three.split ∙ (length-append a (b ++ c) ∙ omega (arith, length-append b c))

-- there is room for each in turn, and together they are the whole
module _ {whole a b c : List ℕ} (three : Three whole a b c) (out : List ℕ) (at : ℕ) where
  pub first_room : at + length whole ≤ length out → at + length a ≤ length out
  first_room h = omega (arith, three_long three)

  pub second_room : {out' : List ℕ} {next : ℕ} → at + length whole ≤ length out → Stored a out at out' next → next + length b ≤ length out'
  second_room h v = omega (arith, three_long three, v.0, stored_long a out at v)

  pub third_room : {out' out'' : List ℕ} {next next' : ℕ} → at + length whole ≤ length out → Stored a out at out' next
      → Stored b out' next out'' next' → next' + length c ≤ length out''
  third_room {out'} {out''} {next} h v w =
      omega (arith, three_long three, v.0, w.0, stored_long a out at v, stored_long b out' next w)

  pub all_stored : {out' out'' out''' : List ℕ} {next next' end : ℕ} → Stored a out at out' next → Stored b out' next out'' next'
      → Stored c out'' next' out''' end → Stored whole out at out''' end
  all_stored {out'} {out''} {out'''} {next} {next'} {end} v w x =
      subst (λ (l : List ℕ). Stored l out at out''' end) (sym three.split) (stored_more a (b ++ c) out at v (stored_more b c out' next w x))

-- the part of a buffer from a place on has room for what the buffer has room for there; with the bytes written at the
-- start of the part, the buffer has them at the place
module _ (bytes out : List ℕ) (at : ℕ) (h : at + length bytes ≤ length out) where
  part_whole : take (length out - at) (drop at out) ≡ drop at out
  part_whole = take_all (length out - at) (drop at out) (omega (arith, length-drop at out))

  pub part_room : length bytes ≤ length (take (length out - at) (drop at out))
  part_room = rw part_whole (omega (arith, length-drop at out))

  pub part_stored : {part : List ℕ} → part ≡ sets (take (length out - at) (drop at out)) 0 bytes
      → take at out ++ (part ++ drop (length out - at) (drop at out)) ≡ sets out at bytes
  part_stored w =
      let rest : List ℕ = drop at out in
      let none : drop (length out - at) rest ≡ [] =
      drop_of_length-le rest {i = length out - at} (omega (arith, length-drop at out)) in
      let front : sets rest 0 bytes ≡ bytes ++ drop (length bytes) rest =
      rw (zero-add (length bytes)) at (sets-eq bytes rest 0 (omega (arith, length-drop at out))) in
      let behind : drop (length bytes) rest ≡ drop (at + length bytes) out = drop-drop (length bytes) at out in
      rw (w, part_whole, none, append-nil, front, behind)
      (sym (sets-eq bytes out at h ∙ append_assoc (take at out) bytes (drop (at + length bytes) out)))

-- the parts of the first k processes are written
pub record Put (up_to : ℕ → List ℕ) (out₀ : List ℕ) (at k : ℕ) (out : List ℕ) (next : ℕ) : Type 0 where
  pub within : k ≤ 16
  pub done : Stored (up_to k) out₀ at out next
  pub same : length out ≡ length out₀

-- by another name of the buffer and the place, as where branches meet
pub put_came : {up_to : ℕ → List ℕ} {out₀ out out' : List ℕ} {at k next next' : ℕ} → out' ≡ out → next' ≡ next
    → Put up_to out₀ at k out next → Put up_to out₀ at k out' next'
put_came e f put = rw (e, f) put

module _ {up_to part : ℕ → List ℕ} (parts : Parts up_to part) (out₀ : List ℕ) (at : ℕ) where
  pub put_none : Put up_to out₀ at 0 out₀ at
  put_none =
      record {
        within = omega arith;
        done = subst (λ (l : List ℕ). Stored l out₀ at out₀ at) (sym parts.none) (stored_none out₀ at);
        same = refl;
      }

  -- there is room for the next part
  pub put_room : {k next : ℕ} {out : List ℕ} → at + length (up_to 16) ≤ length out₀ → Put up_to out₀ at k out next → k < 16
      → next + length (part k) ≤ length out
  put_room {k} h put l = omega (arith, put.done.0, put.same, long_within parts k l)

  pub put_more : {k next next' : ℕ} {out out' : List ℕ} → Put up_to out₀ at k out next → k < 16 → Stored (part k) out next out' next'
      → Put up_to out₀ at (k + 1) out' next'
  put_more {k} {next} {next'} {out} {out'} put h w =
      record {
        within = omega arith;
        done =
            subst (λ (l : List ℕ). Stored l out₀ at out' next') (sym (parts.more k))
            (stored_more (up_to k) (part k) out₀ at put.done w);
        same = stored_long (part k) out next w ∙ put.same;
      }

  pub put_all : {k next : ℕ} {out : List ℕ} → Put up_to out₀ at k out next → 16 ≤ k → Stored (up_to 16) out₀ at out next
  put_all {k} {next} {out} put h =
      let e : k ≡ 16 = omega (arith, put.within) in
      subst (λ (i : ℕ). Stored (up_to i) out₀ at out next) e put.done
