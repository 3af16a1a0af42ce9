-- Numbers one after another, for every list, place, number of groups and limit.
-- Assumes nothing.
use Rattle.std.specs.Prelude.{Option, Some, None}
use mathlib.Core.Path.{◌≡◌, refl, sym, ap, ◌∙◌}
use mathlib.Core.List.{List, [], ◌∷◌, ◌++◌, append-nil, append_assoc}
use Prim.Native.Nat.{ℕ, zero, suc, ◌+◌, ◌-◌, ◌*◌, ◌^◌, ◌≤◌, ◌<◌}
use native.Mathlib.Nat.{add-zero, mul-suc}
use native.Mathlib.Omega.{arith}
use lib.ListN.{length, drop, get_or, length-append}
use lib.Seq.{drop-drop, drop-append_seam}
use lib.Dec.{T}
use lib.Pow.{are_bytes}
use Rattle.varint.specs.Number.{encode, read_number}
use Rattle.varint.specs.Sequence.{encode_all, Numbers, scan, numbers_at}
use Rattle.varint.proofs.Bytes.{bytes_append}
use Rattle.varint.proofs.Encode.{encode_size, encode_bytes}
use Rattle.varint.proofs.Reading.{read_next, read_past, read_encode, encode_read, encode_next}

-- ---- the equations of the scan

-- a number in front of what is found after it
abbrev front : ℕ → Numbers → Numbers
front v r = record { found = v ∷ r.found; stop = r.stop }

scan_none : (g l fuel : ℕ) (s : List ℕ) (at : ℕ) → read_number g l s at ≡ None → scan g l fuel s at ≡ record { found = []; stop = at }
unfolding scan
scan_none g l zero s at e = refl
scan_none g l (suc fuel) s at e = rw (e, scan)

scan_more : (g l fuel : ℕ) (s : List ℕ) (at v next : ℕ) → read_number g l s at ≡ Some (v, next)
    → scan g l (suc fuel) s at ≡ front v (scan g l fuel s next)
unfolding scan
scan_more g l fuel s at v next e = rw (e, scan)

-- any fuel that reaches the end serves
scan_fuel : (g l fuel more : ℕ) (s : List ℕ) (at : ℕ) → length s ≤ at + fuel → length s ≤ at + more
    → scan g l fuel s at ≡ scan g l more s at
scan_fuel g l zero more s at h k =
    let p : read_number g l s at ≡ None = read_past g l s at (omega arith) in
    rw (scan_none g l zero s at p, scan_none g l more s at p)
scan_fuel g l (suc fuel) zero s at h k =
    let p : read_number g l s at ≡ None = read_past g l s at (omega arith) in
    rw (scan_none g l zero s at p, scan_none g l (suc fuel) s at p)
scan_fuel g l (suc fuel) (suc more) s at h k = go (read_number g l s at) refl (λ n. scan_fuel g l fuel more s n)
  where
    go : (r : Option (ℕ × ℕ)) → read_number g l s at ≡ r
        → ((n : ℕ) → length s ≤ n + fuel → length s ≤ n + more → scan g l fuel s n ≡ scan g l more s n)
        → scan g l (suc fuel) s at ≡ scan g l (suc more) s at
    go None e ih = rw (scan_none g l (suc fuel) s at e, scan_none g l (suc more) s at e)
    go (Some (v, next)) e ih =
        let n = read_next g l s at v next e in
        rw (scan_more g l fuel s at v next e, scan_more g l more s at v next e, ih next (omega arith) (omega arith))

-- where no number stands, none is found
pub numbers_none : (g l : ℕ) (s : List ℕ) (at : ℕ) → read_number g l s at ≡ None
    → numbers_at g l s at ≡ record { found = []; stop = at }
unfolding numbers_at
numbers_none g l s at e = scan_none g l (length s - at) s at e

-- where a number stands, it is found, and then what is found after it
pub numbers_more : (g l : ℕ) (s : List ℕ) (at v next : ℕ) → read_number g l s at ≡ Some (v, next)
    → numbers_at g l s at ≡ record { found = v ∷ (numbers_at g l s next).found; stop = (numbers_at g l s next).stop }
unfolding numbers_at
numbers_more g l s at v next e =
    let n = read_next g l s at v next e in
    let f : length s - at ≡ suc (length s - at - 1) = omega arith in
    rw (f, scan_more g l (length s - at - 1) s at v next e, scan_fuel g l (length s - at - 1) (length s - next) s next (omega arith) (omega arith))

-- ---- what holds of the numbers found

-- it holds where no number stands, and it goes back from the place after a number to the number's place
numbers_induction : (g l : ℕ) (s : List ℕ) (P : ℕ → Numbers → Type 0)
    → ((at : ℕ) → read_number g l s at ≡ None → P at (record { found = []; stop = at }))
    → ((at v next : ℕ) (r : Numbers) → read_number g l s at ≡ Some (v, next) → P next r → P at (front v r))
    → (fuel at : ℕ) → length s ≤ at + fuel → P at (numbers_at g l s at)
numbers_induction g l s P none more zero at h =
    let e : read_number g l s at ≡ None = read_past g l s at (omega arith) in rw (numbers_none g l s at e) (none at e)
numbers_induction g l s P none more (suc fuel) at h =
    go (read_number g l s at) refl (λ n. numbers_induction g l s P none more fuel n)
  where
    go : (r : Option (ℕ × ℕ)) → read_number g l s at ≡ r → ((n : ℕ) → length s ≤ n + fuel → P n (numbers_at g l s n)) → P at (numbers_at g l s at)
    go None e ih = rw (numbers_none g l s at e) (none at e)
    go (Some (v, next)) e ih =
        let n = read_next g l s at v next e in
        rw (numbers_more g l s at v next e) (more at v next (numbers_at g l s next) e (ih next (omega arith)))

-- the numbers found, written again, are the bytes up to where they stop
pub encode_all_scan : (g l : ℕ) (s : List ℕ) (at : ℕ) → T (are_bytes s)
    → drop at s ≡ encode_all (numbers_at g l s at).found ++ drop (numbers_at g l s at).stop s
unfolding encode_all
encode_all_scan g l s at t =
    let P : ℕ → Numbers → Type 0 = λ a r. drop a s ≡ encode_all r.found ++ drop r.stop s in
    numbers_induction g l s P (λ a e. refl)
    (λ a v next r e ih.
    encode_read g l s a v next t e ∙ ap (λ (w : List ℕ). encode v ++ w) ih ∙ sym (append_assoc (encode v) (encode_all r.found) (drop r.stop s)))
    (length s) at (omega arith)

-- and they stop right after those bytes
pub scan_stop : (g l : ℕ) (s : List ℕ) (at : ℕ) → T (are_bytes s) → (numbers_at g l s at).stop ≡ at + length (encode_all (numbers_at g l s at).found)
unfolding encode_all
scan_stop g l s at t =
    let P : ℕ → Numbers → Type 0 = λ a r. r.stop ≡ a + length (encode_all r.found) in
    numbers_induction g l s P (λ a e. omega arith)
    (λ a v next r e ih.
    let n : next ≡ a + length (encode v) = encode_next g l s a v next t e in
    rw (length-append (encode v) (encode_all r.found)) (omega arith))
    (length s) at (omega arith)

-- ---- numbers written one after another

-- two lists written one after the other
pub encode_all_append : (a b : List ℕ) → encode_all (a ++ b) ≡ encode_all a ++ encode_all b
unfolding encode_all
encode_all_append [] b = refl
encode_all_append (n ∷ a) b = rw (encode_all_append a b) (sym (append_assoc (encode n) (encode_all a) (encode_all b)))

-- numbers below 128 ^ g take at most g bytes each
pub encode_all_size : (g : ℕ) (ns : List ℕ) → 1 ≤ g → ((i : ℕ) → i < length ns → get_or ns i 0 < 128 ^ g)
    → length (encode_all ns) ≤ g * length ns
unfolding encode_all
encode_all_size g [] h k = omega arith
encode_all_size g (n ∷ ns) h k =
    let a : length (encode n) ≤ g = encode_size g n h (k 0 (omega arith)) in
    let b : length (encode_all ns) ≤ g * length ns = encode_all_size g ns h (λ i m. k (suc i) (omega arith)) in
    rw (length-append (encode n) (encode_all ns), mul-suc g (length ns)) (omega arith)

-- where numbers were written, they are found, and then what is found after them
pub numbers_encode_all : (g l : ℕ) (ns s : List ℕ) (at : ℕ) (rest : List ℕ) → 1 ≤ g → l < 128 ^ g
    → ((i : ℕ) → i < length ns → get_or ns i 0 ≤ l) → drop at s ≡ encode_all ns ++ rest
    → numbers_at g l s at
    ≡ record {
      found = ns ++ (numbers_at g l s (at + length (encode_all ns))).found;
      stop = (numbers_at g l s (at + length (encode_all ns))).stop;
    }
unfolding encode_all
numbers_encode_all g l [] s at rest h k f e = rw (add-zero at)
numbers_encode_all g l (n ∷ ns) s at rest h k f e =
    let next : ℕ = at + length (encode n) in
    let small : n ≤ l = f 0 (omega arith) in
    let d : drop at s ≡ encode n ++ (encode_all ns ++ rest) = e ∙ append_assoc (encode n) (encode_all ns) rest in
    let r : read_number g l s at ≡ Some (n, next) = read_encode g l n s at (encode_all ns ++ rest) h (omega arith) small d in
    let after_it : drop next s ≡ encode_all ns ++ rest
    = sym (drop-drop (length (encode n)) at s) ∙ ap (drop (length (encode n))) d ∙ drop-append_seam (encode n) (encode_all ns ++ rest) in
    let ih = numbers_encode_all g l ns s next rest h k (λ i m. f (suc i) (omega arith)) after_it in
    let place : at + length (encode n ++ encode_all ns) ≡ next + length (encode_all ns) = omega (arith, length-append (encode n) (encode_all ns)) in
    rw (place, numbers_more g l s at n next r) (ap (front n) ih)

-- numbers written and read: just they are found, and nothing is left
pub scan_encode_all : (g l : ℕ) (ns : List ℕ) → 1 ≤ g → l < 128 ^ g → ((i : ℕ) → i < length ns → get_or ns i 0 ≤ l)
    → numbers_at g l (encode_all ns) 0 ≡ record { found = ns; stop = length (encode_all ns) }
scan_encode_all g l ns h k f =
    let s : List ℕ = encode_all ns in
    let past : numbers_at g l s (length s) ≡ record { found = []; stop = length s }
    = numbers_none g l s (length s) (read_past g l s (length s) (omega arith)) in
    let z : 0 + length s ≡ length s = omega arith in
    (rw (z, past, append-nil ns) at (numbers_encode_all g l ns s 0 [] h k f (sym (append-nil s))))

-- what is written is bytes
pub encode_all_bytes : (ns : List ℕ) → T (are_bytes (encode_all ns))
unfolding encode_all
encode_all_bytes [] = tt
encode_all_bytes (n ∷ ns) = bytes_append (encode n) (encode_all ns) (encode_bytes n) (encode_all_bytes ns)
