-- A book as numbers, and the book that the numbers make.
use mathlib.Core.Path.{◌≡◌, refl, sym}
use mathlib.Core.List.{List, [], ◌∷◌, ◌++◌, append_assoc}
use Prim.Native.Nat.{ℕ, zero, suc, ◌+◌, ◌*◌, ◌≤◌, ◌<◌}
use native.Mathlib.Nat.{zero-mul}
use native.Mathlib.Omega.{arith}
use lib.ListN.{length, take, drop, get_or, length-append, length-drop}
use lib.Seq.{length-take-le, take-add, take_at, drop_at}
use Rattle.book.specs.Layout.{joined, numbers_of_processes, checkpoints_in, processes_in}
use Rattle.book.specs.Tables.{counts_of}
use Rattle.book.specs.View.{sum}

-- every checkpoint of a process, and of all processes, has w counters
abbrev pub Wide : ℕ → List (List ℕ) → Type 0
Wide w cs = (r : ℕ) → r < length cs → length (get_or cs r []) ≡ w

abbrev pub AllWide : ℕ → List (List (List ℕ)) → Type 0
AllWide w ps = (j r : ℕ) → j < length ps → r < length (get_or ps j []) → length (get_or (get_or ps j []) r []) ≡ w

-- ---- the checkpoints that numbers make

pub joined_in : (c w : ℕ) (vs : List ℕ) → joined (checkpoints_in c w vs) ≡ take (c * w) vs
unfolding checkpoints_in joined
joined_in zero w vs = rw (zero-mul w)
joined_in (suc c) w vs =
    let e : suc c * w ≡ w + c * w = omega arith in
    rw (joined_in c w (drop w vs), e) (sym (take-add w (c * w) vs))

pub wide_in : (c w : ℕ) (vs : List ℕ) → c * w ≤ length vs → Wide w (checkpoints_in c w vs)
unfolding checkpoints_in
wide_in zero w vs h r k = absurd (omega arith)
wide_in (suc c) w vs h zero k = length-take-le w vs (omega arith)
wide_in (suc c) w vs h (suc r) k = wide_in c w (drop w vs) (simp length-drop (omega arith)) r (omega arith)

-- ---- and back

pub length_joined : (w : ℕ) (cs : List (List ℕ)) → Wide w cs → length (joined cs) ≡ length cs * w
unfolding joined
length_joined w [] h = omega arith
length_joined w (c ∷ cs) h =
    let l : length c ≡ w = h 0 (omega arith) in
    let ih : length (joined cs) ≡ length cs * w = length_joined w cs (λ r k. h (suc r) (omega arith)) in
    rw (length-append c (joined cs)) (omega arith)

pub in_joined : (w : ℕ) (cs : List (List ℕ)) (rest : List ℕ) → Wide w cs → checkpoints_in (length cs) w (joined cs ++ rest) ≡ cs
unfolding checkpoints_in joined
in_joined w [] rest h = refl
in_joined w (c ∷ cs) rest h =
    let l : length c ≡ w = h 0 (omega arith) in
    rw (
      append_assoc c (joined cs) rest,
      take_at c (joined cs ++ rest) w l,
      drop_at c (joined cs ++ rest) w l,
      in_joined w cs rest (λ r k. h (suc r) (omega arith)),
    )

pub in_numbers : (w : ℕ) (ps : List (List (List ℕ))) → AllWide w ps → processes_in (length ps) w (numbers_of_processes ps) ≡ ps
unfolding processes_in numbers_of_processes
in_numbers w [] h = refl
in_numbers w (cs ∷ ps) h =
    let wide : Wide w cs = λ r k. h 0 r (omega arith) k in
    rw (
      in_joined w cs (numbers_of_processes ps) wide,
      drop_at (joined cs) (numbers_of_processes ps) (length cs * w) (length_joined w cs wide),
      in_numbers w ps (λ j r k m. h (suc j) r (omega arith) m),
    )

-- how many numbers: a count for each process, and w for each checkpoint
pub length_numbers : (w : ℕ) (ps : List (List (List ℕ))) → AllWide w ps
    → length (numbers_of_processes ps) ≡ length ps + sum (counts_of ps) * w
unfolding numbers_of_processes counts_of sum
length_numbers w [] h = omega arith
length_numbers w (cs ∷ ps) h =
    let l : length (joined cs) ≡ length cs * w = length_joined w cs (λ r k. h 0 r (omega arith) k) in
    let ih : length (numbers_of_processes ps) ≡ length ps + sum (counts_of ps) * w = length_numbers w ps (λ j r k m. h (suc j) r (omega arith) m) in
    rw (length-append (joined cs) (numbers_of_processes ps)) (omega arith)
