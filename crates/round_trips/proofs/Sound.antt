-- Processes that pass questions 3 to 8, and the questions along their numbers.
use mathlib.Core.Path.{◌≡◌, refl, sym, ap, ◌∙◌}
use mathlib.Core.Bool.{Bool, true, false}
use mathlib.Core.List.{List, [], ◌∷◌, ◌++◌}
use Prim.Native.Nat.{ℕ, zero, suc, ◌+◌, ◌*◌, ◌≤◌}
use native.Mathlib.Omega.{arith}
use lib.ListN.{length, take, drop, replicate, length-replicate, take-append-drop}
use lib.Seq.{drop_at, length-take-le}
use Rattle.book.specs.Layout.{width, joined, numbers_of_processes, checkpoints_in, processes_in}
use Rattle.book.specs.Tables.{counts_of}
use Rattle.book.specs.Check.{counts_question, rows_question}
use Rattle.book.specs.InTurn.{◌then◌}
use Rattle.book.specs.Questions.{count_question, nothing_follows}
use Rattle.book.specs.Along.{process_question, processes_question}
use Rattle.book.proofs.Questions.{then_none, then_both, asked_yes}
use Rattle.book.proofs.Rows.{length_in}
use Rattle.round_trips.proofs.Numbers.{Wide, AllWide, joined_in, wide_in, length_joined}
use Rattle.book.proofs.Asked.{checkpoints_front, process_long}

-- one process, after others with `sum` checkpoints
pub record SoundOne (mark n sum : ℕ) (cs : List (List ℕ)) : Type 0 where
  pub count : count_question sum (length cs) ≡ 0
  pub wide : Wide (width n) cs
  pub asked : process_question mark n (length cs) (joined cs) ≡ 0

-- processes in order, after others with `sum` checkpoints
pub record Sound (mark n sum : ℕ) (ps : List (List (List ℕ))) : Type 0 where
  pub wide : AllWide (width n) ps
  pub counts : counts_question sum (counts_of ps) ≡ 0
  pub asked : rows_question mark n ps ≡ 0

pub sound_nil : (mark n sum : ℕ) → Sound mark n sum []
unfolding counts_question counts_of rows_question
sound_nil mark n sum = record { wide = λ j r h k. absurd (omega arith); counts = refl; asked = refl }

module _ (mark n sum : ℕ) (cs : List (List ℕ)) (ps : List (List (List ℕ))) where
  pub sound_cons : SoundOne mark n sum cs → Sound mark n (sum + length cs) ps → Sound mark n sum (cs ∷ ps)
  unfolding counts_question counts_of rows_question
  sound_cons one more =
      record {
        wide = wide;
        counts = then_both (count_question sum (length cs)) (λ _. counts_question (sum + length cs) (counts_of ps)) one.count more.counts;
        asked = then_both (process_question mark n (length cs) (joined cs)) (λ _. rows_question mark n ps) one.asked more.asked;
      }
    where
      wide : AllWide (width n) (cs ∷ ps)
      wide zero r h k = one.wide r k
      wide (suc j) r h k = more.wide j r (omega arith) k

  pub sound_head : Sound mark n sum (cs ∷ ps) → SoundOne mark n sum cs
  unfolding counts_question counts_of rows_question
  sound_head s =
      record {
        count = (then_none (count_question sum (length cs)) (λ _. counts_question (sum + length cs) (counts_of ps)) s.counts).0;
        wide = λ r h. s.wide 0 r (omega arith) h;
        asked = (then_none (process_question mark n (length cs) (joined cs)) (λ _. rows_question mark n ps) s.asked).0;
      }

  pub sound_tail : Sound mark n sum (cs ∷ ps) → Sound mark n (sum + length cs) ps
  unfolding counts_question counts_of rows_question
  sound_tail s =
      record {
        wide = λ j r h k. s.wide (suc j) r (omega arith) k;
        counts = (then_none (count_question sum (length cs)) (λ _. counts_question (sum + length cs) (counts_of ps)) s.counts).1;
        asked = (then_none (process_question mark n (length cs) (joined cs)) (λ _. rows_question mark n ps) s.asked).1;
      }

-- ---- along the numbers

-- the questions of one process among more numbers are those of its own
process_front : (mark n c : ℕ) (vs rest : List ℕ) → c * width n ≤ length vs
    → process_question mark n c (vs ++ rest) ≡ process_question mark n c vs
process_front mark n c vs rest h =
    checkpoints_front mark n true (replicate (width n) 0) c vs rest (length-replicate {A = ℕ} (width n) 0) h

-- what numbers that pass are: the numbers of the processes that they make, with nothing after them
pub record Whole (mark n left sum : ℕ) (ended : Bool) (vs : List ℕ) : Type 0 where
  pub end : ended ≡ true
  pub long : length (processes_in left (width n) vs) ≡ left
  pub same : numbers_of_processes (processes_in left (width n) vs) ≡ vs
  pub sound : Sound mark n sum (processes_in left (width n) vs)

none_left : (ended : Bool) (vs : List ℕ) → nothing_follows ended vs ≡ true → (ended ≡ true) × (vs ≡ [])
none_left ended [] h = (h, refl)
none_left ended (v ∷ vs) h = let z : true ≡ false = sym h in (cc, cc)

one_sound : (mark n sum c : ℕ) (vs : List ℕ) → count_question sum c ≡ 0 → process_question mark n c vs ≡ 0
    → SoundOne mark n sum (checkpoints_in c (width n) vs)
one_sound mark n sum c vs h k =
    let w : ℕ = width n in
    let l : c * w ≤ length vs = process_long mark n c vs k in
    let front : process_question mark n c (take (c * w) vs) ≡ 0
    = sym (process_front mark n c (take (c * w) vs) (drop (c * w) vs) (rw (length-take-le (c * w) vs l) (omega arith)))
    ∙ rw (take-append-drop (c * w) vs) k in
    record {
      count = rw (length_in c w vs) h;
      wide = wide_in c w vs l;
      asked = rw (length_in c w vs, joined_in c w vs) front;
    }

pub numbers_sound : (mark n left sum : ℕ) (ended : Bool) (vs : List ℕ) → processes_question mark n left sum ended vs ≡ 0
    → Whole mark n left sum ended vs
unfolding processes_question processes_in numbers_of_processes
numbers_sound mark n zero sum ended vs h =
    let e = none_left ended vs (asked_yes 8 (nothing_follows ended vs) h) in
    record { end = e.0; long = refl; same = sym e.1; sound = sound_nil mark n sum }
numbers_sound mark n (suc left) sum ended [] h = absurd (omega arith)
numbers_sound mark n (suc left) sum ended (c ∷ vs) h =
    let w : ℕ = width n in
    let rest : List ℕ = drop (c * w) vs in
    let a = then_none (count_question sum c) (λ _. process_question mark n c vs then λ _. processes_question mark n left (sum + c) ended rest) h in
    let b = then_none (process_question mark n c vs) (λ _. processes_question mark n left (sum + c) ended rest) a.1 in
    let more = numbers_sound mark n left (sum + c) ended rest b.1 in
    let cs : List (List ℕ) = checkpoints_in c w vs in
    let ps : List (List (List ℕ)) = processes_in left w rest in
    let later : Sound mark n (sum + length cs) ps = rw (length_in c w vs) more.sound in
    record {
      end = more.end;
      long = ap suc more.long;
      same = rw (length_in c w vs, joined_in c w vs, more.same, take-append-drop (c * w) vs);
      sound = sound_cons mark n sum cs ps (one_sound mark n sum c vs a.0 b.0) later;
    }

-- the numbers of processes that pass
pub sound_numbers : (mark n sum : ℕ) (ps : List (List (List ℕ))) → Sound mark n sum ps
    → processes_question mark n (length ps) sum true (numbers_of_processes ps) ≡ 0
unfolding processes_question numbers_of_processes
sound_numbers mark n sum [] s = refl
sound_numbers mark n sum (cs ∷ ps) s =
    let w : ℕ = width n in
    let c : ℕ = length cs in
    let one = sound_head mark n sum cs ps s in
    let l : length (joined cs) ≡ c * w = length_joined w cs one.wide in
    let vs : List ℕ = joined cs ++ numbers_of_processes ps in
    let rest : drop (c * w) vs ≡ numbers_of_processes ps = drop_at (joined cs) (numbers_of_processes ps) (c * w) l in
    let own : process_question mark n c vs ≡ 0 = process_front mark n c (joined cs) (numbers_of_processes ps) (omega arith) ∙ one.asked in
    let more : processes_question mark n (length ps) (sum + c) true (drop (c * w) vs) ≡ 0
    = rw rest (sound_numbers mark n (sum + c) ps (sound_tail mark n sum cs ps s)) in
    then_both (count_question sum c) (λ _. process_question mark n c vs then λ _. processes_question mark n (length ps) (sum + c) true (drop (c * w) vs))
    one.count
    (then_both (process_question mark n c vs) (λ _. processes_question mark n (length ps) (sum + c) true (drop (c * w) vs)) own more)
