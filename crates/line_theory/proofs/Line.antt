-- The line that is found is the line: steps back from the newest set end, stay above every consistent set, and end on one.
use mathlib.Core.Path.{◌≡◌, sym, ◌∙◌}
use mathlib.Core.Bool.{true, true≢false}
use mathlib.Core.List.{List}
use Prim.Native.Nat.{ℕ, zero, suc, ◌≤◌, ◌<◌}
use native.Mathlib.Decide.{dec_le, dec_lt}
use native.Mathlib.Omega.{arith}
use lib.ListN.{length, get_or, get_or-eq_default}
use Rattle.lists.specs.Over.{sum_to, tab}
use Rattle.line_theory.specs.Sets.{View, IsBook, IsSet, Consistent, IsLine, newer_than, cut}
use Rattle.line_theory.specs.Search.{permitted, newest, sent_to, stepped, settled, line_set, line}
use Rattle.line_theory.specs.Statements.{
  IsNewest,
  LineIsLine,
  OnlyLine,
  CutIsBook,
  CutLineEarlier,
  AboveLine,
  CutAboveKeepsLine,
  NewerIsDistance,
  StepStaysAbove,
  RefusedIsAbove,
  ConsistentAboveIsLine,
}
use Rattle.lists.proofs.Over.{sum_ext, sum_same, sum_at, sum_missing, length_tab, get_d_tab}
use Rattle.line_theory.proofs.Tests.{permits_consistent}
use Rattle.line_theory.proofs.Steps.{consistent_permitted, newest_above, newest_is_newest}

-- a list as a set
abbrev at : List ℕ → ℕ → ℕ
at set j = get_or set j 0

-- ---- one step

module _ (m : ℕ) (v : View) (book : IsBook m v) (set : List ℕ) (there : IsSet v (at set)) where
  -- where process j goes
  goes : (j : ℕ) → j < v.n → IsNewest v.n (v.R j) (sent_to v (at set) j) (at set j) (at (stepped v set) j)
  unfolding stepped
  goes j k =
      rw (get_d_tab v.n (λ j. newest v.n (v.R j) (sent_to v (at set) j) (at set j)) j 0 k)
      (newest_is_newest m v j (at set j) (sent_to v (at set) j) book k (there.some j k) (there.among j k))

  stepped_is_set : IsSet v (at (stepped v set))
  stepped_is_set = record {
    some = λ j k. (goes j k).some;
    among = λ j k. omega (arith, (goes j k).back, there.among j k);
  }

  stepped_above : (d : ℕ → ℕ) → IsSet v d → Consistent v d → ((j : ℕ) → j < v.n → d j ≤ at set j)
      → (j : ℕ) → j < v.n → d j ≤ at (stepped v set) j
  unfolding stepped
  stepped_above d ex pairwise below j k =
      rw (get_d_tab v.n (λ j. newest v.n (v.R j) (sent_to v (at set) j) (at set j)) j 0 k)
      (newest_above m v book d (at set) (sent_to v (at set) j) ex pairwise below there.among j k (λ p l. omega arith) (at set j) (below j k))

  -- a set that stays is consistent
  stays_consistent : ((j : ℕ) → j < v.n → at (stepped v set) j ≡ at set j) → Consistent v (at set)
  stays_consistent same = permits_consistent v (at set) (λ j k. rw (same j k) at (goes j k).permits)

-- ---- so many steps

module _ (m : ℕ) (v : View) (book : IsBook m v) where
  settled_is_set : (k : ℕ) (set : List ℕ) → IsSet v (at set) → IsSet v (at (settled k v set))
  unfolding settled
  settled_is_set zero set there = there
  settled_is_set (suc k) set there = settled_is_set k (stepped v set) (stepped_is_set m v book set there)

  settled_back : (k : ℕ) (set : List ℕ) → IsSet v (at set) → (j : ℕ) → j < v.n → at (settled k v set) j ≤ at set j
  unfolding settled
  settled_back zero set there j l = omega arith
  settled_back (suc k) set there j l =
      omega (arith, settled_back k (stepped v set) (stepped_is_set m v book set there) j l, (goes m v book set there j l).back)

  settled_above : (d : ℕ → ℕ) → IsSet v d → Consistent v d → (k : ℕ) (set : List ℕ) → IsSet v (at set)
      → ((j : ℕ) → j < v.n → d j ≤ at set j) → (j : ℕ) → j < v.n → d j ≤ at (settled k v set) j
  unfolding settled
  settled_above d ex pairwise zero set there below = below
  settled_above d ex pairwise (suc k) set there below =
      settled_above d ex pairwise k (stepped v set) (stepped_is_set m v book set there) (stepped_above m v book set there d ex pairwise below)

  -- consistent sets stay
  settled_stays : (k : ℕ) (set : List ℕ) → IsSet v (at set) → Consistent v (at set) → (j : ℕ) → j < v.n
      → at (settled k v set) j ≡ at set j
  settled_stays k set there pairwise j l =
      let low : at set j ≤ at (settled k v set) j = settled_above (at set) there pairwise k set there (λ j l. omega arith) j l in
      omega (arith, settled_back k set there j l)

  -- a step takes a checkpoint back, or the set is consistent and stays
  settled_consistent : (k : ℕ) (set : List ℕ) → IsSet v (at set) → sum_to v.n (at set) ≤ k → Consistent v (at (settled k v set))
  unfolding settled
  settled_consistent zero set there few j p a b o = absurd (omega (arith, sum_at v.n (at set) j a, there.some j a))
  settled_consistent (suc k) set there few j p a b o = elim (dec_le (sum_to v.n (at (stepped v set))) k) [
    | yes h ↦ settled_consistent k (stepped v set) (stepped_is_set m v book set there) h j p a b o
    | no h ↦
        let back : (j : ℕ) → j < v.n → at (stepped v set) j ≤ at set j = λ j l. (goes m v book set there j l).back in
        let pairwise : Consistent v (at set)
        = stays_consistent m v book set there (sum_same v.n (at (stepped v set)) (at set) back (omega arith)) in
        let stays : (j : ℕ) → j < v.n → at (settled (suc k) v set) j ≡ at set j = settled_stays (suc k) set there pairwise in
        rw (stays j a, stays p b) (pairwise j p a b o)
  ]

pub line_is_line : LineIsLine
unfolding line_set
line_is_line m v book =
    let start : List ℕ = tab v.n v.count in
    let same : (j : ℕ) → j < v.n → at start j ≡ v.count j = λ j l. get_d_tab v.n v.count j 0 l in
    let there : IsSet v (at start) = record { some = λ j l. rw (same j l) (book.some j l); among = λ j l. omega (arith, same j l) } in
    record {
      is_set = settled_is_set m v book _ start there;
      pairwise = settled_consistent m v book _ start there (omega (arith, sum_ext v.n (at start) v.count same));
      latest = λ d ex pairwise. settled_above m v book d ex pairwise _ start there (λ j l. rw (same j l) (ex.among j l));
    }

pub only_line : OnlyLine
only_line m v c book is j k =
    let found : IsLine v (line v) = line_is_line m v book in
    let low : c j ≤ line v j = found.latest c is.is_set is.pairwise j k in
    let high : line v j ≤ c j = is.latest (line v) found.is_set found.pairwise j k in
    omega arith

-- ---- as a list

length_settled : (k : ℕ) (v : View) (set : List ℕ) → length set ≡ v.n → length (settled k v set) ≡ v.n
unfolding settled stepped
length_settled zero v set h = h
length_settled (suc k) v set h =
    length_settled k v (stepped v set) (length_tab v.n (λ j. newest v.n (v.R j) (sent_to v (at set) j) (at set j)))

pub length_line : (v : View) → length (line_set v) ≡ v.n
unfolding line_set
length_line v = length_settled (sum_to v.n v.count) v (tab v.n v.count) (length_tab v.n v.count)

-- absent processes have 0
pub line_absent : (v : View) (j : ℕ) → v.n ≤ j → line v j ≡ 0
line_absent v j h = get_or-eq_default (line_set v) 0 (rw (length_line v) h)

-- ---- a book that is cut to a set

pub cut_is_book : CutIsBook
cut_is_book m v c book there = record {
  some = there.some;
  rising = λ j r p a b low high. book.rising j r p a b low (omega (arith, there.among j a));
  below = λ j r p a b low high. book.below j r p a b low (omega (arith, there.among j a));
  received = λ j r p a b low high. book.received j r p a b low (omega (arith, there.among j a));
  oldest = book.oldest;
  own = λ j r a low high. book.own j r a low (omega (arith, there.among j a));
}

pub cut_line_earlier : CutLineEarlier
cut_line_earlier m v c book there =
    let found : IsLine (cut v c) (line (cut v c)) = line_is_line m (cut v c) (cut_is_book m v c book there) in
    let among : (j : ℕ) → j < v.n → line (cut v c) j ≤ v.count j
    = λ j k. omega (arith, found.is_set.among j k, there.among j k) in
    (line_is_line m v book).latest (line (cut v c)) (record { some = found.is_set.some; among = among }) found.pairwise

pub newer_is_distance : NewerIsDistance
unfolding newer_than
newer_is_distance v c there = sum_missing v.n c v.count there.among

-- ---- a set at or above the line

-- it is a set: the line's checkpoints are at least the oldest
above_is_set : (m : ℕ) (v : View) (c : ℕ → ℕ) → IsBook m v → AboveLine v c → IsSet v c
above_is_set m v c book up = record {
  some = λ j k. omega (arith, (line_is_line m v book).is_set.some j k, up.above j k);
  among = up.among;
}

-- the line is a consistent set of what is left
pub cut_above_keeps_line : CutAboveKeepsLine
cut_above_keeps_line m v c book up j k =
    let there : IsSet v c = above_is_set m v c book up in
    let found : IsLine v (line v) = line_is_line m v book in
    let left : IsSet (cut v c) (line v) = record { some = found.is_set.some; among = up.above } in
    let low : line v j ≤ line (cut v c) j
    = (line_is_line m (cut v c) (cut_is_book m v c book there)).latest (line v) left found.pairwise j k in
    omega (arith, cut_line_earlier m v c book there j k)

pub step_stays_above : StepStaysAbove
step_stays_above m v c known j r book up k at_least low high =
    let found : IsLine v (line v) = line_is_line m v book in
    newest_above m v book (line v) c known found.is_set found.pairwise up.above up.among j k at_least r low

pub refused_is_above : RefusedIsAbove
refused_is_above m v c known j r book up k at_least low refused = elim (dec_lt (line v j) r) [
  | yes h ↦ h
  | no h ↦
      let found : IsLine v (line v) = line_is_line m v book in
      let same : line v j ≡ r = omega arith in
      let permits : permitted v.n (v.R j r) known ≡ true
      = rw same at (consistent_permitted m v book (line v) c known found.is_set found.pairwise up.above up.among j k at_least) in
      absurd (true≢false (sym permits ∙ refused))
]

pub consistent_above_is_line : ConsistentAboveIsLine
consistent_above_is_line m v c book up pairwise j k =
    let found : IsLine v (line v) = line_is_line m v book in
    omega (arith, found.latest c (above_is_set m v c book up) pairwise j k, up.above j k)
