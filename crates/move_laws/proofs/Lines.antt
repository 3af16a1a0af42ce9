-- A book that lies behind another: without the first checkpoints of each process, and with the same taken off both ends of each channel.
-- What is consistent in one is consistent in the other, so the two have the same line. To move a book to its line where that is
-- checkpoint 1 everywhere changes nothing.
use mathlib.Core.Path.{◌≡◌, refl}
use Prim.Native.Nat.{ℕ, ◌+◌, ◌-◌, ◌≤◌, ◌<◌}
use native.Mathlib.Nat.{sub-zero}
use native.Mathlib.Omega.{arith}
use Rattle.book.specs.Bounds.{mark}
use Rattle.line_theory.specs.Sets.{View, IsBook, IsSet, Consistent, IsLine}
use Rattle.line_theory.specs.Search.{line}
use Rattle.line_theory.proofs.Theorems.{line_is_line}
use Rattle.shown.specs.Statements.{IsCounter, ShowsBook, SameCounters}
use Rattle.restart.specs.Plan.{planned, applied, moved}

pub record Behind (v w : View) (gone : ℕ → ℕ) (off : ℕ → ℕ → ℕ) : Type 0 where
  pub n : w.n ≡ v.n
  pub count : (j : ℕ) → j < w.n → gone j + w.count j ≡ v.count j
  pub S : (j r p : ℕ) → IsCounter w j r p → w.S j r p + off j p ≡ v.S j (gone j + r) p
  pub R : (j r p : ℕ) → IsCounter w j r p → w.R j r p + off p j ≡ v.R j (gone j + r) p

module _ (v w : View) (gone : ℕ → ℕ) (off : ℕ → ℕ → ℕ) (behind : Behind v w gone off) (book : IsBook mark v) (after : IsBook mark w) where
  here : (j : ℕ) → j < v.n → j < w.n
  here j h = rw behind.n h

  module _ (d : ℕ → ℕ) (there : IsSet w d) where
    at_set : (j p : ℕ) → j < w.n → p < w.n → IsCounter w j (d j) p
    at_set j p h o = record { process = h; first = there.some j h; last = there.among j h; partner = o }

    -- the set as it is numbered in the other book
    abbrev back : ℕ → ℕ
    back j = gone j + d j

    back_is_set : IsSet v back
    back_is_set = record {
      some = λ j h. omega (arith, there.some j (here j h));
      among = λ j h. omega (arith, there.among j (here j h), behind.count j (here j h));
    }

    module _ (j p : ℕ) (h : j < v.n) (o : p < v.n) where
      -- what is taken off is the same at both ends
      received_back : w.R j (d j) p + off p j ≡ v.R j (back j) p
      received_back = behind.R j (d j) p (at_set j p (here j h) (here p o))

      sent_back : w.S p (d p) j + off p j ≡ v.S p (back p) j
      sent_back = behind.S p (d p) j (at_set p j (here p o) (here j h))

    no_later : Consistent w d → (j : ℕ) → j < v.n → back j ≤ line v j
    no_later pairwise =
        (line_is_line mark v book).latest back back_is_set (λ j p h o other.
        omega (arith, pairwise j p (here j h) (here p o) other, received_back j p h o, sent_back j p h o))

  abbrev found : IsLine v (line v)
  found = line_is_line mark v book

  abbrev found_behind : IsLine w (line w)
  found_behind = line_is_line mark w after

  -- the oldest checkpoints have received nothing
  beyond : (j : ℕ) → j < v.n → gone j + 1 ≤ line v j
  beyond =
      no_later (λ j. 1) (record { some = λ j h. omega arith; among = after.some })
      (λ j p h o other. omega (arith, after.oldest j p h o))

  -- the line as it is numbered in the book behind
  abbrev forth : ℕ → ℕ
  forth j = line v j - gone j

  forth_back : (j : ℕ) → j < v.n → gone j + forth j ≡ line v j
  forth_back j h = omega (arith, beyond j h)

  there_behind : (j : ℕ) → j < w.n → j < v.n
  there_behind j h = rw behind.n at h

  forth_is_set : IsSet w forth
  forth_is_set = record {
    some = λ j h. omega (arith, beyond j (there_behind j h));
    among = λ j h. omega (arith, found.is_set.among j (there_behind j h), behind.count j h, beyond j (there_behind j h));
  }

  forth_consistent : Consistent w forth
  forth_consistent j p h o other =
      let h' : j < v.n = there_behind j h in
      let o' : p < v.n = there_behind p o in
      let received : w.R j (forth j) p + off p j ≡ v.R j (line v j) p
      = rw (forth_back j h') at (received_back forth forth_is_set j p h' o') in
      let sent : w.S p (forth p) j + off p j ≡ v.S p (line v p) j
      = rw (forth_back p o') at (sent_back forth forth_is_set j p h' o') in
      omega (arith, found.pairwise j p h' o' other)

  pub line_behind : (j : ℕ) → j < v.n → gone j + line w j ≡ line v j
  line_behind j h =
      omega (
        arith,
        no_later (line w) found_behind.is_set found_behind.pairwise j h,
        found_behind.latest forth forth_is_set forth_consistent j (here j h),
        forth_back j h,
      )

-- nothing goes, and nothing is taken off
stays : (f : ℕ → ℕ) (c r off : ℕ) → c ≡ 1 → off ≡ 0 → f (c - 1 + r) - off ≡ f r
stays f c r off e none = let same : 1 - 1 + r ≡ r = omega arith in rw (e, same, none) (sub-zero (f r))

pub moved_to_one : (w : View) → ShowsBook w → ((j : ℕ) → j < w.n → line w j ≡ 1) → SameCounters (moved w 1) w
unfolding planned applied
moved_to_one w shows one = record {
  n = refl;
  count = λ j h. omega (arith, one j h);
  S = λ j r p at other.
      stays (λ s. w.S j s p) (line w j) r (w.R p (line w p) j) (one j at.process) (none j p at.process at.partner);
  R = λ j r p at other.
      stays (λ s. w.R j s p) (line w j) r (w.R j (line w j) p) (one j at.process) (none p j at.partner at.process);
}
  where
    -- on the channel from a to b
    none : (a b : ℕ) → a < w.n → b < w.n → w.R b (line w b) a ≡ 0
    none a b h o = rw (one b o) (shows.oldest_received b a o h)
