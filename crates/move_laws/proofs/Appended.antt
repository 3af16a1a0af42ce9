-- The same later checkpoints appended to a book and to one that lies behind it: the longer one lies behind the longer other, and is a
-- book whenever that is.
use mathlib.Core.Path.{◌≡◌, sym, ◌∙◌}
use Prim.Native.Nat.{ℕ, suc, ◌+◌, ◌-◌, ◌≤◌, ◌<◌}
use native.Mathlib.Nat.{sub-add_cancel}
use native.Mathlib.Decide.{dec_le, ℕ_discrete}
use native.Mathlib.Omega.{arith}
use borrow.Author.Tests.{le-leb, lt-leb}
use Rattle.lists.specs.Over.{sum_to}
use Rattle.lists.proofs.Over.{sum_le}
use Rattle.book.specs.Bounds.{mark}
use Rattle.line_theory.specs.Sets.{View, IsBook}
use Rattle.line_theory.specs.OfTables.{view_of}
use Rattle.shown.specs.Statements.{IsCounter, ShowsBook, SameCounters, IsLonger}
use Rattle.move_laws.specs.Appended.{MovedBook, IsAppended, view_appended}
use Rattle.move_laws.proofs.Views.{rises}
use Rattle.move_laws.proofs.Lines.{Behind}

-- One end of a channel, by checkpoints: W is behind T, U is T with more, and X is W with the same more, less what was taken off.
one_end : (X W T U : ℕ → ℕ) (gone last off r : ℕ) → 1 ≤ last → 1 ≤ r → (r ≤ last → X r ≡ W r) → (last < r → X r ≡ U (gone + r) - off)
    → ((s : ℕ) → 1 ≤ s → s ≤ last → W s + off ≡ T (gone + s)) → ((s : ℕ) → 1 ≤ s → s ≤ last → U (gone + s) ≡ T (gone + s))
    → (last ≤ r → U (gone + last) ≤ U (gone + r)) → X r + off ≡ U (gone + r)
one_end X W T U gone last off r some first early late behind longer rising = elim (dec_le r last) [
  | yes h ↦ omega (arith, early h, behind r first h, longer r first h)
  | no h ↦
      let enough : off ≤ U (gone + r) = omega (arith, behind last some (omega arith), longer last some (omega arith), rising (omega arith)) in
      rw (late (omega arith)) (sub-add_cancel enough)
]

-- ---- a book behind a book

module _ (u x : View) (gone : ℕ → ℕ) (off : ℕ → ℕ → ℕ) (behind : Behind u x gone off) where
  pub was_counter : (j r p : ℕ) → IsCounter x j r p → IsCounter u j (gone j + r) p
  was_counter j r p at = record {
    process = rw behind.n at at.process;
    first = omega (arith, at.first);
    last = omega (arith, at.last, behind.count j at.process);
    partner = rw behind.n at at.partner;
  }

  pub behind_shows : ShowsBook u → ((j : ℕ) → j < x.n → 1 ≤ x.count j) → ((j p : ℕ) → j < x.n → p < x.n → x.R j 1 p ≡ 0) → ShowsBook x
  behind_shows shows some oldest = record {
    size = rw behind.n shows.size;
    some = some;
    few =
        let fewer : sum_to x.n x.count ≤ sum_to x.n u.count
        = sum_le x.n x.count u.count (λ j h. omega (arith, behind.count j h)) in
        omega (arith, few);
    known = λ j r p at.
        let was = shows.known j (gone j + r) p (was_counter j r p at) in
        (omega (arith, behind.S j r p at, was.0), omega (arith, behind.R j r p at, was.1));
    oldest_received = oldest;
    rising = λ j r p at more.
        let next : IsCounter x j (suc r) p
        = record { process = at.process; first = omega arith; last = more; partner = at.partner } in
        let e : gone j + suc r ≡ suc (gone j + r) = omega arith in
        let later = shows.rising j (gone j + r) p (was_counter j r p at) (omega (arith, more, behind.count j at.process)) in
        let sent = rw e at (behind.S j (suc r) p next) in
        let received = rw e at (behind.R j (suc r) p next) in
        (omega (arith, behind.S j r p at, later.0), omega (arith, behind.R j r p at, later.1));
  }
    where
      few : sum_to x.n u.count ≤ 256
      few = rw behind.n shows.few

  -- of a book with the same counters, since own columns of books are zero
  pub behind_same : IsBook mark u → (y : View) → IsBook mark y → SameCounters y x → Behind u y gone off
  behind_same book y is same = record {
    n = same.n ∙ behind.n;
    count = λ j h. rw (same.count j h) (behind.count j (rw same.n at h));
    S = λ j r p at. (by_column j r p at).0;
    R = λ j r p at. (by_column j r p at).1;
  }
    where
      at_x : (j r p : ℕ) → IsCounter y j r p → IsCounter x j r p
      at_x j r p at = record {
        process = rw same.n at at.process;
        first = at.first;
        last = rw (same.count j at.process) at at.last;
        partner = rw same.n at at.partner;
      }

      own : (j r : ℕ) → IsCounter y j r j
          → (y.S j r j + off j j ≡ u.S j (gone j + r) j) × (y.R j r j + off j j ≡ u.R j (gone j + r) j)
      own j r at =
          let was = was_counter j r j (at_x j r j at) in
          let zero_now = is.own j r at.process at.first at.last in
          let zero_then = book.own j (gone j + r) was.process was.first was.last in (
            omega (arith, zero_now.0, zero_then.0, behind.S j r j (at_x j r j at)),
            omega (arith, zero_now.1, zero_then.1, zero_then.0, behind.S j r j (at_x j r j at)),
          )

      by_column : (j r p : ℕ) → IsCounter y j r p
          → (y.S j r p + off j p ≡ u.S j (gone j + r) p) × (y.R j r p + off p j ≡ u.R j (gone j + r) p)
      by_column j r p at = elim (ℕ_discrete p j) [
        | yes e ↦ let at' : IsCounter y j r j = rw e at at in rw e (own j r at')
        | no ne ↦
            rw (same.S j r p at ne, same.R j r p at ne)
            (behind.S j r p (at_x j r p at), behind.R j r p (at_x j r p at))
      ]

-- ---- more is appended

module _ (t : View) (k : MovedBook) (behind : Behind t (view_of k.tables) k.gone k.off) (book : IsBook mark (view_of k.tables))
    (u : View) (longer : IsLonger t u) where
  abbrev w : View
  w = view_of k.tables

  abbrev gone : ℕ → ℕ
  gone = k.gone

  abbrev off : ℕ → ℕ → ℕ
  off = k.off

  -- a checkpoint of the book behind, in the other one
  in_other : (j r p : ℕ) → IsCounter w j r p → IsCounter t j (gone j + r) p
  in_other = was_counter t w gone off behind

  pub appended_behind : ShowsBook u → (x : View) → IsAppended k u x → Behind u x gone off
  appended_behind shows x is = record {
    n = is.longer.n ∙ behind.n ∙ sym longer.n;
    count = is.count;
    S = λ j r p at.
        one_end (λ s. x.S j s p) (λ s. w.S j s p) (λ s. t.S j s p) (λ s. u.S j s p) (gone j) (w.count j) (off j p) r (some j at) at.first
        (λ h. is.longer.S j r p (held j p at r at.first h))
        (λ h. is.S j r p at h)
        (λ s a h. behind.S j s p (held j p at s a h))
        (λ s a h. longer.S j (gone j + s) p (in_other j s p (held j p at s a h)))
        (λ h. (later j r p at h).0);
    R = λ j r p at.
        one_end (λ s. x.R j s p) (λ s. w.R j s p) (λ s. t.R j s p) (λ s. u.R j s p) (gone j) (w.count j) (off p j) r (some j at) at.first
        (λ h. is.longer.R j r p (held j p at r at.first h))
        (λ h. is.R j r p at h)
        (λ s a h. behind.R j s p (held j p at s a h))
        (λ s a h. longer.R j (gone j + s) p (in_other j s p (held j p at s a h)))
        (λ h. (later j r p at h).1);
  }
    where
      there : (j : ℕ) → j < x.n → j < w.n
      there j h = rw is.longer.n at h

      some : (j : ℕ) {r p : ℕ} → IsCounter x j r p → 1 ≤ w.count j
      some j at = book.some j (there j at.process)

      held : (j p : ℕ) {r : ℕ} → IsCounter x j r p → (s : ℕ) → 1 ≤ s → s ≤ w.count j → IsCounter w j s p
      held j p at s a h = record { process = there j at.process; first = a; last = h; partner = there p at.partner }

      in_whole : (j : ℕ) → j < x.n → j < u.n
      in_whole j h = rw (longer.n, sym behind.n) (there j h)

      later : (j r p : ℕ) → IsCounter x j r p → w.count j ≤ r
          → (u.S j (gone j + w.count j) p ≤ u.S j (gone j + r) p) × (u.R j (gone j + w.count j) p ≤ u.R j (gone j + r) p)
      later j r p at h =
          rises u shows j (gone j + w.count j) (gone j + r) p (in_whole j at.process) (in_whole p at.partner)
          (omega (arith, some j at)) (omega arith) (omega (arith, at.last, is.count j at.process))

  -- ---- there is one such book

  long : (j : ℕ) → j < w.n → gone j + w.count j ≤ u.count j
  long j h = omega (arith, behind.count j h, longer.count j (rw behind.n at h))

  same_size : u.n ≡ w.n
  same_size = longer.n ∙ sym behind.n

  pub is_appended : IsAppended k u (view_appended k u)
  unfolding view_appended
  is_appended = record {
    longer = record {
      n = same_size;
      count = λ j h. omega (arith, long j h);
      S = λ j r p at. rw (le-leb r (w.count j) at.last);
      R = λ j r p at. rw (le-leb r (w.count j) at.last);
    };
    count = λ j h. omega (arith, long j (rw same_size at h));
    S = λ j r p at h. rw (lt-leb r (w.count j) h);
    R = λ j r p at h. rw (lt-leb r (w.count j) h);
  }

  pub appended_shows : ShowsBook u → ShowsBook (view_appended k u)
  unfolding view_appended
  appended_shows shows =
      behind_shows u (view_appended k u) gone off (appended_behind shows (view_appended k u) is_appended) shows
      (λ j h. omega (arith, long j (rw same_size at h), book.some j (rw same_size at h)))
      (λ j p h o.
      is_appended.longer.R j 1 p (record { process = rw same_size at h; first = omega arith; last = book.some j (rw same_size at h); partner = rw same_size at o })
      ∙ book.oldest j p (rw same_size at h) (rw same_size at o))
