-- A book that is moved with purpose 1 from time to time, and the one that never is: the first lies behind the second.
use mathlib.Core.Path.{◌≡◌, refl, sym, ◌∙◌}
use mathlib.Core.List.{List, [], ◌∷◌}
use Prim.Native.Nat.{ℕ, ◌+◌, ◌≤◌, ◌<◌}
use native.Mathlib.Nat.{add-zero}
use native.Mathlib.Omega.{arith}
use lib.ListN.{get_or}
use Rattle.book.specs.Lent.{Tables}
use Rattle.book.specs.Bounds.{mark}
use Rattle.book.specs.Accepted.{AreAccepted}
use Rattle.line_theory.specs.Sets.{View, IsBook}
use Rattle.line_theory.specs.OfTables.{view_of}
use Rattle.line_theory.proofs.Accepted.{accepted_book}
use Rattle.shown.specs.Statements.{IsCounter, ShowsBook, SameCounters, IsLonger}
use Rattle.shown.proofs.Theorems.{accepted_shows, shown_is_accepted, shown_is_view}
use Rattle.restart.specs.Plan.{planned, taken_off}
use Rattle.restart.proofs.Orders.{move_passes, before_at}
use Rattle.move_laws.specs.Moves.{Move, IsAccepted, view_before, view_after, order_with}
use Rattle.move_laws.specs.Appended.{MovedBook, unmoved, advance, advanced, IsAppended, view_appended, appended, Grows, last_of, along}
use Rattle.move_laws.proofs.Views.{sent_back, received_back}
use Rattle.move_laws.proofs.Lines.{Behind}
use Rattle.move_laws.proofs.Appended.{was_counter, behind_same, appended_behind, is_appended, appended_shows}
use Rattle.move_laws.proofs.Tables.{plan_of_move, shows_before, book_before, move_is_plan, accepted_after, view_after_lem, book_after, same_size, count_after}

-- the moved tables are accepted and lie behind the whole ones
pub record Follows (whole : Tables) (k : MovedBook) : Type 0 where
  pub kept : AreAccepted k.tables
  pub behind : Behind (view_of whole) (view_of k.tables) k.gone k.off

pub follows_unmoved : (tables : Tables) → AreAccepted tables → Follows tables (unmoved tables)
follows_unmoved tables accepted = record {
  kept = accepted;
  behind = record {
    n = refl;
    count = λ j h. omega arith;
    S = λ j r p at. same r (λ s. (view_of tables).S j s p);
    R = λ j r p at. same r (λ s. (view_of tables).R j s p);
  };
}
  where
    same : (r : ℕ) (f : ℕ → ℕ) → f r + 0 ≡ f (0 + r)
    same r f = let e : 0 + r ≡ r = omega arith in rw e (add-zero (f r))

-- ---- a move

pub advance_accepted : (tables : Tables) → AreAccepted tables → IsAccepted (advance tables)
advance_accepted tables accepted = record { sixteen = accepted.sixteen; passed = move_passes tables 1 accepted.passed refl }

-- what a move with purpose 1 leaves lies behind what was there
module _ (tables : Tables) (are : AreAccepted tables) where
  abbrev m : Move
  m = advance tables

  accepted : IsAccepted m
  accepted = advance_accepted tables are

  abbrev before : ℕ → ℕ
  before j = get_or (order_with m).before j 0

  there : (j : ℕ) → j < (view_after m).n → j < tables.shape.n
  there j h = rw (same_size m accepted) at h

  before_is : (j : ℕ) → j < (view_after m).n → before j ≡ (plan_of_move m).before j
  before_is j h = before_at tables 1 accepted.passed j (there j h)

  none_after : (j : ℕ) → (plan_of_move m).after j ≡ 0
  unfolding planned
  none_after j = refl

  pub advance_behind : Behind (view_of tables) (view_after m) before (taken_off (view_of tables) 1)
  unfolding planned
  advance_behind = record {
    n = same_size m accepted;
    count = λ j h.
        omega (arith, before_is j h, count_after m accepted j (there j h), (move_is_plan m accepted).adds_up j (there j h), none_after j);
    S = λ j r p at.
        rw (before_is j at.process)
        (sent_back (view_before m) (shows_before m accepted) (book_before m accepted) (plan_of_move m) (move_is_plan m accepted) (view_after m)
        (view_after_lem m accepted) (book_after m accepted) j r p at);
    R = λ j r p at.
        rw (before_is j at.process)
        (received_back (view_before m) (shows_before m accepted) (book_before m accepted) (plan_of_move m) (move_is_plan m accepted) (view_after m)
        (view_after_lem m accepted) (book_after m accepted) j r p at);
  }

-- what lies behind a book behind
behind_behind : (v w x : View) (gone gone' : ℕ → ℕ) (off off' : ℕ → ℕ → ℕ) → Behind v w gone off → Behind w x gone' off'
    → Behind v x (λ j. gone j + gone' j) (λ a b. off a b + off' a b)
behind_behind v w x gone gone' off off' one two = record {
  n = two.n ∙ one.n;
  count = λ j h. omega (arith, two.count j h, one.count j (rw two.n at h));
  S = λ j r p at.
      rw (e j r) at (both (x.S j r p) (off' j p) (off j p) (two.S j r p at) (one.S j (gone' j + r) p (was_counter w x gone' off' two j r p at)));
  R = λ j r p at.
      rw (e j r) at (both (x.R j r p) (off' p j) (off p j) (two.R j r p at) (one.R j (gone' j + r) p (was_counter w x gone' off' two j r p at)));
}
  where
    e : (j r : ℕ) → gone j + (gone' j + r) ≡ gone j + gone' j + r
    e j r = omega arith

    both : (now later sooner : ℕ) {between then' : ℕ} → now + later ≡ between → between + sooner ≡ then' → now + (sooner + later) ≡ then'
    both now later sooner a b = omega arith

pub follows_advanced : (whole : Tables) (k : MovedBook) → Follows whole k → Follows whole (advanced k)
follows_advanced whole k follows = record {
  kept = accepted_after (advance k.tables) (advance_accepted k.tables follows.kept);
  behind =
      behind_behind (view_of whole) (view_of k.tables) (view_after (advance k.tables)) _ _ _ _ follows.behind
      (advance_behind k.tables follows.kept);
}

-- ---- later checkpoints

module _ (whole : Tables) (k : MovedBook) (follows : Follows whole k) (next : Tables) (are : AreAccepted next)
    (longer : IsLonger (view_of whole) (view_of next)) where
  abbrev u : View
  u = view_of next

  shows : ShowsBook u
  shows = accepted_shows next are

  book : IsBook mark (view_of k.tables)
  book = accepted_book follows.kept

  -- of any such book that is accepted
  pub follows_longer : (v : View) → IsAppended k u v → Behind u v k.gone k.off
  follows_longer v is = appended_behind (view_of whole) k follows.behind book u longer shows v is

  abbrev x : View
  x = view_appended k u

  shows_appended : ShowsBook x
  shows_appended = appended_shows (view_of whole) k follows.behind book u longer shows

  x_appended : IsAppended k u x
  x_appended = is_appended (view_of whole) k follows.behind book u longer

  pub appended_accepted : AreAccepted (appended k next).tables
  appended_accepted = shown_is_accepted x shows_appended

  -- its tables show it
  abbrev y : View
  y = view_of (appended k next).tables

  same : SameCounters y x
  same = shown_is_view x shows_appended

  pub follows_appended : Follows next (appended k next)
  follows_appended = record {
    kept = appended_accepted;
    behind =
        behind_same u x k.gone k.off (follows_longer x x_appended) (accepted_book are) y (accepted_book appended_accepted) same;
  }

  -- which is the moved book with these checkpoints appended
  pub y_appended : IsAppended k u y
  y_appended = record {
    longer = record {
      n = size;
      count = λ j h. omega (arith, long j h);
      S = λ j r p at.
          omega (arith, behind.S j r p (still j r p at), follows.behind.S j r p at, longer.S j (k.gone j + r) p (in_whole j r p at));
      R = λ j r p at.
          omega (arith, behind.R j r p (still j r p at), follows.behind.R j r p at, longer.R j (k.gone j + r) p (in_whole j r p at));
    };
    count = behind.count;
    S = λ j r p at h. omega (arith, behind.S j r p at);
    R = λ j r p at h. omega (arith, behind.R j r p at);
  }
    where
      w : View
      w = view_of k.tables

      behind : Behind u y k.gone k.off
      behind = follows_appended.behind

      size : y.n ≡ w.n
      size = behind.n ∙ longer.n ∙ sym follows.behind.n

      long : (j : ℕ) → j < w.n → w.count j ≤ y.count j
      long j h =
          omega (arith, behind.count j (rw size h), follows.behind.count j h, longer.count j (rw follows.behind.n at h))

      still : (j r p : ℕ) → IsCounter w j r p → IsCounter y j r p
      still j r p at = record {
        process = rw size at.process;
        first = at.first;
        last = omega (arith, at.last, long j at.process);
        partner = rw size at.partner;
      }

      in_whole : (j r p : ℕ) → IsCounter w j r p → IsCounter (view_of whole) j (k.gone j + r) p
      in_whole = was_counter (view_of whole) w k.gone k.off follows.behind

-- ---- any number of them

pub grows_accepted : (books : List Tables) (whole : Tables) → Grows whole books → AreAccepted whole
unfolding Grows
grows_accepted [] whole grows = grows
grows_accepted (next ∷ books) whole grows = grows.0

pub follows_along : (books : List Tables) (whole : Tables) (k : MovedBook) → Follows whole k → Grows whole books → Follows (last_of whole books) (along k books)
unfolding Grows last_of along
follows_along [] whole k follows grows = follows
follows_along (next ∷ books) whole k follows grows =
    follows_along books next (appended (advanced k) next)
    (follows_appended whole (advanced k) (follows_advanced whole k follows) next (grows_accepted books next grows.1.1) grows.1.0)
    grows.1.1

pub last_accepted : (books : List Tables) (whole : Tables) → Grows whole books → AreAccepted (last_of whole books)
unfolding Grows last_of
last_accepted [] whole grows = grows
last_accepted (next ∷ books) whole grows = last_accepted books next grows.1.1

pub last_size : (books : List Tables) (whole : Tables) → Grows whole books → (last_of whole books).shape.n ≡ whole.shape.n
unfolding Grows last_of
last_size [] whole grows = refl
last_size (next ∷ books) whole grows = last_size books next grows.1.1 ∙ grows.1.0.n
