-- An accepted read: the bytes are those of the good book that they hold.
use mathlib.Core.Path.{◌≡◌, refl, sym, ap, subst, ◌∙◌}
use mathlib.Core.List.{List, [], ◌++◌, append-nil}
use Prim.Native.Nat.{ℕ, ◌≤◌}
use borrow.Author.Tests.{leb-true, le-leb, eqb-true, eq-eqb}
use lib.ListN.{length}
use lib.Seq.{drop-length}
use lib.Dec.{T, leb, eqb}
use lib.Pow.{are_bytes}
use Rattle.varint.specs.Sequence.{Numbers, numbers_at, encode_all}
use Rattle.varint.proofs.Sequence.{encode_all_scan}
use Rattle.book.specs.Bounds.{groups, largest, mark, most_bytes, entries}
use Rattle.book.specs.Tables.{shape_of, sent_table, received_table}
use Rattle.book.specs.Read.{numbers_found, end_with_bytes, read_question, book_read, no_shape, shape_read, sent_read, received_read}
use Rattle.book.specs.Write.{book_bytes}
use Rattle.book.specs.Layout.{Book, book_numbers, book_in}
use Rattle.book.specs.InTurn.{◌then◌}
use Rattle.book.specs.Questions.{length_question, bytes_question}
use Rattle.book.specs.Along.{book_question}
use Rattle.book.proofs.Questions.{then_none, then_both, asked_yes, ask_yes, kept_passed}
use Rattle.book.proofs.Counts.{lengths_taken, lengths_given}
use Rattle.round_trips.proofs.Books.{Good, numbers_good, good_numbers, good_in}
use Rattle.round_trips.proofs.Sizes.{bytes_few, bytes_found}

-- what a read asks
pub record Accepted (bytes s r : List ℕ) : Type 0 where
  pub few : length bytes ≤ most_bytes
  pub sent : length s ≡ entries
  pub received : length r ≡ entries
  pub asked : book_question mark (end_with_bytes bytes) (numbers_found bytes) ≡ 0

module _ (bytes s r : List ℕ) where
  -- the questions of a read from each one on
  abbrev from_book : Unit {0} → ℕ
  from_book _ = book_question mark (end_with_bytes bytes) (numbers_found bytes)

  abbrev from_lengths : Unit {0} → ℕ
  from_lengths _ = length_question s r then from_book

  pub read_taken : read_question bytes s r ≡ 0 → Accepted bytes s r
  unfolding read_question
  read_taken h =
      let a = then_none (bytes_question bytes) from_lengths h in
      let b = then_none (length_question s r) from_book a.1 in
      let l = lengths_taken s r b.0 in
      record {
        few = leb-true (length bytes) most_bytes (asked_yes 0 (leb (length bytes) most_bytes) a.0);
        sent = l.0;
        received = l.1;
        asked = b.1;
      }

  pub read_given : Accepted bytes s r → read_question bytes s r ≡ 0
  unfolding read_question
  read_given a =
      then_both (bytes_question bytes) from_lengths (ask_yes 1 (leb (length bytes) most_bytes) (le-leb (length bytes) most_bytes a.few))
      (then_both (length_question s r) from_book (lengths_given s r a.sent a.received) a.asked)

  -- the book that was read is good
  pub read_good : read_question bytes s r ≡ 0 → Good mark (book_read bytes)
  read_good h = (numbers_good mark (end_with_bytes bytes) (numbers_found bytes) (read_taken h).asked).2

  -- and has those bytes
  pub read_bytes : T (are_bytes bytes) → read_question bytes s r ≡ 0 → book_bytes (book_read bytes) ≡ bytes
  read_bytes t h =
      let g = numbers_good mark (end_with_bytes bytes) (numbers_found bytes) (read_taken h).asked in
      let stop : (numbers_at groups largest bytes 0).stop ≡ length bytes
      = eqb-true (numbers_at groups largest bytes 0).stop (length bytes) g.0 in
      let all : bytes ≡ encode_all (numbers_found bytes) ++ []
      = rw (stop, drop-length bytes) at (encode_all_scan groups largest bytes 0 t) in
      ap encode_all g.1 ∙ sym (append-nil (encode_all (numbers_found bytes))) ∙ sym all

  -- what an accepted read leaves
  module _ (h : read_question bytes s r ≡ 0) where
    pub shape_left_lem : shape_read bytes s r ≡ shape_of (book_read bytes)
    unfolding shape_read
    shape_left_lem = kept_passed (read_question bytes s r) no_shape (shape_of (book_read bytes)) h

    pub sent_left : sent_read bytes s r ≡ sent_table (book_read bytes)
    unfolding sent_read
    sent_left = kept_passed (read_question bytes s r) s (sent_table (book_read bytes)) h

    pub received_left : received_read bytes s r ≡ received_table (book_read bytes)
    unfolding received_read
    received_left = kept_passed (read_question bytes s r) r (received_table (book_read bytes)) h

-- ---- the bytes of a good book

module _ (book : Book) (good : Good mark book) where
  pub good_read : book_read (book_bytes book) ≡ book
  good_read = ap (λ (ns : Numbers). book_in ns.found) (bytes_found book good) ∙ good_in mark book good

  pub good_accepted : (s r : List ℕ) → length s ≡ entries → length r ≡ entries → read_question (book_bytes book) s r ≡ 0
  good_accepted s r h k =
      let long : ℕ = length (book_bytes book) in
      let asked : book_question mark (eqb long long) (book_numbers book) ≡ 0 = rw (eq-eqb long long refl) (good_numbers mark book good) in
      read_given (book_bytes book) s r
      (record {
        few = bytes_few book good;
        sent = h;
        received = k;
        asked = subst (λ (ns : Numbers). book_question mark (eqb ns.stop long) ns.found ≡ 0) (sym (bytes_found book good)) asked;
      })
