-- Whole messages: as numbers, as bytes, and what is read in bytes that are a formed message.
-- Assumes nothing.
use mathlib.Core.Path.{◌≡◌, sym, ap, subst, ◌∙◌}
use mathlib.Core.Bool.{true, not, ◌&&◌, ◌||◌, true≢false}
use mathlib.Core.List.{List, [], ◌∷◌, ◌++◌, append-nil}
use Prim.Native.Nat.{ℕ, ◌+◌, ◌*◌, ◌≤◌, ◌<◌}
use native.Mathlib.Decide.{dec_le}
use native.Mathlib.Omega.{arith}
use borrow.Author.Tests.{leb-true, eqb-true, eq-eqb, ne_eqb}
use lib.ListN.{length, drop, get_or}
use lib.Seq.{drop-length}
use lib.Dec.{leb, eqb, T}
use lib.Pow.{are_bytes}
use Rattle.varint.specs.Sequence.{encode_all}
use Rattle.varint.proofs.Encode.{encode_last}
use Rattle.varint.proofs.Sequence.{scan_encode_all, encode_all_scan}
use Rattle.book.specs.declared.Count.{Count}
use Rattle.book.specs.Bounds.{groups, largest}
use Rattle.book.proofs.Bounds.{groups_some, largest_fits}
use Rattle.lists.proofs.Tests.{and_both, both_and}
use Rattle.consistency.specs.Known.{counters}
use Rattle.message.specs.declared.Message.{Message}
use Rattle.message.specs.Layout.{pairs_to, pair_count, message_numbers, message_bytes, head_size, pair_size}
use Rattle.book.specs.Names.{is_purpose, is_named}
use Rattle.message.specs.Formed.{is_kind, head_formed, participant_end, pairs_formed, invitation_formed, counted_formed, message_of, begin_formed, numbers_formed, numbers_in, message_formed}
use Rattle.message.specs.Read.{message_read}
use Rattle.message_laws.specs.Formed.{IsFormed}
use Rattle.message_laws.proofs.Pairs.{AtMost, most_cons, formed_count, formed_few, formed_most, formed_bytes}
use Rattle.message_laws.proofs.News.{Entry, row_formed, news_of_pairs, pairs_of_news, news_formed}

-- ---- the head

kind_small : (k : ℕ) → is_kind k ≡ true → k ≤ 2
kind_small k h =
    elim (dec_le k 2) [
      | yes l ↦ l
      | no l ↦
          let one : (k ≡ 1 → ⊥) = λ e. absurd (omega arith) in
          let two : (k ≡ 2 → ⊥) = λ e. absurd (omega arith) in
          absurd (true≢false (sym (rw (ne_eqb k 1 one, ne_eqb k 2 two) at h)))
    ]

head_small : (n k p s : ℕ) → head_formed n k p s ≡ true → (k ≤ 2) × (p ≤ 3) × (s ≤ n)
unfolding head_formed
head_small n k p s h =
    let a = and_both (is_kind k) (is_purpose p && (is_named n s && (not (eqb p 2) || eqb k 1))) h in
    let b = and_both (is_purpose p) (is_named n s && (not (eqb p 2) || eqb k 1)) a.1 in
    let c = and_both (is_named n s) (not (eqb p 2) || eqb k 1) b.1 in (
      kind_small k a.0,
      leb-true p 3 (and_both (leb 1 p) (leb p 3) b.0).1,
      leb-true s n (and_both (leb 1 s) (leb s n) c.0).1,
    )

-- ---- a formed message, written

module _ (n end : ℕ) (m : Message) (few : n ≤ 16) (formed : IsFormed n end m) where
  small : (m.head.kind ≤ 2) × (m.head.purpose ≤ 3) × (m.head.sender.0 ≤ n)
  small = head_small n m.head.kind m.head.purpose m.head.sender.0 formed.head

  entries : (p : ℕ) → p < 16 → Entry n end p (counters m.news p)
  entries p h = record { most = formed.most p h; named = formed.named p h }

  pairs_are : pairs_formed n end 0 (pair_count m.news) (pairs_to 16 (counters m.news)) ≡ true
  pairs_are = row_formed n end (counters m.news) few entries

  count_most : pair_count m.news ≤ n
  count_most =
      let c : pair_count m.news + 0 ≤ n
      = formed_count n end 0 (pair_count m.news) (pairs_to 16 (counters m.news)) (omega arith) pairs_are in
      omega arith

  -- no pair names the participant at that end
  pub count_few : 1 ≤ end → end ≤ n → pair_count m.news < n
  count_few from to =
      let c : pair_count m.news + 0 < n
      = formed_few n end 0 (pair_count m.news) (pairs_to 16 (counters m.news)) to from pairs_are in
      omega arith

  -- the numbers make the message again
  pub message_back : message_of (message_numbers m) ≡ m
  message_back =
      ap {B = Message} (λ (news : List Count). record { head = m.head; news = news })
      (news_of_pairs n end m.news formed.long entries)

  pub numbers_formed_lem : (me initiator : ℕ) → end ≡ participant_end me initiator m.head.sender.0
      → numbers_formed n me initiator (message_numbers m) ≡ true
  unfolding numbers_formed
  numbers_formed_lem me initiator e =
      let ns : List ℕ = message_numbers m in
      let counted : counted_formed n (participant_end me initiator (get_or ns 2 0)) (drop 3 ns) ≡ true
      = subst (λ (k : ℕ). counted_formed n k (drop 3 ns) ≡ true) e pairs_are in
      let invited : invitation_formed (message_of ns) ≡ true = ap invitation_formed message_back ∙ formed.invitation in
      rw (counted, invited, formed.head)

  numbers_most : AtMost largest (message_numbers m)
  numbers_most =
      let xs : List ℕ = pairs_to 16 (counters m.news) in
      most_cons largest m.head.kind (m.head.purpose ∷ m.head.sender.0 ∷ pair_count m.news ∷ xs) (omega (arith, small.0))
      (most_cons largest m.head.purpose (m.head.sender.0 ∷ pair_count m.news ∷ xs) (omega (arith, small.1))
      (most_cons largest m.head.sender.0 (pair_count m.news ∷ xs) (omega (arith, small.2))
      (most_cons largest (pair_count m.news) xs (omega (arith, count_most))
      (formed_most n end 0 (pair_count m.news) xs (omega arith) pairs_are))))

  -- the numbers are found in the bytes
  pub bytes_found : numbers_in (message_bytes m) ≡ record { found = message_numbers m; stop = length (message_bytes m) }
  unfolding message_bytes
  bytes_found = scan_encode_all groups largest (message_numbers m) groups_some largest_fits numbers_most

  -- four numbers of one byte, and the pairs
  pub bytes_few : length (message_bytes m) ≤ head_size + pair_count m.news * pair_size
  unfolding message_bytes encode_all
  bytes_few =
      let xs : List ℕ = pairs_to 16 (counters m.news) in
      let long : length (encode_all xs) ≤ pair_count m.news * pair_size = formed_bytes n end 0 (pair_count m.news) xs (omega arith) pairs_are in
      rw (
        encode_last m.head.kind (omega (arith, small.0)),
        encode_last m.head.purpose (omega (arith, small.1)),
        encode_last m.head.sender.0 (omega (arith, small.2)),
        encode_last (pair_count m.news) (omega (arith, count_most)),
      ) (omega arith)

-- ---- formed numbers

-- there are four at least
counted_cases : (n end : ℕ) (P : List ℕ → Type 0)
    → ((k p s count : ℕ) (xs : List ℕ) → pairs_formed n end 0 count xs ≡ true → P (k ∷ p ∷ s ∷ count ∷ xs))
    → (ns : List ℕ) → counted_formed n end (drop 3 ns) ≡ true → P ns
counted_cases n end P four [] h = absurd (true≢false (sym h))
counted_cases n end P four (k ∷ []) h = absurd (true≢false (sym h))
counted_cases n end P four (k ∷ p ∷ []) h = absurd (true≢false (sym h))
counted_cases n end P four (k ∷ p ∷ s ∷ []) h = absurd (true≢false (sym h))
counted_cases n end P four (k ∷ p ∷ s ∷ count ∷ xs) h = four k p s count xs h

module _ (n me initiator : ℕ) (ns : List ℕ) (few : n ≤ 16) (formed : numbers_formed n me initiator ns ≡ true) where
  end : ℕ
  end = participant_end me initiator (get_or ns 2 0)

  taken : (begin_formed n ns ≡ true) × (counted_formed n end (drop 3 ns) ≡ true) × (invitation_formed (message_of ns) ≡ true)
  unfolding numbers_formed end
  taken =
      let a = and_both (begin_formed n ns) (counted_formed n end (drop 3 ns) && invitation_formed (message_of ns)) formed in
      let b = and_both (counted_formed n end (drop 3 ns)) (invitation_formed (message_of ns)) a.1 in
      (a.0, b.0, b.1)

  -- the message's numbers are the old ones
  pub numbers_back : message_numbers (message_of ns) ≡ ns
  numbers_back =
      counted_cases n end (λ l. message_numbers (message_of l) ≡ l)
      (λ k p s count xs h.
      let same = pairs_of_news n end count xs few h in
      rw (same.0, same.1))
      ns taken.1

  news_is : (length (message_of ns).news ≡ 16) × ((p : ℕ) → p < 16 → Entry n end p (counters (message_of ns).news p))
  news_is =
      counted_cases n end (λ l. (length (message_of l).news ≡ 16) × ((p : ℕ) → p < 16 → Entry n end p (counters (message_of l).news p)))
      (λ k p s count xs h. news_formed n end count xs few h)
      ns taken.1

  pub is_formed : IsFormed n (participant_end me initiator (get_or ns 2 0)) (message_of ns)
  unfolding end
  is_formed =
      record {
        long = news_is.0;
        head = taken.0;
        most = λ p h. (news_is.1 p h).most;
        named = λ p h. (news_is.1 p h).named;
        invitation = taken.2;
      }

-- ---- bytes that are a formed message

pub formed_whole : (n me initiator : ℕ) (s : List ℕ) → message_formed n me initiator s ≡ true
    → ((numbers_in s).stop ≡ length s) × (numbers_formed n me initiator (numbers_in s).found ≡ true)
unfolding message_formed
formed_whole n me initiator s h =
    let a = and_both (eqb (numbers_in s).stop (length s)) (numbers_formed n me initiator (numbers_in s).found) h in
    (eqb-true (numbers_in s).stop (length s) a.0, a.1)

pub whole_formed : (n me initiator : ℕ) (s : List ℕ) → (numbers_in s).stop ≡ length s
    → numbers_formed n me initiator (numbers_in s).found ≡ true → message_formed n me initiator s ≡ true
unfolding message_formed
whole_formed n me initiator s stop h =
    both_and (eqb (numbers_in s).stop (length s)) (numbers_formed n me initiator (numbers_in s).found)
    (eq-eqb (numbers_in s).stop (length s) stop) h

pub read_is : (n me initiator : ℕ) (s : List ℕ) → message_formed n me initiator s ≡ true
    → message_read n me initiator s ≡ message_of (numbers_in s).found
unfolding message_read
read_is n me initiator s h = rw h

-- the numbers that are found up to the end are the bytes
pub found_bytes : (s : List ℕ) → T (are_bytes s) → (numbers_in s).stop ≡ length s → encode_all (numbers_in s).found ≡ s
found_bytes s t stop =
    sym (encode_all_scan groups largest s 0 t
    ∙ (ap (λ (k : ℕ). encode_all (numbers_in s).found ++ drop k s) stop
    ∙ (ap (λ (l : List ℕ). encode_all (numbers_in s).found ++ l) (drop-length s) ∙ append-nil (encode_all (numbers_in s).found))))
