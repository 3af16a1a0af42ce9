-- Whole lists: as numbers, as bytes, and what is read in bytes that the questions pass.
use Rattle.std.specs.Prelude.{Option, Some, None}
use mathlib.Core.Path.{◌≡◌, refl, sym, ap, ◌∙◌}
use mathlib.Core.Bool.{Bool, true}
use mathlib.Core.List.{List, [], ◌∷◌, ◌++◌, append-nil}
use Prim.Native.Nat.{ℕ, zero, suc, ◌+◌, ◌-◌, ◌*◌, ◌≤◌}
use native.Mathlib.Omega.{arith}
use borrow.Author.Tests.{le-leb, eqb-true, eq-eqb}
use lib.ListN.{length, length-append}
use lib.Seq.{drop-length}
use lib.Dec.{T}
use lib.Pow.{are_bytes}
use Rattle.varint.specs.Number.{encode, read_number}
use Rattle.varint.specs.Sequence.{Numbers, encode_all, numbers_at}
use Rattle.varint.proofs.Encode.{encode_size}
use Rattle.varint.proofs.Reading.{read_next, read_past}
use Rattle.varint.proofs.Sequence.{numbers_none, numbers_more, scan_encode_all, encode_all_scan}
use Rattle.book.specs.Bounds.{groups, largest}
use Rattle.book.specs.Names.{is_named}
use Rattle.book.specs.Questions.{size_question}
use Rattle.book.specs.Read.{numbers_found, end_with_bytes}
use Rattle.book.proofs.Bounds.{groups_some, largest_fits}
use Rattle.book.proofs.Names.{named_in}
use Rattle.book.proofs.Questions.{then_none, then_both, ask_yes, asked_yes, kept_passed}
use Rattle.restart.specs.declared.Resend.{Resend}
use Rattle.restart.specs.Calls.{no_resend}
use Rattle.resend.specs.Layout.{entry_count, entries_of, list_numbers, list_bytes, count_size, entry_size, longest_list, list_in}
use Rattle.resend.specs.Questions.{entries_question, counted_question, list_question}
use Rattle.resend.specs.Calls.{list_read}
use Rattle.resend_laws.specs.Lists.{IsList}
use Rattle.resend_laws.proofs.Asked.{AtMost, most_cons, none_behind, asked_ended}
use Rattle.resend_laws.proofs.Written.{entries_from, all_from, all_count, from_passes, from_most}
use Rattle.resend_laws.proofs.Taken.{first, last, list_back, entries_back, taken_is_list}
use Rattle.resend_laws.proofs.Sizes.{count_few, from_bytes}

-- ---- the numbers found in bytes

-- none is above the limit
found_limit : (g l : ℕ) (s : List ℕ) (fuel at : ℕ) → length s ≤ at + fuel → AtMost l (numbers_at g l s at).found
found_limit g l s zero at h =
    let e : read_number g l s at ≡ None = read_past g l s at (omega arith) in
    rw (numbers_none g l s at e) (λ i m. absurd (omega arith))
found_limit g l s (suc fuel) at h = go (read_number g l s at) refl (found_limit g l s fuel)
  where
    go : (r : Option (ℕ × ℕ)) → read_number g l s at ≡ r → ((next : ℕ) → length s ≤ next + fuel → AtMost l (numbers_at g l s next).found)
        → AtMost l (numbers_at g l s at).found
    go None e ih = rw (numbers_none g l s at e) (λ i m. absurd (omega arith))
    go (Some (v, next)) e ih =
        let on = read_next g l s at v next e in
        rw (numbers_more g l s at v next e) (most_cons l v (numbers_at g l s next).found on.2 (ih next (omega arith)))

found_most : (bytes : List ℕ) → AtMost largest (numbers_found bytes)
found_most bytes = found_limit groups largest bytes (length bytes) 0 (omega arith)

-- numbers that are found up to the end are the bytes
found_bytes : (bytes : List ℕ) → T (are_bytes bytes) → end_with_bytes bytes ≡ true → encode_all (numbers_found bytes) ≡ bytes
found_bytes bytes t ended =
    let stop : (numbers_at groups largest bytes 0).stop ≡ length bytes
    = eqb-true (numbers_at groups largest bytes 0).stop (length bytes) ended in
    let all : bytes ≡ encode_all (numbers_found bytes) ++ [] = rw (stop, drop-length bytes) at (encode_all_scan groups largest bytes 0 t) in
    sym (append-nil (encode_all (numbers_found bytes))) ∙ sym all

-- ---- a list written

module _ (n : ℕ) (list : Resend) (few : n ≤ 16) (is : IsList n list) where
  abbrev entries : List ℕ
  entries = entries_from 0 256 (first list) (last list)

  entries_are : entries_of list ≡ entries_from 0 256 (first list) (last list)
  entries_are = all_from (first list) (last list) 256

  counted : (entry_count list ≤ n * (n - 1)) × (entry_count list ≤ 240)
  counted = count_few n few (first list) (last list) is.some

  numbers_most : AtMost largest (list_numbers list)
  numbers_most =
      most_cons largest (entry_count list) (entries_of list) (omega (arith, counted.1))
      (rw entries_are (from_most n few (first list) (last list) is.some 256 0 refl))

  -- the numbers are found in the bytes
  bytes_found : numbers_at groups largest (list_bytes list) 0 ≡ record { found = list_numbers list; stop = length (list_bytes list) }
  unfolding list_bytes
  bytes_found = scan_encode_all groups largest (list_numbers list) groups_some largest_fits numbers_most

  -- they pass their questions
  numbers_pass : counted_question n true (list_numbers list) ≡ 0
  numbers_pass =
      rw (entries_are, all_count (first list) (last list) 256)
      (from_passes n few (first list) (last list) is.some 256 0 0 0 refl none_behind (omega arith))

  -- and make the list again
  numbers_back : list_in (list_numbers list) ≡ list
  numbers_back = rw entries_are (list_back list (record { firsts = is.firsts; lasts = is.lasts }) is.none)

  pub bytes_few : length (list_bytes list) ≤ longest_list n
  unfolding list_bytes encode_all
  bytes_few =
      let count : length (encode (entry_count list)) ≤ count_size = encode_size count_size (entry_count list) (omega arith) (omega (arith, counted.1)) in
      let long : length (encode_all (entries_of list)) ≤ entry_count list * entry_size
      = rw (entries_are, all_count (first list) (last list) 256) (from_bytes n few (first list) (last list) is.some 256 0 refl) in
      rw (length-append (encode (entry_count list)) (encode_all (entries_of list))) (omega (arith, counted.0))

-- ---- a list read

-- what the questions tell
record Passed (n : ℕ) (bytes : List ℕ) : Type 0 where
  size : (1 ≤ n) × (n ≤ 16)
  asked : counted_question n (end_with_bytes bytes) (numbers_found bytes) ≡ 0

module _ (n : ℕ) (bytes : List ℕ) where
  passed_in : list_question n bytes ≡ 0 → Passed n bytes
  unfolding list_question
  passed_in h =
      let q = then_none (size_question n) (λ _. counted_question n (end_with_bytes bytes) (numbers_found bytes)) h in
      record { size = named_in 16 n (asked_yes 3 (is_named 16 n) q.0); asked = q.1 }

  passed_out : Passed n bytes → list_question n bytes ≡ 0
  unfolding list_question
  passed_out p =
      let size : is_named 16 n ≡ true = rw (le-leb 1 n p.size.0, le-leb n 16 p.size.1) in
      then_both (size_question n) (λ _. counted_question n (end_with_bytes bytes) (numbers_found bytes)) (ask_yes 4 (is_named 16 n) size) p.asked

  read_is : list_question n bytes ≡ 0 → list_read n bytes ≡ list_in (numbers_found bytes)
  unfolding list_read
  read_is h = kept_passed (list_question n bytes) no_resend (list_in (numbers_found bytes)) h

-- numbers that pass have a count, and as many entries
counted_cases : (n : ℕ) (ended : Bool) (P : List ℕ → Type 0)
    → ((count : ℕ) (xs : List ℕ) → entries_question n 0 0 count ended xs ≡ 0 → P (count ∷ xs))
    → (ns : List ℕ) → counted_question n ended ns ≡ 0 → P ns
counted_cases n ended P some [] h = let z : ◌≡◌ {A = ℕ} 3 0 = h in absurd (omega arith)
counted_cases n ended P some (count ∷ xs) h = some count xs h

module _ (n : ℕ) (few : n ≤ 16) (ended : Bool) (ns : List ℕ) (asked : counted_question n ended ns ≡ 0) where
  counted_ended : ended ≡ true
  counted_ended = counted_cases n ended (λ l. ended ≡ true) (λ count xs h. asked_ended n few ended 0 0 count xs none_behind h) ns asked

  -- the list's numbers are the old ones
  old_numbers : list_numbers (list_in ns) ≡ ns
  old_numbers =
      counted_cases n ended (λ l. list_numbers (list_in l) ≡ l)
      (λ count xs h. let same = entries_back n few ended count xs h in rw (same.0, same.1)) ns asked

  numbers_list : AtMost largest ns → IsList n (list_in ns)
  numbers_list =
      counted_cases n ended (λ l. AtMost largest l → IsList n (list_in l))
      (λ count xs h most. taken_is_list n few ended count xs h (λ i m. most (suc i) (omega arith))) ns asked

-- the list that was read has those bytes
pub read_bytes : (n : ℕ) (bytes : List ℕ) → T (are_bytes bytes) → list_question n bytes ≡ 0 → list_bytes (list_read n bytes) ≡ bytes
unfolding list_bytes
read_bytes n bytes t h =
    let p = passed_in n bytes h in
    ap list_bytes (read_is n bytes h)
    ∙ ap encode_all (old_numbers n p.size.1 (end_with_bytes bytes) (numbers_found bytes) p.asked)
    ∙ found_bytes bytes t (counted_ended n p.size.1 (end_with_bytes bytes) (numbers_found bytes) p.asked)

pub read_list : (n : ℕ) (bytes : List ℕ) → list_question n bytes ≡ 0 → IsList n (list_read n bytes)
read_list n bytes h =
    let p = passed_in n bytes h in
    rw (read_is n bytes h) (numbers_list n p.size.1 (end_with_bytes bytes) (numbers_found bytes) p.asked (found_most bytes))

-- the list that was written is read
pub written_read : (n : ℕ) (list : Resend) → 1 ≤ n → n ≤ 16 → IsList n list
    → (list_question n (list_bytes list) ≡ 0) × (list_read n (list_bytes list) ≡ list)
written_read n list some few is =
    let bytes : List ℕ = list_bytes list in
    let found = bytes_found n list few is in
    let numbers : numbers_found bytes ≡ list_numbers list = ap (λ (r : Numbers). r.found) found in
    let ended : end_with_bytes bytes ≡ true
    = eq-eqb (numbers_at groups largest bytes 0).stop (length bytes) (ap (λ (r : Numbers). r.stop) found) in
    let passed : list_question n bytes ≡ 0
    = passed_out n bytes (record { size = (some, few); asked = rw (numbers, ended) (numbers_pass n list few is) }) in
    (passed, read_is n bytes passed ∙ ap list_in numbers ∙ numbers_back n list few is)
