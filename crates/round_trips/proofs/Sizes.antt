-- How large the numbers of a good book are, how many bytes they take, and that they are found in them again.
use mathlib.Core.Path.{◌≡◌}
use mathlib.Core.List.{List, [], ◌∷◌, ◌++◌}
use Prim.Native.Nat.{ℕ, zero, suc, ◌+◌, ◌-◌, ◌*◌, ◌≤◌, ◌<◌}
use native.Mathlib.Nat.{mul-le-mul}
use native.Mathlib.Omega.{arith}
use lib.ListN.{length, get_or}
use Rattle.varint.specs.Sequence.{numbers_at}
use Rattle.varint.proofs.Sequence.{encode_all_size, scan_encode_all}
use Rattle.book.specs.Bounds.{most_processes, most_checkpoints, most_bytes, groups, largest, mark}
use Rattle.book.specs.Tables.{counts_of}
use Rattle.book.specs.View.{sum}
use Rattle.book.specs.Write.{book_bytes}
use Rattle.book.specs.Layout.{width, Book, joined, numbers_of_processes, book_numbers}
use Rattle.round_trips.proofs.Numbers.{length_numbers}
use Rattle.round_trips.proofs.Sound.{Sound, SoundOne, sound_head, sound_tail}
use Rattle.book.proofs.Counts.{count_taken, few_in_all}
use Rattle.round_trips.proofs.Books.{Good}
use Rattle.round_trips.proofs.Counters.{by_half, process_each}

-- every number is below m
abbrev pub Below : ℕ → List ℕ → Type 0
Below m l = (i : ℕ) → i < length l → get_or l i 0 < m

below_cons : (m v : ℕ) (l : List ℕ) → v < m → Below m l → Below m (v ∷ l)
below_cons m v l h k zero b = h
below_cons m v l h k (suc i) b = k i (omega arith)

below_append : (m : ℕ) (a l : List ℕ) → Below m a → Below m l → Below m (a ++ l)
below_append m [] l h k = k
below_append m (v ∷ a) l h k = below_cons m v (a ++ l) (h 0 (omega arith)) (below_append m a l (λ i b. h (suc i) (omega arith)) k)

below_joined : (m : ℕ) (cs : List (List ℕ)) → ((r : ℕ) → r < length cs → Below m (get_or cs r [])) → Below m (joined cs)
unfolding joined
below_joined m [] h = λ i b. absurd (omega arith)
below_joined m (c ∷ cs) h = below_append m c (joined cs) (h 0 (omega arith)) (below_joined m cs (λ r k. h (suc r) (omega arith)))

-- ---- below the mark

below_process : (m n before : ℕ) (cs : List (List ℕ)) → SoundOne m n before cs → Below m (joined cs)
below_process m n before cs one = below_joined m cs row
  where
    row : (r : ℕ) → r < length cs → Below m (get_or cs r [])
    row r h i b =
        let all = process_each m n cs one.wide one.asked r h in
        by_half (λ k. get_or (get_or cs r []) k 0 < m) (n - 1) (λ k l. (all.sent k l).known) (λ k l. (all.received k l).known)
        i (rw (one.wide r h) at b)

below_processes : (m n before : ℕ) (ps : List (List (List ℕ))) → most_checkpoints < m → Sound m n before ps → Below m (numbers_of_processes ps)
unfolding numbers_of_processes
below_processes m n before [] h s = λ i b. absurd (omega arith)
below_processes m n before (cs ∷ ps) h s =
    let one = sound_head m n before cs ps s in
    let count = count_taken before (length cs) one.count in
    below_cons m (length cs) (joined cs ++ numbers_of_processes ps) (omega arith)
    (below_append m (joined cs) (numbers_of_processes ps) (below_process m n before cs one)
    (below_processes m n (before + length cs) ps h (sound_tail m n before cs ps s)))

module _ (book : Book) (good : Good mark book) where
  numbers_below : Below mark (book_numbers book)
  numbers_below =
      let few : book.n ≤ most_processes = good.few in
      below_cons mark book.n (numbers_of_processes book.processes) (omega arith)
      (below_processes mark book.n 0 book.processes (omega arith) good.sound)

  -- ---- how many there are

  -- n, the counts, and the counters of each checkpoint
  abbrev most_numbers : ℕ
  most_numbers = suc (most_processes + most_checkpoints * width most_processes)

  numbers_few : length (book_numbers book) ≤ most_numbers
  numbers_few =
      let n : ℕ = book.n in
      let total : ℕ = sum (counts_of book.processes) in
      let few : n ≤ most_processes = good.few in
      let rows : total ≤ most_checkpoints = few_in_all (counts_of book.processes) good.sound.counts in
      let narrow : width n ≤ width most_processes = omega arith in
      let all : total * width n ≤ most_checkpoints * width most_processes = mul-le-mul rows narrow in
      let l : length (numbers_of_processes book.processes) ≡ length book.processes + total * width n
      = length_numbers (width n) book.processes good.sound.wide in
      omega (arith, good.long)

  -- ---- the bytes

  pub bytes_few : length (book_bytes book) ≤ most_bytes
  bytes_few =
      let few : length (book_numbers book) ≤ most_numbers = numbers_few in
      let l : length (book_bytes book) ≤ groups * length (book_numbers book)
      = encode_all_size groups (book_numbers book) (omega arith) (λ i h. omega (arith, numbers_below i h)) in
      omega arith

  pub bytes_found : numbers_at groups largest (book_bytes book) 0 ≡ record { found = book_numbers book; stop = length (book_bytes book) }
  bytes_found = scan_encode_all groups largest (book_numbers book) (omega arith) (omega arith) (λ i h. omega (arith, numbers_below i h))
