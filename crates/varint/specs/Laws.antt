-- The laws of seven-bit numbers, for every number, list of bytes, place, count of groups and limit.
-- `T b` is the library's "b is true", not document 01's T.
use Rattle.std.specs.Prelude.{◌≡◌, List, ◌++◌, ℕ, ◌+◌, ◌^◌, ◌≤◌, ◌<◌, length, drop, get_or, T, Some}
use Rattle.std.proofs.Math.Pow.{are_bytes}
use Rattle.varint.specs.Number.{encode, read_number}
use Rattle.varint.specs.Sequence.{encode_all, numbers_at}
use Rattle.varint.specs.Write.{number_put}

-- reading what was written gives the number and the place after it, whatever follows
abbrev pub ReadsBack : Type 0
ReadsBack =
    (groups limit n : ℕ) (s : List ℕ) (at : ℕ) (rest : List ℕ) → 1 ≤ groups → n < 128 ^ groups → n ≤ limit
    → drop at s ≡ encode n ++ rest → read_number groups limit s at ≡ Some (n, at + length (encode n))

-- a number written into a buffer with room for it is read there
abbrev pub WrittenIsRead : Type 0
WrittenIsRead =
    (groups limit n : ℕ) (out : List ℕ) (at : ℕ) → 1 ≤ groups → n < 128 ^ groups → n ≤ limit
    → at + length (encode n) ≤ length out
    → read_number groups limit (number_put n out at) at ≡ Some (n, at + length (encode n))

-- what was read, written again, is the bytes that were read; the next place is right after them, and the limit holds
abbrev pub WritesBack : Type 0
WritesBack =
    (groups limit : ℕ) (s : List ℕ) (at v next : ℕ) → T (are_bytes s) → read_number groups limit s at ≡ Some (v, next)
    → (drop at s ≡ encode v ++ drop next s) × (next ≡ at + length (encode v)) × (v ≤ limit)

-- a number has exactly one form: bytes that are read whole as the same number are the same bytes
abbrev pub OneForm : Type 0
OneForm =
    (groups limit groups' limit' : ℕ) (a b : List ℕ) (v : ℕ) → T (are_bytes a) → T (are_bytes b)
    → read_number groups limit a 0 ≡ Some (v, length a) → read_number groups' limit' b 0 ≡ Some (v, length b) → a ≡ b

-- numbers written one after another are found again, just they, up to the end
abbrev pub AllReadBack : Type 0
AllReadBack =
    (groups limit : ℕ) (ns : List ℕ) → 1 ≤ groups → limit < 128 ^ groups
    → ((i : ℕ) → i < length ns → get_or ns i 0 ≤ limit)
    → numbers_at groups limit (encode_all ns) 0 ≡ record { found = ns; stop = length (encode_all ns) }

-- the numbers found from a place on, written again, are the bytes up to where they stop
abbrev pub AllWrittenBack : Type 0
AllWrittenBack =
    (groups limit : ℕ) (s : List ℕ) (at : ℕ) → T (are_bytes s)
    → (drop at s ≡ encode_all (numbers_at groups limit s at).found ++ drop (numbers_at groups limit s at).stop s)
    × ((numbers_at groups limit s at).stop ≡ at + length (encode_all (numbers_at groups limit s at).found))

-- what is written is bytes, so that the laws of what was read hold of it
abbrev pub WrittenAreBytes : Type 0
WrittenAreBytes = (ns : List ℕ) → T (are_bytes (encode_all ns))
