-- A number written at a place of a lent buffer: its bytes stand there and nothing else changes; where they do not fit,
-- nothing changes at all.
use Rattle.std.specs.Prelude.{Bool, true, false, List, ℕ, ◌+◌, length, leb, Option, Some, None}
use Rattle.std.proofs.lemmas.List.Edits.{sets}
use Rattle.varint.specs.Number.{encode}

-- is there room for the number's bytes?
abbrev pub room_for : ℕ → List ℕ → ℕ → Bool
room_for n out at = leb (at + length (encode n)) (length out)

unfoldable pub place_after : ℕ → List ℕ → ℕ → Option ℕ
place_after n out at = elim (room_for n out at) [ true ↦ Some (at + length (encode n)) | false ↦ None ]

unfoldable pub number_put : ℕ → List ℕ → ℕ → List ℕ
number_put n out at = elim (room_for n out at) [ true ↦ sets out at (encode n) | false ↦ out ]
