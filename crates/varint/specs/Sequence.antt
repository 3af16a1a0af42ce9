-- Numbers that stand one after another in bytes.
use Rattle.std.specs.Prelude.{List, [], ◌∷◌, ◌++◌, ℕ, zero, suc, ◌-◌, length, drop, Some, None}
use Rattle.varint.specs.Number.{encode, read_number}

-- the bytes of numbers written one after another
unfoldable pub encode_all : List ℕ → List ℕ
encode_all [] = []
encode_all (n ∷ ns) = encode n ++ encode_all ns

-- the numbers found from a place on, up to the first place at which no number stands, and that place
pub record Numbers : Type 0 where
  pub found : List ℕ
  pub stop : ℕ

unfoldable pub scan : ℕ → ℕ → ℕ → List ℕ → ℕ → Numbers
scan groups limit zero s at = record { found = []; stop = at }
scan groups limit (suc fuel) s at =
    elim (read_number groups limit s at) [
      | Some (v, next) ↦ let r = scan groups limit fuel s next in record { found = v ∷ r.found; stop = r.stop }
      | None ↦ record { found = []; stop = at }
    ]

-- every number takes a byte at least, so there are no more of them than bytes
unfoldable pub numbers_at : ℕ → ℕ → List ℕ → ℕ → Numbers
numbers_at groups limit s at = scan groups limit (length s - at) s at

-- the numbers after the first k
abbrev pub numbers_after : ℕ → Numbers → Numbers
numbers_after k ns = record { found = drop k ns.found; stop = ns.stop }
