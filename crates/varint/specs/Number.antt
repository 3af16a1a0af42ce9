-- Document 01, "The book" (01's own form, not K's): a number is written in groups of seven bits, lowest group first, one group a byte; the
-- byte's top bit is set when another group follows. Only the shortest form is a number.
use Rattle.std.specs.Prelude.{Bool, true, false, List, [], ◌∷◌, ℕ, zero, suc, ◌+◌, ◌-◌, ◌*◌, ◌/◌, ◌%◌, drop, ltb, leb, Option, Some, None}

-- n in at most `fuel` groups: the last group alone has its top bit clear
unfoldable pub groups_of : ℕ → ℕ → List ℕ
groups_of zero n = []
groups_of (suc fuel) n =
    elim (ltb n 128) [ true ↦ n ∷ [] | false ↦ (n % 128 + 128) ∷ groups_of fuel (n / 128) ]

-- the bytes of n
unfoldable pub encode : ℕ → List ℕ
encode n = groups_of (suc n) n

-- the lowest group, and the number that the groups after it make
abbrev pub above : ℕ → Option (ℕ × ℕ) → Option (ℕ × ℕ)
above low None = None
above low (Some (high, next)) = Some (low + high * 128, next)

-- a last group: a zero after other groups would not be the shortest form
abbrev pub last_group : Bool → ℕ → ℕ → Option (ℕ × ℕ)
last_group true b next = Some (b, next)
last_group false zero next = None
last_group false (suc b) next = Some (suc b, next)

-- the number whose groups begin here, in at most `groups` of them, with the place after it; `first`: no group went before
unfoldable pub read_groups : ℕ → Bool → List ℕ → ℕ → Option (ℕ × ℕ)
read_groups zero first s at = None
read_groups (suc groups) first [] at = None
read_groups (suc groups) first (b ∷ s) at =
    elim (ltb b 128) [ true ↦ last_group first b (at + 1) | false ↦ above (b - 128) (read_groups groups false s (at + 1)) ]

-- a number above the limit is refused
abbrev pub at_most : ℕ → Option (ℕ × ℕ) → Option (ℕ × ℕ)
at_most limit None = None
at_most limit (Some (v, next)) = elim (leb v limit) [ true ↦ Some (v, next) | false ↦ None ]

-- the number that stands at a place of the bytes: whole, shortest, in at most `groups` groups and at most `limit`
unfoldable pub read_number : ℕ → ℕ → List ℕ → ℕ → Option (ℕ × ℕ)
read_number groups limit s at = at_most limit (read_groups groups true (drop at s) at)
