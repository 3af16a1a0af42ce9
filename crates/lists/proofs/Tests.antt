-- Two tests put together.
use mathlib.Core.Path.{◌≡◌, refl, sym, ◌∙◌}
use mathlib.Core.Bool.{Bool, true, false, not, ◌&&◌, ◌||◌, true≢false}

-- ---- each follows from the other

pub both_ways : (a b : Bool) → (a ≡ true → b ≡ true) → (b ≡ true → a ≡ true) → a ≡ b
both_ways true b there back = sym (there refl)
both_ways false true there back = back refl
both_ways false false there back = refl

-- ---- both

pub and_both : (a b : Bool) → (a && b) ≡ true → (a ≡ true) × (b ≡ true)
and_both true b h = (refl, h)
and_both false b h = let z : true ≡ false = sym h in (sym z, cc)

pub both_and : (a b : Bool) → a ≡ true → b ≡ true → (a && b) ≡ true
both_and a b h k = rw (h, k)

pub and_first : (a b : Bool) → a ≡ false → (a && b) ≡ false
and_first a b e = rw e

pub and_second : (a b : Bool) → b ≡ false → (a && b) ≡ false
and_second true b e = e
and_second false b e = refl

pub and_rest : (a b : Bool) → a ≡ true → (a && b) ≡ b
and_rest a b e = rw e

-- ---- one of the two

pub or_first : (a b : Bool) → a ≡ true → (a || b) ≡ true
or_first a b e = rw e

pub or_second : (a b : Bool) → b ≡ true → (a || b) ≡ true
or_second true b e = refl
or_second false b e = e

pub or_unless : (a b : Bool) → (a ≡ false → b ≡ true) → (a || b) ≡ true
or_unless true b h = refl
or_unless false b h = h refl

-- which, where the other says no
pub first_of_or : (a b : Bool) → (a || b) ≡ true → b ≡ false → a ≡ true
first_of_or true b h e = refl
first_of_or false b h e = absurd (true≢false (sym h ∙ e))

pub second_of_or : (a b : Bool) → (a || b) ≡ true → a ≡ false → b ≡ true
second_of_or a b h e = rw e at h

-- none of the two
pub or_none : (a b : Bool) → (a || b) ≡ false → (a ≡ false) × (b ≡ false)
or_none true b h = absurd (true≢false h)
or_none false b h = (refl, h)

pub none_or : (a b : Bool) → a ≡ false → b ≡ false → (a || b) ≡ false
none_or a b h k = rw (h, k)

-- ---- one where the other is passed

pub if_then : (a b : Bool) → (not a || b) ≡ true → a ≡ true → b ≡ true
if_then true b h e = h
if_then false b h e = absurd (true≢false (sym e))

pub then_if : (a b : Bool) → (a ≡ true → b ≡ true) → (not a || b) ≡ true
then_if true b h = h refl
then_if false b h = refl
