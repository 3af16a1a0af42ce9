-- A count and a checkpoint by its number.
use mathlib.Core.Path.{◌≡◌, ap}
use Prim.Native.Nat.{ℕ}
use Rattle.book.specs.declared.Checkpoint.{Checkpoint}
use Rattle.book.specs.declared.Count.{Count}

abbrev pub tally : ℕ → Count
tally n = record { 0 = n }

pub tally_of : {v : Count} {n : ℕ} → v.0 ≡ n → v ≡ tally n
tally_of e = ap tally e

abbrev pub checkpoint : ℕ → Checkpoint
checkpoint r = record { 0 = r }

pub checkpoint_of : {v : Checkpoint} {r : ℕ} → v.0 ≡ r → v ≡ checkpoint r
checkpoint_of e = ap checkpoint e
