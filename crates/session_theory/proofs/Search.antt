-- A search on accepted tables, and the names that the theory of its session uses. Processes count from 0.
use mathlib.Core.Path.{◌≡◌}
use mathlib.Core.Bool.{Bool, true}
use Prim.Native.Nat.{ℕ, ◌+◌, ◌-◌, ◌*◌, ◌≤◌, ◌<◌}
use Rattle.book.specs.declared.Process.{Process}
use Rattle.book.specs.Lent.{Tables}
use Rattle.book.specs.Accepted.{AreAccepted}
use Rattle.lists.specs.Over.{sum_to}
use Rattle.line_theory.specs.Sets.{View, newer_than}
use Rattle.line_theory.specs.Search.{line}
use Rattle.line_theory.specs.OfTables.{view_of}
use Rattle.book.specs.Names.{is_named, is_purpose}
use Rattle.machine.specs.Own.{Own, own_of}
use Rattle.machine.specs.Named.{is_participant}

-- the tables, who began, and what for
pub record Search : Type 0 where
  pub tables : Tables
  pub initiator : Process
  pub purpose : ℕ

-- what a start has asked
pub record IsSearch (g : Search) : Type 0 where
  pub accepted : AreAccepted g.tables
  pub named : is_named g.tables.shape.n g.initiator.0 ≡ true
  pub purposed : is_purpose g.purpose ≡ true

abbrev pub size : Search → ℕ
size g = g.tables.shape.n

-- the initiator
abbrev pub lead : Search → ℕ
lead g = g.initiator.0 - 1

abbrev pub is_part : Search → ℕ → Bool
is_part g k = is_participant (size g) (lead g) k

abbrev pub own_in : Search → ℕ → Own
own_in g j = own_of g.tables j

abbrev pub view_in : Search → View
view_in g = view_of g.tables

abbrev pub line_in : Search → ℕ → ℕ
line_in g j = line (view_in g) j

-- what process j's checkpoint r had sent to process p
abbrev pub sent_in : Search → ℕ → ℕ → ℕ → ℕ
sent_in g j r p = (view_in g).S j r p

-- T
abbrev pub passed_in : Search → ℕ
passed_in g = newer_than (view_in g) (line_in g)

-- the most messages that can be delivered
abbrev pub most : Search → ℕ
most g = (size g - 1) * (2 * passed_in g + 5)

-- a set from the line up to another
abbrev pub Between : Search → (ℕ → ℕ) → (ℕ → ℕ) → Type 0
Between g c d = (j : ℕ) → j < size g → (line_in g j ≤ c j) × (c j ≤ d j)

-- how far it is above the line
abbrev pub height : Search → (ℕ → ℕ) → ℕ
height g c = sum_to (size g) (λ j. c j - line_in g j)
