-- Document 01: "Two lent tables, sent and received" of "4,096 numbers of 32 bits each"; "In tables, n and sixteen counts go with the
-- rows."
use Rattle.std.specs.Prelude.{List, ℕ}
use Rattle.book.specs.declared.Shape.{Shape}

-- lent tables, with the shape that goes with them
pub record Tables : Type 0 where
  pub shape : Shape
  pub sent : List ℕ
  pub received : List ℕ

-- those that a call is lent
abbrev pub lent : Shape → List ℕ → List ℕ → Tables
lent shape sent received = record { shape = shape; sent = sent; received = received }
