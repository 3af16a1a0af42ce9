-- The version of the interface: it changes when a declaration, a layout or the meaning of a call does.
use Rattle.std.specs.Prelude.{ℕ}

abbrev pub version : ℕ
version = 5
