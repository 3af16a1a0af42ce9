-- One of two values, by a test.
use Rattle.std.specs.Prelude.{Bool, true, false}

abbrev pub pick : {A : Type 0} → Bool → A → A → A
pick true yes' no' = yes'
pick false yes' no' = no'
