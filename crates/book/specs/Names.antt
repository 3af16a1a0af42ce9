-- Document 01: what a call, a state or a message may name.
use Rattle.std.specs.Prelude.{Bool, ◌&&◌, ℕ, leb}

-- "Process numbers run from 1 to n"; question 10: "Is each process named from 1 to n ..?"
abbrev pub is_named : ℕ → ℕ → Bool
is_named n process = leb 1 process && leb process n

-- 01's purposes: "1 advance the line, 2 restart only, 3 advance and restart"; question 11: "Is the purpose 1, 2 or 3?"
abbrev pub is_purpose : ℕ → Bool
is_purpose purpose = leb 1 purpose && leb purpose 3
