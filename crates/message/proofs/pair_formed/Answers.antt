-- `pair_formed` meets its contract.
use mathlib.Core.Bool.{true, false}
use mathlib.Core.Path.{◌≡◌, refl, sym, ◌∙◌}
use native.Mathlib.Omega.{arith}
use Prim.Native.Nat.{ℕ, ◌<◌}
use borrow.Author.Tests.{lt-ltb, le-ltb, le-leb, lt-leb, ne_eqb}
use lib.Dec.{eqb}
use Rattle.std.specs.Prelude.{Option, Some, None}
use Rattle.std.specs.Option.{option_eq}
use Rattle.book.specs.declared.Process.{Process}
use Rattle.message.specs.Formed.{pair_formed}
use Rattle.message.specs.Parts.{end_number}
use Rattle.message.proofs.pair_formed.Goals as goal

-- a process is none's number never
names_end : (end : Option Process) (p : ℕ) → 0 < p → option_eq (λ (x y : Process). eqb x.0 y.0) (Some (record { 0 = p })) end ≡ eqb p (end_number end)
names_end None p h = sym (ne_eqb p 0 (λ e. absurd (omega arith)))
names_end (Some end) p h = refl

pub returns-then-process-last : goal.returns-then-process-last
unfolding pair_formed
returns-then-process-last c = let a = c.args in
    rw (le-ltb a.last a.process (omega arith))

pub returns-then-n-process : goal.returns-then-n-process
unfolding pair_formed
returns-then-n-process c = let a = c.args in
    rw (lt-ltb a.last a.process (omega arith), lt-leb a.process a.n c.if-n-process.true)

pub returns-then-eq : goal.returns-then-eq
unfolding pair_formed
returns-then-eq c = let a = c.args in
    let named : eqb a.process (end_number a.end) ≡ true = sym (names_end a.end a.process (omega arith)) ∙ sym c.eq.ensures ∙ c.if-eq.true in
    rw (lt-ltb a.last a.process (omega arith), le-leb a.process a.n c.if-n-process.false, named)

pub returns : goal.returns
unfolding pair_formed
returns c = let a = c.args in
    let other : eqb a.process (end_number a.end) ≡ false = sym (names_end a.end a.process (omega arith)) ∙ sym c.eq.ensures ∙ c.if-eq.false in
    rw (lt-ltb a.last a.process (omega arith), le-leb a.process a.n c.if-n-process.false, other)
