-- `below` meets its contract: the bytes within the strand's slot.
use mathlib.Core.Path.{subst, sym}
use mathlib.Core.Bool.{true≢false}
use mathlib.Core.List.{List}
use Prim.Native.Nat.{ℕ, ◌+◌, ◌-◌, ◌≤◌}
use native.Mathlib.Omega.{arith}
use lib.ListN.{length}
use Rattle.session_check.specs.Parts.{bytes_on, Told}
use Rattle.session_check.proofs.Strand.{within_is}
use Rattle.session_check.proofs.Holding.{told_nothing, no_bytes, its_bytes}
use Rattle.session_check.proofs.held.below.Goals as goal

pub returns-then-waits-eq0 : goal.returns-then-waits-eq0
returns-then-waits-eq0 c =
    let a = c.args in
    let of = a.initiator.0 - 1 in
    record { told = told_nothing a.n a.initiator.0 a.p a.k (bytes_on a.n of a.waits a.strands.now a.k) (no_bytes a.n of a.waits a.strands.now a.k c.if-waits-eq0.true); waits_in_bounds = λ h. absurd (true≢false (sym h)) }

pub overflow_add-end : goal.overflow_add-end
overflow_add-end c =
    let a = c.args in
    let room : c.strand_start-at.result + a.waits ≤ length a.strands.now = let near = within_is a.n (a.initiator.0 - 1) a.k a.waits (length a.strands.now) c.if-waits-eq0.false c.requires.strands_value in
    omega (arith, near, c.strand_start-at.ensures.value) in
    omega (arith, room)

pub returns : goal.returns
returns c =
    let a = c.args in
    let room : c.strand_start-at.result + a.waits ≤ length a.strands.now = let near = within_is a.n (a.initiator.0 - 1) a.k a.waits (length a.strands.now) c.if-waits-eq0.false c.requires.strands_value in
    omega (arith, near, c.strand_start-at.ensures.value) in
    let told : List ℕ → Type 0 = λ s. Told a.n a.initiator.0 a.p a.k s c.held_below.result in
    let its = its_bytes a.n (a.initiator.0 - 1) a.waits a.strands.now a.k c.strand_start-at.ensures.value in
    record { told = subst told its c.held_below.ensures; waits_in_bounds = λ _. omega (arith, room, c.strand_start-at.ensures.value) }
