-- The answer of a test of one checkpoint, and the newest checkpoint that is permitted, turn by turn.
use mathlib.Core.Path.{◌≡◌, refl, sym, ap, ◌∙◌}
use mathlib.Core.Bool.{Bool, true, false, not}
use mathlib.Core.Option as found
use Prim.Native.Nat.{ℕ, zero, suc, ◌+◌, ◌-◌, ◌≤◌, ◌<◌}
use native.Mathlib.Numerals.{add-one}
use native.Mathlib.Omega.{arith}
use lib.Dec.{ltb}
use Rattle.std.specs.Prelude.{Option, Some, None, is_some}
use Rattle.book.specs.declared.Process.{Process}
use Rattle.lists.specs.Over.{last_to}
use Rattle.lists.proofs.Over.{last_yes, last_no}
use Rattle.lists.proofs.Lowest.{lowest_ext}
use Rattle.lists.proofs.Before.{Before}
use Rattle.line_theory.specs.Search.{permitted, lowest_offending, newest}
use Rattle.line_theory.proofs.Tests.{permitted_out, refused_by}
use Rattle.line_theory.proofs.Theorems.{partner_is_lowest, none_offends_is_permitted}
use Rattle.consistency.specs.Known.{named_as}

-- a number from 1 on is one more than the same from 0 on
pub from_one : (p : ℕ) → p + 1 - 1 ≡ p
from_one p = omega arith

-- a partner, numbered from 1 where its counter is read
pub known_here : (row known : ℕ → ℕ) (p : ℕ) → row (p + 1 - 1) ≤ known p → row p ≤ known p
known_here row known p here = rw from_one at here

-- the partner at which the test stops is the lowest that offends
pub offends : (n : ℕ) (row known : ℕ → ℕ) (p : ℕ) → Before n (λ q. row q ≤ known q) p → p < n → known p < row (p + 1 - 1)
    → Some (record { 0 = p + 1 }) ≡ named_as (lowest_offending n row known)
offends n row known p before i h =
    let here : known p < row p = rw from_one at h in
    let here_first : lowest_offending n row known ≡ found.some p
    = (partner_is_lowest n row known p).1 record { partner = i; more = here; lower = before.so_far } in
    ap (λ (q : ℕ). Some (record { 0 = q })) (add-one p) ∙ sym (ap named_as here_first)

pub nobody_offends : (n : ℕ) (row known : ℕ → ℕ) → ((p : ℕ) → p < n → row p ≤ known p)
    → None ≡ named_as (lowest_offending n row known)
nobody_offends n row known h =
    sym (ap named_as ((none_offends_is_permitted n row known).1 (permitted_out n row known h)))

-- the answer as a truth value
pub permits_is : (n : ℕ) (row known : ℕ → ℕ) (a : Option Process) → a ≡ named_as (lowest_offending n row known)
    → permitted n row known ≡ not (is_some a)
permits_is n row known a told = go (lowest_offending n row known) refl ∙ ap (λ (b : Option Process). not (is_some b)) (sym told)
  where
    go : (o : found.Option ℕ) → lowest_offending n row known ≡ o → permitted n row known ≡ not (is_some (named_as o))
    go found.none e = (none_offends_is_permitted n row known).0 e
    go (found.some p) e =
        let at = (partner_is_lowest n row known p).0 e in
        refused_by n row known p at.partner at.more

-- and as `is_none` tells it
pub permits_none : (n : ℕ) (row known : ℕ → ℕ) (a : Option Process) → a ≡ named_as (lowest_offending n row known)
    → (b : Bool) → is_some a ≡ not b → permitted n row known ≡ b
permits_none n row known a told b e = permits_is n row known a told ∙ ap not e ∙ twice b
  where
    twice : (v : Bool) → not (not v) ≡ v
    twice true = refl
    twice false = refl

-- only what is known of the n partners counts
pub offending_ext : (n : ℕ) (row known known' : ℕ → ℕ) → ((p : ℕ) → p < n → known p ≡ known' p)
    → lowest_offending n row known ≡ lowest_offending n row known'
offending_ext n row known known' e =
    lowest_ext n (λ p. ltb (known p) (row p)) (λ p. ltb (known' p) (row p)) (λ p i. rw (e p i))

-- ---- from a checkpoint back

pub newest_none : (n : ℕ) (rows : ℕ → ℕ → ℕ) (known : ℕ → ℕ) → newest n rows known 0 ≡ 0
unfolding newest last_to
newest_none n rows known = refl

pub newest_here : (n : ℕ) (rows : ℕ → ℕ → ℕ) (known : ℕ → ℕ) (r : ℕ) → 0 < r → permitted n (rows r) known ≡ true → newest n rows known r ≡ r
unfolding newest
newest_here n rows known zero h k = absurd (omega arith)
newest_here n rows known (suc r) h k = last_yes (λ s. permitted n (rows s) known) r k

pub newest_back : (n : ℕ) (rows : ℕ → ℕ → ℕ) (known : ℕ → ℕ) (r : ℕ) → 0 < r → permitted n (rows r) known ≡ false
    → newest n rows known r ≡ newest n rows known (r - 1)
unfolding newest
newest_back n rows known zero h k = absurd (omega arith)
newest_back n rows known (suc r) h k =
    let e : suc r - 1 ≡ r = omega arith in
    rw e (last_no (λ s. permitted n (rows s) known) r k)
