use mathlib.Core.Path.{refl, sym, subst}
use mathlib.Core.List.{List}
use Prim.Native.Nat.{ℕ, ◌+◌}
use native.Mathlib.Omega.{arith}
use lib.ListN.{replicate}
use Rattle.strands.proofs.Posting.{Posted, posted_none, posted_room, posted_more, posted_all, waits_new, waits_still}
use Rattle.strands.proofs.post.Goals as goal
use Rattle.strands.proofs.post.Goals.{then-to-k, else-to-k}

pub loop-k-init : goal.loop-k-init
loop-k-init c = let a = c.args in
    posted_none a.n a.initiator a.outgoing a.lengths a.strands.now (omega arith)

pub post_to-size-requires : goal.post_to-size-requires
post_to-size-requires c = let a = c.args in
    let there = c.loop-k-test.true in
    record {
      le_n = c.requires.le_n;
      k_bound = there;
      strands_value = posted_room a.n a.initiator a.outgoing a.lengths a.strands.now c.loop-k.invariant c.requires.strands_value there;
    }

pub loop-k-preserved : goal.loop-k-preserved
loop-k-preserved c = let l = c.loop-k in
    let a = c.args in
    let stored = c.post_to-size.ensures in
    let P : List ℕ → Type 0 =
    Posted a.n a.initiator a.outgoing a.lengths a.strands.now (replicate 16 0) (l.k + 1) c.post_to-size.new.strands in
    let more = posted_more a.n a.initiator a.outgoing a.lengths a.strands.now l.invariant c.loop-k-test.true stored.strands_after in
    elim c.if-to-k.branch [
      | then-to-k w ↦ subst P (sym w.next-is) (more _ (waits_new a.outgoing a.lengths l.k w.if-to-k.true stored.value))
      | else-to-k w ↦ subst P (sym w.next-is) (more _ (waits_still a.outgoing a.lengths l.k w.if-to-k.false))
    ]

pub shape_of-strands : goal.shape_of-strands
shape_of-strands c = c.loop-k.invariant.same

pub returns : goal.returns
returns c = let a = c.args in
    let both = posted_all a.n a.initiator a.outgoing a.lengths a.strands.now c.loop-k.invariant refl c.loop-k-test.false in
    record { value = both.0; strands_after = both.1 }
