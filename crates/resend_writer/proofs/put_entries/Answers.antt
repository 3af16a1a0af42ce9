use mathlib.Core.Path.{sym, ◌∙◌}
use Prim.Native.Nat.{ℕ}
use Rattle.consistency.specs.Known.{counters}
use Rattle.resend_writer.proofs.Turns.{put_none, put_room, put_more, put_same, put_all, put_came}
use Rattle.resend_writer.proofs.put_entries.Goals as goal
use Rattle.resend_writer.proofs.put_entries.Goals.{then-has_entry, else-has_entry}

pub loop-i-init : goal.loop-i-init
loop-i-init c = let list = c.args.list in put_none (counters list.first) (counters list.last) _ _

pub put_entry-next-requires : goal.put_entry-next-requires
put_entry-next-requires c = let there = c.loop-i-test.true in
    let list = c.args.list in
    (there, put_room (counters list.first) (counters list.last) _ _ c.loop-i.invariant there c.requires (sym c.has_entry.ensures ∙ c.if-has_entry.true))

pub loop-i-preserved : goal.loop-i-preserved
loop-i-preserved c =
    let first : ℕ → ℕ = counters c.args.list.first in
    let last : ℕ → ℕ = counters c.args.list.last in
    let there = c.loop-i-test.true in
    let has = sym c.has_entry.ensures in
    let l = c.loop-i in
    elim c.if-has_entry.branch [
      | then-has_entry w ↦
          let e = w.put_entry-next.ensures in
          put_came w.out-is w.next-is (put_more first last _ _ l.invariant there (has ∙ w.if-has_entry.true) (e.value, e.out_after))
      | else-has_entry w ↦ put_came w.out-is w.next-is (put_same first last _ _ l.invariant there (has ∙ w.if-has_entry.false))
    ]

pub returns : goal.returns
returns c = let both = let list = c.args.list in
    put_all (counters list.first) (counters list.last) _ _ c.loop-i.invariant c.loop-i-test.false in record { value = both.0; out_after = both.1 }
