use mathlib.Core.Path.{refl, ap}
use mathlib.Core.List.{List}
use Prim.Native.Nat.{ℕ, ◌+◌, ◌≤◌, ◌<◌}
use native.Mathlib.Omega.{arith}
use lib.ListN.{length}
use Rattle.lists.proofs.Filling.{filled_none, filled_more, filled_all}
use Rattle.mail.specs.declared.Outgoing.{Outgoing}
use Rattle.mail.specs.Outgoing.{bytes_to, mail_to, mail}
use Rattle.mail.proofs.Turns.{Put, put_none, put_room, put_more, put_all, part_room, part_stored}
use Rattle.mail.proofs.Messages.{mail_parts}
use Rattle.mail.proofs.put_mail.Goals as goal

pub loop-p-init : goal.loop-p-init
loop-p-init c = (put_none (mail_parts c.args.outgoing) c.args.out.now 0, filled_none (omega arith))

-- there is room for the next message
room : (outgoing : Outgoing) (out₀ out : List ℕ) {p at : ℕ} → length (mail outgoing) ≤ length out₀
    → Put (λ (k : ℕ). mail_to k outgoing) out₀ 0 p out at → p < 16 → at + length (bytes_to outgoing p) ≤ length out
room outgoing out₀ out h put l = put_room (mail_parts outgoing) out₀ 0 (omega arith) put l

pub slice_bounds-put_to-start : goal.slice_bounds-put_to-start
slice_bounds-put_to-start c = omega (arith, room c.args.outgoing c.args.out.now c.loop-p.out c.requires c.loop-p.invariant.0 c.loop-p-test.true)

pub slice_bounds-put_to-count : goal.slice_bounds-put_to-count
slice_bounds-put_to-count c = omega (arith, room c.args.outgoing c.args.out.now c.loop-p.out c.requires c.loop-p.invariant.0 c.loop-p-test.true)

pub put_to-size-requires : goal.put_to-size-requires
put_to-size-requires c = let bytes = bytes_to c.args.outgoing c.loop-p.p in
    (c.loop-p-test.true, part_room bytes c.loop-p.out c.loop-p.at (room c.args.outgoing c.args.out.now c.loop-p.out c.requires c.loop-p.invariant.0 c.loop-p-test.true))

pub overflow_add-at : goal.overflow_add-at
overflow_add-at c = omega (arith, room c.args.outgoing c.args.out.now c.loop-p.out c.requires c.loop-p.invariant.0 c.loop-p-test.true)

pub loop-p-preserved : goal.loop-p-preserved
loop-p-preserved c = let l = c.loop-p in
    let bytes = bytes_to c.args.outgoing l.p in
    let size = c.put_to-size.ensures.value in
    let stored = part_stored bytes l.out l.at (room c.args.outgoing c.args.out.now c.loop-p.out c.requires c.loop-p.invariant.0 c.loop-p-test.true) c.put_to-size.ensures.out_after in (
      put_more (mail_parts c.args.outgoing) c.args.out.now 0 l.invariant.0 c.loop-p-test.true (ap (λ (n : ℕ). l.at + n) size, stored),
      filled_more l.invariant.1 c.loop-p-test.true size,
    )

pub shape_of-out : goal.shape_of-out
shape_of-out c = c.loop-p.invariant.0.same

pub returns : goal.returns
returns c =
    let l = c.loop-p in
    record {
      value = filled_all l.invariant.1 refl c.loop-p-test.false;
      out_after = (put_all (mail_parts c.args.outgoing) c.args.out.now 0 l.invariant.0 c.loop-p-test.false).1;
    }
