-- `varint::read_five` meets its contract: each group is one turn of `read_number`'s loop.
-- Assumes nothing.
use Rattle.std.proofs.Common.{◌∙◌, arith}
use Rattle.varint.proofs.ReadTurns.{turn_long, five_begun, five_first, five_ending, five_ended, five_more}
use Rattle.varint.proofs.read_five.Goals as goal

pub returns-then-b0-lt128 : goal.returns-then-b0-lt128
returns-then-b0-lt128 c =
    c.ended.ensures ∙ five_begun _ _ _ c.from-b0.ensures c.requires _ c.if-b0-lt128.true

pub ended-requires-then-b1-lt128 : goal.ended-requires-then-b1-lt128
ended-requires-then-b1-lt128 c =
    let after1 = five_first _ _ _ c.from-b0.ensures c.requires c.if-b0-lt128.false (omega arith) in
    five_ending _ _ _ _ _ c.from-b1.ensures (omega arith) after1 c.if-b1-lt128.true

pub returns-then-b1-lt128 : goal.returns-then-b1-lt128
returns-then-b1-lt128 c =
    let after1 = five_first _ _ _ c.from-b0.ensures c.requires c.if-b0-lt128.false (omega arith) in
    c.ended-then-b1-lt128.ensures ∙ five_ended _ _ _ _ _ c.from-b1.ensures (omega arith) after1 _ c.if-b1-lt128.true

pub ended-requires-then-b2-lt128 : goal.ended-requires-then-b2-lt128
ended-requires-then-b2-lt128 c =
    let after1 = five_first _ _ _ c.from-b0.ensures c.requires c.if-b0-lt128.false (omega arith) in
    let after2 = five_more _ _ _ _ _ c.from-b1.ensures (omega arith) after1 c.if-b1-lt128.false (omega arith) in
    five_ending _ _ _ _ _ c.from-b2.ensures (omega arith) after2 c.if-b2-lt128.true

pub returns-then-b2-lt128 : goal.returns-then-b2-lt128
returns-then-b2-lt128 c =
    let after1 = five_first _ _ _ c.from-b0.ensures c.requires c.if-b0-lt128.false (omega arith) in
    let after2 = five_more _ _ _ _ _ c.from-b1.ensures (omega arith) after1 c.if-b1-lt128.false (omega arith) in
    c.ended-then-b2-lt128.ensures ∙ five_ended _ _ _ _ _ c.from-b2.ensures (omega arith) after2 _ c.if-b2-lt128.true

pub ended-requires-then-b3-lt128 : goal.ended-requires-then-b3-lt128
ended-requires-then-b3-lt128 c =
    let after1 = five_first _ _ _ c.from-b0.ensures c.requires c.if-b0-lt128.false (omega arith) in
    let after2 = five_more _ _ _ _ _ c.from-b1.ensures (omega arith) after1 c.if-b1-lt128.false (omega arith) in
    let after3 = five_more _ _ _ _ _ c.from-b2.ensures (omega arith) after2 c.if-b2-lt128.false (omega arith) in
    five_ending _ _ _ _ _ c.from-b3.ensures (omega arith) after3 c.if-b3-lt128.true

pub returns-then-b3-lt128 : goal.returns-then-b3-lt128
returns-then-b3-lt128 c =
    let after1 = five_first _ _ _ c.from-b0.ensures c.requires c.if-b0-lt128.false (omega arith) in
    let after2 = five_more _ _ _ _ _ c.from-b1.ensures (omega arith) after1 c.if-b1-lt128.false (omega arith) in
    let after3 = five_more _ _ _ _ _ c.from-b2.ensures (omega arith) after2 c.if-b2-lt128.false (omega arith) in
    c.ended-then-b3-lt128.ensures ∙ five_ended _ _ _ _ _ c.from-b3.ensures (omega arith) after3 _ c.if-b3-lt128.true

pub ended-requires-then-b4-lt128 : goal.ended-requires-then-b4-lt128
ended-requires-then-b4-lt128 c =
    let after1 = five_first _ _ _ c.from-b0.ensures c.requires c.if-b0-lt128.false (omega arith) in
    let after2 = five_more _ _ _ _ _ c.from-b1.ensures (omega arith) after1 c.if-b1-lt128.false (omega arith) in
    let after3 = five_more _ _ _ _ _ c.from-b2.ensures (omega arith) after2 c.if-b2-lt128.false (omega arith) in
    let after4 = five_more _ _ _ _ _ c.from-b3.ensures (omega arith) after3 c.if-b3-lt128.false (omega arith) in
    five_ending _ _ _ _ _ c.from-b4.ensures (omega arith) after4 c.if-b4-lt128.true

pub returns-then-b4-lt128 : goal.returns-then-b4-lt128
returns-then-b4-lt128 c =
    let after1 = five_first _ _ _ c.from-b0.ensures c.requires c.if-b0-lt128.false (omega arith) in
    let after2 = five_more _ _ _ _ _ c.from-b1.ensures (omega arith) after1 c.if-b1-lt128.false (omega arith) in
    let after3 = five_more _ _ _ _ _ c.from-b2.ensures (omega arith) after2 c.if-b2-lt128.false (omega arith) in
    let after4 = five_more _ _ _ _ _ c.from-b3.ensures (omega arith) after3 c.if-b3-lt128.false (omega arith) in
    c.ended-then-b4-lt128.ensures ∙ five_ended _ _ _ _ _ c.from-b4.ensures (omega arith) after4 _ c.if-b4-lt128.true

pub returns : goal.returns
returns c =
    let after1 = five_first _ _ _ c.from-b0.ensures c.requires c.if-b0-lt128.false (omega arith) in
    let after2 = five_more _ _ _ _ _ c.from-b1.ensures (omega arith) after1 c.if-b1-lt128.false (omega arith) in
    let after3 = five_more _ _ _ _ _ c.from-b2.ensures (omega arith) after2 c.if-b2-lt128.false (omega arith) in
    let after4 = five_more _ _ _ _ _ c.from-b3.ensures (omega arith) after3 c.if-b3-lt128.false (omega arith) in
    let after5 = five_more _ _ _ _ _ c.from-b4.ensures (omega arith) after4 c.if-b4-lt128.false (omega arith) in
    turn_long _ _ _ _ _ _ _ _ (omega arith) after5.sofar
