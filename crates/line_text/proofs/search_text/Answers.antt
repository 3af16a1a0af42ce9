-- `search_text` meets its contract: by whether the read is accepted; then the search is.
use Rattle.book.proofs.Refusals.{refused_by, is_refused, is_accepted, value_is}
use Rattle.line_text.proofs.Lines.{says_refusal, refused_line, few_read, search_passes, accepted_line}
use Rattle.line_text.proofs.search_text.Goals as goal

pub returns-in_err-shape : goal.returns-in_err-shape
returns-in_err-shape c =
    let e = c.in_err-shape.field-0.0 in
    says_refusal _ e c.from_residual.ensures.1 (λ f same. same)
    (refused_line c.args.bytes.now _ _ c.table_inside-sent.ensures c.table_inside-received.ensures e
    (refused_by _ _ c.read.ensures.answer c.in_err-shape.was))

pub returns-in_err-found : goal.returns-in_err-found
returns-in_err-found c =
    let h = c.read.ensures.answer in
    let was = c.in_ok-shape.was in
    absurd (is_refused _ _ c.search.ensures.answer c.in_err-found.was
    (search_passes c.args.bytes.now _ _ c.table_inside-sent.ensures c.table_inside-received.ensures (is_accepted _ _ h was) (value_is _ _ h was)
    c.read.ensures.sent
    c.read.ensures.received))

pub found_text-requires : goal.found_text-requires
found_text-requires c =
    let h = c.read.ensures.answer in
    let was = c.in_ok-shape.was in
    few_read c.args.bytes.now _ _ c.table_inside-sent.ensures c.table_inside-received.ensures (is_accepted _ _ h was) (value_is _ _ h was)

pub returns : goal.returns
returns c =
    let h = c.read.ensures.answer in
    let was = c.in_ok-shape.was in
    accepted_line c.args.bytes.now _ _ c.table_inside-sent.ensures c.table_inside-received.ensures (is_accepted _ _ h was) (value_is _ _ h was)
    c.read.ensures.sent
    c.read.ensures.received
    _
    c.found_text.result
    (value_is _ _ c.search.ensures.answer c.in_ok-found.was)
    c.found_text.ensures
