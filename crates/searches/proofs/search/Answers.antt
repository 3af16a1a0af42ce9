-- `search` meets its contract: the questions decide, and the session that ran has ended where a search ends.
use mathlib.Core.Path.{◌≡◌, ap, subst, ◌∙◌}
use borrow.Author.Rules.{rules}
use Rattle.accepted.specs.Holding.{tables_in}
use Rattle.accepted.proofs.Accepting.{refused_with, tables_are}
use Rattle.book.specs.Lent.{Tables, lent}
use Rattle.book.specs.Numbers.{number}
use Rattle.book.proofs.Refusals.{refused_by, is_accepted, hands_on, accepts}
use Rattle.searches.specs.Search.{search_question, search_end}
use Rattle.searches.proofs.Answers.{tables_refuse, tables_pass, searched_leader, set_among, search_accepted}
use Rattle.searches.proofs.Theorems.{search_ends}
use Rattle.searches.proofs.search.Goals as goal
use Rattle.searches.proofs.search.Goals.{In_ok-begin_question}

-- no question fails
passes : (c : In_ok-begin_question) → let a = c.args in search_question (tables_in c.in_ok-tables.tables) a.initiator a.purpose ≡ 0
passes c =
    let a = c.args in
    let tables = c.in_ok-tables.tables in
    tables_pass (tables_in tables) a.initiator a.purpose tables.passed.accepted.passed
    ∙ is_accepted _ _ c.begin_question.ensures c.in_ok-begin_question.was

pub returns-in_err-tables : goal.returns-in_err-tables
returns-in_err-tables c = let a = c.args in
    let t = lent a.shape a.sent.now a.received.now in
    let e = c.in_err-tables.field-0.0 in
    let fails = tables_refuse t a.initiator a.purpose e (refused_with _ t c.accept.ensures c.in_err-tables.was) in
    record {
      answer = hands_on _ e _ c.from_residual.ensures.1 (λ f same. same) fails;
      ended_there = search_ends t a.initiator a.purpose (search rules);
    }

pub returns-in_err-begin_question : goal.returns-in_err-begin_question
returns-in_err-begin_question c = let a = c.args in
    let t = lent a.shape a.sent.now a.received.now in
    let tables = c.in_ok-tables.tables in
    let e = c.in_err-begin_question.field-0.0 in
    let fails = subst (λ (u : Tables). search_question u a.initiator a.purpose ≡ number e)
    (tables_are _ t c.accept.ensures c.in_ok-tables.was)
    (tables_pass (tables_in tables) a.initiator a.purpose tables.passed.accepted.passed
    ∙ refused_by _ _ c.begin_question.ensures c.in_err-begin_question.was) in
    record {
      answer = hands_on _ e _ c.from_residual-in_err-begin_question.ensures.1 (λ f same. same) fails;
      ended_there = search_ends t a.initiator a.purpose (search rules);
    }

pub start_and_finish-ended-requires : goal.start_and_finish-ended-requires
start_and_finish-ended-requires c = passes (goal.at.start_and_finish-ended-requires c).In_ok-begin_question

pub stands-set-requires : goal.stands-set-requires
stands-set-requires c = let a = c.args in
    let tables = c.in_ok-tables.tables in
    searched_leader (tables_in tables) a.initiator a.purpose tables.passed.accepted.sixteen (passes (goal.at.stands-set-requires c).In_ok-begin_question)
    c.start_and_finish-ended.result
    c.start_and_finish-ended.ensures

pub newer-newer-requires : goal.newer-newer-requires
newer-newer-requires c = let a = c.args in
    let tables = c.in_ok-tables.tables in
    set_among (tables_in tables) a.initiator a.purpose tables.passed.accepted.sixteen (passes (goal.at.newer-newer-requires c).In_ok-begin_question)
    c.start_and_finish-ended.result
    c.stands-set.result
    c.start_and_finish-ended.ensures
    c.stands-set.ensures

pub returns : goal.returns
returns c = let a = c.args in
    let t = lent a.shape a.sent.now a.received.now in
    let tables = c.in_ok-tables.tables in
    let same = tables_are _ t c.accept.ensures c.in_ok-tables.was in
    let none = passes (goal.at.returns c).In_ok-begin_question in
    record {
      answer = accepts (subst (λ (u : Tables). search_question u a.initiator a.purpose ≡ 0) same none)
          (search_accepted (tables_in tables) a.initiator a.purpose tables.passed.accepted.sixteen none
          c.start_and_finish-ended.result
          c.stands-set.result
          c.start_and_finish-ended.ensures
          c.stands-set.ensures
          c.newer-newer.result
          c.newer-newer.ensures
          ∙ ap (λ (u : Tables). search_end u a.initiator a.purpose) same);
      ended_there = search_ends t a.initiator a.purpose (search rules);
    }
