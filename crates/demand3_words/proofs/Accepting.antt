-- With slices of words of their lengths, the exported calls accept where the calls inside do.
use mathlib.Core.Path.{◌≡◌, ◌∙◌}
use mathlib.Core.Bool.{◌&&◌}
use mathlib.Core.List.{List}
use Prim.Native.Nat.{ℕ}
use borrow.Author.Tests.{eq-eqb}
use lib.ListN.{length}
use Rattle.book.specs.Lent.{lent}
use Rattle.book.specs.declared.Shape.{Shape}
use Rattle.book.specs.InTurn.{ask}
use Rattle.book.specs.Check.{tables_question}
use Rattle.book.specs.Read.{read_question}
use Rattle.book.proofs.Questions.{then_both, ask_yes}
use Rattle.lists.proofs.Tests.{both_and}
use Rattle.session.specs.Calls.{start_question}
use Rattle.words.specs.Words.{shape_length, set_length, wrong_length, is_long}
use Rattle.words.specs.Session.{session_length}
use Rattle.words.specs.Plain.{shape_in}
use Rattle.recovery_line.specs.Machines.{as_process}
use Rattle.recovery_line.specs.Books.{shape_question, read_answer}
use Rattle.recovery_line.specs.Lines.{find_answer}
use Rattle.recovery_line.specs.Sessions.{start_answer}
use Rattle.demand3.specs.Statement.{IsAccepted, shape_left}
use Rattle.demand3.proofs.Start.{is_search_lem}
use Rattle.demand3_words.specs.Statement.{Lent, shape_given, sent_given, received_given}
use Rattle.demand3_words.specs.Beside.{HasLengths, inside, AcceptsAsInside}
use Rattle.demand3_words.proofs.Given.{shape_long, shape_is, sent_given_lem, received_given_lem}

-- two slices that have their lengths
both_long : (k m : ℕ) (a b : List ℕ) → length a ≡ k → length b ≡ m → ask wrong_length (is_long k a && is_long m b) ≡ 0
both_long k m a b x y =
    ask_yes wrong_length (is_long k a && is_long m b) (both_and (is_long k a) (is_long m b) (eq-eqb (length a) k x) (eq-eqb (length b) m y))

module _ (b : Lent) (long : HasLengths b) (accepted : IsAccepted (inside b)) where
  reads : read_answer b.bytes b.shape b.sent b.received ≡ 0
  unfolding read_answer
  reads =
      then_both (shape_question b.shape) (λ _. read_question b.bytes b.sent b.received)
      (ask_yes wrong_length (is_long shape_length b.shape) (eq-eqb (length b.shape) shape_length long.shape)) accepted.read

  abbrev given : Shape
  given = shape_in (shape_given b)

  same : given ≡ shape_left (inside b)
  same = shape_is b reads (is_search_lem (inside b) accepted).accepted.sixteen

  finds : find_answer (shape_given b) (sent_given b) (received_given b) b.line ≡ 0
  unfolding find_answer
  finds =
      then_both (ask wrong_length (is_long shape_length (shape_given b) && is_long set_length b.line))
      (λ _. tables_question (lent given (sent_given b) (received_given b)))
      (both_long shape_length set_length (shape_given b) b.line (shape_long b reads) long.line)
      ((λ i. tables_question (lent (same i) (sent_given_lem b reads i) (received_given_lem b reads i))) ∙ (is_search_lem (inside b) accepted).accepted.passed)

  starts : start_answer (shape_given b) (sent_given b) (received_given b) b.initiator b.purpose b.session b.strands ≡ 0
  unfolding start_answer
  starts =
      then_both (ask wrong_length (is_long shape_length (shape_given b) && is_long session_length b.session))
      (λ _. start_question (lent given (sent_given b) (received_given b)) (as_process b.initiator) b.purpose b.strands)
      (both_long shape_length session_length (shape_given b) b.session (shape_long b reads) long.session)
      ((λ i. start_question (lent (same i) (sent_given_lem b reads i) (received_given_lem b reads i)) (as_process b.initiator) b.purpose b.strands)
      ∙ accepted.start)

pub accepts_as_inside : AcceptsAsInside
accepts_as_inside b long accepted =
    record { read = reads b long accepted; find = finds b long accepted; start = starts b long accepted }
