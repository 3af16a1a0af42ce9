-- The calls `restart_order` and `move_line`: the questions of the tables, then 11.
use Rattle.std.specs.Prelude.{List, ℕ, replicate}
use Rattle.book.specs.Lent.{Tables}
use Rattle.book.specs.declared.Shape.{Shape}
use Rattle.book.specs.Bounds.{most_processes}
use Rattle.book.specs.Layout.{Book}
use Rattle.book.specs.Tables.{shape_of, sent_table, received_table}
use Rattle.book.specs.InTurn.{◌then◌, ask, unless_refused}
use Rattle.book.specs.Check.{tables_question}
use Rattle.line_theory.specs.OfTables.{view_of}
use Rattle.finder.specs.Line.{no_line}
use Rattle.book.specs.Names.{is_purpose}
use Rattle.shown.specs.Shown.{book_shown}
use Rattle.restart.specs.declared.Order.{Order}
use Rattle.restart.specs.declared.Resend.{Resend}
use Rattle.restart.specs.Plan.{planned, moved}
use Rattle.restart.specs.Values.{matrix_entries, order_of}

-- a list with nothing to send again
abbrev pub no_resend : Resend
no_resend = record { first = replicate matrix_entries (record { 0 = 0 }); last = replicate matrix_entries (record { 0 = 0 }) }

-- the order beside a refusal
abbrev pub no_order : Order
no_order =
    record {
      from = no_line;
      before = replicate most_processes 0;
      after = replicate most_processes 0;
      resend = no_resend;
    }

module _ (tables : Tables) (purpose : ℕ) where
  unfoldable pub move_question : ℕ
  move_question = tables_question tables then λ _. ask 11 (is_purpose purpose)

  -- the restart order, with the move or without it
  unfoldable pub order_given : Order
  order_given = unless_refused move_question no_order (order_of tables.shape.n (planned (view_of tables) purpose))

  -- the moved book
  unfoldable pub book_moved : Book
  book_moved = book_shown (moved (view_of tables) purpose)

  -- its shape, and what a move leaves in the two tables: every entry, also those that are unused afterwards
  unfoldable pub shape_moved : Shape
  shape_moved = unless_refused move_question tables.shape (shape_of book_moved)

  unfoldable pub sent_moved : List ℕ
  sent_moved = unless_refused move_question tables.sent (sent_table book_moved)

  unfoldable pub received_moved : List ℕ
  received_moved = unless_refused move_question tables.received (received_table book_moved)
