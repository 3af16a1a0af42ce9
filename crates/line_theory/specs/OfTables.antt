-- The view of lent tables, for the theory of the line.
use Rattle.std.specs.Prelude.{ℕ}
use Rattle.book.specs.Lent.{Tables}
use Rattle.book.specs.View.{count, S, R}
use Rattle.line_theory.specs.Sets.{View}

abbrev pub view_of : Tables → View
view_of tables =
    record {
      n = tables.shape.n;
      count = count tables.shape;
      S = S tables.shape tables.sent;
      R = R tables.shape tables.received;
    }
