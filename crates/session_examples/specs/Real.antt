-- There is something that demand 3 speaks of: a real book meets what it assumes.
use Rattle.std.specs.Prelude.{◌≤◌, length, replicate}
use Rattle.strands.specs.Strands.{room_for_all}
use Rattle.demand3.specs.Statement.{Beginning, IsAccepted, Searches, shape_left}
use Rattle.session_examples.specs.Books.{blank, k1}

-- K example 1, searched by process 1 with purpose 3, on strands with room for all messages
abbrev pub real_book : Beginning
real_book =
    record {
      bytes = k1;
      sent = blank;
      received = blank;
      initiator = record { 0 = 1 };
      purpose = 3;
      strands = replicate (room_for_all 3) 0;
    }

-- A real book meets what demand 3 assumes, and what its last clause assumes of the bytes lent.
abbrev pub RealBook : Type 0
RealBook =
    IsAccepted real_book × Searches real_book × (room_for_all (shape_left real_book).n ≤ length real_book.strands)
