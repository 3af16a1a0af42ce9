-- What demand 3 for other languages assumes is met: with slices of words of their lengths, the exported calls accept where the
-- calls inside do.
use Rattle.std.specs.Prelude.{◌≡◌, length}
use Rattle.words.specs.Words.{shape_length, set_length}
use Rattle.words.specs.Session.{session_length}
use Rattle.demand3.specs.Statement.{Beginning, IsAccepted}
use Rattle.demand3_words.specs.Statement.{Lent, AllAccept}

pub record HasLengths (b : Lent) : Type 0 where
  pub shape : length b.shape ≡ shape_length
  pub line : length b.line ≡ set_length
  pub session : length b.session ≡ session_length

-- the same search, without words
abbrev pub inside : Lent → Beginning
inside b =
    record {
      bytes = b.bytes;
      sent = b.sent;
      received = b.received;
      initiator = record { 0 = b.initiator };
      purpose = b.purpose;
      strands = b.strands;
    }

abbrev pub AcceptsAsInside : Type 0
AcceptsAsInside = (b : Lent) → HasLengths b → IsAccepted (inside b) → AllAccept b
