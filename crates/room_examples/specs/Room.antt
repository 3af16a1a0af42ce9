-- The bytes that demand 3 asks of the strands are needed, for every number of processes: with one fewer a turn can be refused.
use Rattle.std.specs.Prelude.{◌≡◌, true, List, [], ◌∷◌, ◌++◌, ℕ, ◌+◌, ◌-◌, ◌≤◌, length, replicate}
use Rattle.varint.specs.Sequence.{encode_all}
use Rattle.book.specs.declared.Process.{Process}
use Rattle.book.specs.Bounds.{mark, most_processes}
use Rattle.book.specs.Layout.{Book, width, book_numbers}
use Rattle.strands.specs.Strands.{room_for_all}
use Rattle.session.specs.Workers.{waits_on}
use Rattle.demand3.specs.Statement.{Beginning, IsAccepted, Searches, shape_left, after, next_question}
use Rattle.session_examples.specs.Books.{blank}

-- n processes with one checkpoint each, but for the last process: its second checkpoint has sent every other process as many
-- messages as a counter can hold, so that its first report is as long as a message can be
abbrev pub long_report : ℕ → Book
long_report n =
    let oldest : List ℕ = replicate (width n) 0 in
    record {
      n = n;
      processes =
          replicate (n - 1) (oldest ∷ [])
          ++ ((oldest ∷ ((replicate (n - 1) (mark - 1) ++ replicate (n - 1) 0) ∷ [])) ∷ []);
    }

-- searched by process 1, on strands that are one byte too short
abbrev pub short_strands : ℕ → Beginning
short_strands n =
    record {
      bytes = encode_all (book_numbers (long_report n));
      sent = blank;
      received = blank;
      initiator = record { 0 = 1 };
      purpose = 3;
      strands = replicate (room_for_all n - 1) 0;
    }

-- an accepted search of n processes, on strands that are one byte too short: right after its start a message waits, and
-- the turn that names its strand is refused, since the reply to it does not fit
pub record IsRefusedByRoom (n : ℕ) (b : Beginning) (p : Process) : Type 0 where
  pub accepted : IsAccepted b
  pub searches : Searches b
  pub processes : (shape_left b).n ≡ n
  pub one_fewer : length b.strands + 1 ≡ room_for_all n
  pub named : 1 ≤ p.0
  pub waits : waits_on (after b []).session (p.0 - 1) ≡ true
  pub refused : next_question b [] p ≡ 17

-- With one byte fewer than there is room for all in, question 17 can refuse such a turn, whatever n is (with 1 there is no turn).
abbrev pub FewerCanFail : Type 0
FewerCanFail =
    (n : ℕ) → 2 ≤ n → n ≤ most_processes → IsRefusedByRoom n (short_strands n) (record { 0 = n })
