-- The laws of one process's checkpoints, for both machines.
use Rattle.std.specs.Prelude.{◌≡◌, true, List, ℕ, ◌≤◌, ◌<◌}
use Rattle.book.specs.declared.Count.{Count}
use Rattle.book.specs.Bounds.{most_processes}
use Rattle.book.specs.Lent.{Tables}
use Rattle.book.specs.Accepted.{AreAccepted}
use Rattle.line_theory.specs.Sets.{View}
use Rattle.line_theory.specs.Search.{sent_to, line}
use Rattle.line_theory.specs.OfTables.{view_of}
use Rattle.consistency.specs.Known.{counters}
use Rattle.machine.specs.Own.{Own, own_of, has_checkpoint, sent_row, newest_permitted}
use Rattle.machine_laws.specs.Own.{IsOwn, Agree}

-- The checkpoints of a process in accepted tables are as the laws want them.
abbrev pub AcceptedIsOwn : Type 0
AcceptedIsOwn =
    (tables : Tables) (j : ℕ) → AreAccepted tables → j < tables.shape.n → IsOwn (own_of tables j) j

-- The newest permitted checkpoint exists,
abbrev pub NewestExists : Type 0
NewestExists =
    (own : Own) (j : ℕ) (known : List Count) → IsOwn own j → has_checkpoint own (newest_permitted own known) ≡ true

-- and is no later when less is known to be sent.
abbrev pub NewestFalls : Type 0
NewestFalls =
    (own : Own) (known known' : List Count) → ((p : ℕ) → p < own.n → counters known' p ≤ counters known p)
    → newest_permitted own known' ≤ newest_permitted own known

-- An earlier checkpoint had sent no more.
abbrev pub SentFalls : Type 0
SentFalls =
    (own : Own) (j r r' p : ℕ) → IsOwn own j → p < most_processes → 1 ≤ r' → r' ≤ r → r ≤ own.count
    → own.S r' p ≤ own.S r p

-- Locality: where two tables agree on the own checkpoints, the newest permitted one and the sent counters are the same.
abbrev pub SameNewest : Type 0
SameNewest = (a b : Own) (known : List Count) → Agree a b → newest_permitted a known ≡ newest_permitted b known

abbrev pub SameRow : Type 0
SameRow =
    (a b : Own) (j r : ℕ) → IsOwn a j → IsOwn b j → Agree a b → 1 ≤ r → r ≤ a.count → sent_row a r ≡ sent_row b r

-- As long as the known counters are at or above what the line's checkpoints have sent, the newest permitted checkpoint is at
-- or above the line's.
abbrev pub StaysAboveLine : Type 0
StaysAboveLine =
    (tables : Tables) (j : ℕ) (known : List Count) → AreAccepted tables → j < tables.shape.n
    → let v : View = view_of tables in
    ((p : ℕ) → p < tables.shape.n → sent_to v (line v) j p ≤ counters known p)
    → line v j ≤ newest_permitted (own_of tables j) known
