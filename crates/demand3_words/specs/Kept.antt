-- Every session that a call hands out has one form in words: its arrays have their lengths, its counters are at most the mark, and
-- its tallies below their bound (`SessionBack` of word_laws). No session of any search is asked for, and no answer: beside a refusal stands the session that
-- was there, or `no_session`.
use Rattle.std.specs.Prelude.{◌≡◌, List, ℕ, length}
use Rattle.book.specs.Lent.{Tables}
use Rattle.book.specs.declared.Process.{Process}
use Rattle.book.specs.Bounds.{most_processes}
use Rattle.session.specs.declared.Session.{Session}
use Rattle.session.specs.Calls.{session_started, session_after}
use Rattle.word_laws.specs.Values.{IsSession}

-- of the one that a start leaves
abbrev pub StartIsSession : Type 0
StartIsSession =
    (tables : Tables) (initiator : Process) (purpose : ℕ) (strands : List ℕ)
    → length tables.shape.counts ≡ most_processes → IsSession (session_started tables initiator purpose strands)

-- of the one that a turn leaves, where it held of the one that was lent
abbrev pub TurnIsSession : Type 0
TurnIsSession =
    (tables : Tables) (session : Session) (p : Process) (strands : List ℕ)
    → length tables.shape.counts ≡ most_processes → IsSession session → IsSession (session_after tables session p strands)
