-- What a list of turns begins with: an accepted start on accepted tables.
use mathlib.Core.Path.{◌≡◌, refl, sym, ap, ◌∙◌}
use mathlib.Core.Bool.{Bool, true, false}
use mathlib.Core.List.{List}
use mathlib.Core.Logic.{◌⊎◌, inl, inr}
use Prim.Native.Nat.{ℕ, ◌-◌}
use native.Mathlib.Omega.{arith}
use lib.ListN.{length}
use lib.Dec.{eqb}
use Rattle.book.specs.declared.Shape.{Shape}
use Rattle.book.specs.declared.Process.{Process}
use Rattle.book.specs.Bounds.{mark}
use Rattle.book.specs.InTurn.{◌then◌, ask}
use Rattle.book.specs.Check.{tables_question}
use Rattle.book.specs.Read.{book_read, read_question}
use Rattle.book.specs.Tables.{counts_of}
use Rattle.book.proofs.Questions.{then_none, asked_yes, kept_passed}
use Rattle.round_trips.proofs.Zeros.{length_padded}
use Rattle.round_trips.proofs.ToTables.{length_counts_of}
use Rattle.round_trips.proofs.Books.{Good}
use Rattle.round_trips.proofs.Reading.{read_good, shape_left_lem}
use Rattle.round_trips.proofs.Theorems.{read_passes_check}
use Rattle.lists.specs.Pick.{pick}
use Rattle.book.specs.Names.{is_named, is_purpose}
use Rattle.mail.specs.Outgoing.{bytes_to}
use Rattle.machine.specs.Own.{Own}
use Rattle.machine.specs.Flags.{someone, participants, nobody}
use Rattle.initiator.specs.Begin.{wait, without_wait, begin_search, begin}
use Rattle.exchange_laws.specs.Ends.{is_search}
use Rattle.strands.specs.Strands.{have_room, posted}
use Rattle.session.specs.declared.Session.{Session}
use Rattle.session.specs.Steps.{begun, with_posted}
use Rattle.session.specs.Calls.{no_session, start_question, session_started, strands_started}
use Rattle.session_theory.proofs.Search.{Search, IsSearch, size, lead, own_in}
use Rattle.session_theory.proofs.Invariant.{Laid}
use Rattle.session_theory.proofs.Moves.{begins, ToParticipants}
use Rattle.machine_laws.proofs.Flags.{flagged_none}
use Rattle.search_start.proofs.Alone.{flag_nobody}
use Rattle.search_start.proofs.Start.{none_delivered}
use Rattle.demand3.specs.Statement.{Beginning, shape_left, IsAccepted, Searches, at_start, start_waits, tables_left}
use Rattle.demand3.specs.Beside.{StartHasRoom}
use Rattle.strand_laws.proofs.Theorems.{laid_begun}
use Rattle.search_start.proofs.Theorems.{search_begins, restart_begins}
use Rattle.demand3.proofs.Kept.{Kept, Holds}
use Rattle.demand3.proofs.Searching.{InSearch, InRestart, search_kept, restart_kept}
use Rattle.demand3.proofs.Purposes.{InSession, kept_in, begins_in, starts_with_room}

abbrev pub search_of : Beginning → Search
search_of b = record { tables = tables_left b; initiator = b.initiator; purpose = b.purpose }

-- the four parts of a start's question
module _ (tables : ℕ) (named purposed room : Bool) where
  parts : (tables then λ _. ask 10 named then λ _. ask 11 purposed then λ _. ask 17 room) ≡ 0
      → (named ≡ true) × (purposed ≡ true) × (room ≡ true)
  parts h =
      let a = then_none tables (λ _. ask 10 named then λ _. ask 11 purposed then λ _. ask 17 room) h in
      let b = then_none (ask 10 named) (λ _. ask 11 purposed then λ _. ask 17 room) a.1 in
      let c = then_none (ask 11 purposed) (λ _. ask 17 room) b.1 in
      (asked_yes 9 named b.0, asked_yes 10 purposed c.0, asked_yes 16 room c.1)

none_awaited : someone nobody ≡ false
none_awaited = flagged_none nobody flag_nobody

-- a search's first round is counted where somebody is awaited after the start
first_round : (own : Own) (me : Process) (purpose : ℕ) → eqb purpose 2 ≡ false
    → (begin own me purpose).state.rounds ≡ pick (someone (begin own me purpose).state.awaited) 1 0
unfolding begin begin_search wait without_wait
first_round own me purpose other = go (someone (participants own.n (me.0 - 1))) refl
  where
    go : (v : Bool) → someone (participants own.n (me.0 - 1)) ≡ v
        → (begin own me purpose).state.rounds ≡ pick (someone (begin own me purpose).state.awaited) 1 0
    go true e = rw (begin, other, begin_search, e) (sym (ap (λ (v : Bool). pick v 1 0) e))
    go false e = rw (begin, other, begin_search, e) (sym (ap (λ (v : Bool). pick v 1 0) none_awaited))

one_round : (g : Search) → eqb g.purpose 2 ≡ false
    → (with_posted (begins g)).machine.rounds ≡ pick (someone (with_posted (begins g)).machine.awaited) 1 0
unfolding with_posted begun
one_round g other = first_round (own_in g (lead g)) g.initiator g.purpose other

searches : (purpose : ℕ) → (purpose ≡ 1) ⊎ (purpose ≡ 3) → is_search purpose ≡ true
searches purpose (inl e) = rw e
searches purpose (inr e) = rw e

no_restart : (purpose : ℕ) → (purpose ≡ 1) ⊎ (purpose ≡ 3) → eqb purpose 2 ≡ false
no_restart purpose (inl e) = rw e
no_restart purpose (inr e) = rw e

-- an accepted read leaves tables that anybody can begin a session on, with any purpose
pub read_search : (b : Beginning) → read_question b.bytes b.sent b.received ≡ 0
    → is_named (shape_left b).n b.initiator.0 ≡ true → is_purpose b.purpose ≡ true → IsSearch (search_of b)
read_search b read named purposed =
    let good : Good mark (book_read b.bytes) = read_good b.bytes b.sent b.received read in
    let counts : List ℕ = counts_of (book_read b.bytes).processes in
    record {
      accepted = record {
        sixteen =
            ap (λ (shape : Shape). length shape.counts) (shape_left_lem b.bytes b.sent b.received read)
            ∙ length_padded 16 counts
            (omega (arith, length_counts_of (book_read b.bytes).processes, good.long, good.few));
        passed = read_passes_check b.bytes b.sent b.received read;
      };
      named = named;
      purposed = purposed;
    }

pub start_has_room : StartHasRoom
start_has_room b read named purposed room =
    starts_with_room (search_of b) (read_search b read named purposed) b.strands room

module _ (b : Beginning) (a : IsAccepted b) where
  abbrev g : Search
  g = search_of b

  asked :
      (is_named (size g) g.initiator.0 ≡ true) × (is_purpose g.purpose ≡ true)
      × (have_room (size g) (lead g) (begins g).outgoing b.strands ≡ true)
  unfolding start_question
  asked =
      parts (tables_question g.tables) (is_named (size g) g.initiator.0) (is_purpose g.purpose)
      (have_room (size g) (lead g) (begins g).outgoing b.strands) a.start

  pub is_search_lem : IsSearch (search_of b)
  is_search_lem = read_search b a.read asked.0 asked.1

  pub searching : Searches b → is_search g.purpose ≡ true
  searching h = searches b.purpose h

  -- ---- what the start leaves

  session_left : (at_start b).session ≡ with_posted (begins g)
  unfolding session_started
  session_left =
      kept_passed (start_question g.tables b.initiator b.purpose b.strands) no_session
      (with_posted (begins g)) a.start

  strands_left : (at_start b).strands ≡ posted (size g) (lead g) (begins g).outgoing b.strands
  unfolding strands_started
  strands_left =
      kept_passed (start_question g.tables b.initiator b.purpose b.strands) b.strands
      (posted (size g) (lead g) (begins g).outgoing b.strands) a.start

  pub start_delivered : (at_start b).session.delivered ≡ 0
  start_delivered = ap (λ (s : Session). s.delivered) session_left ∙ none_delivered g

  pub start_rounds : Searches b → (at_start b).session.machine.rounds ≡ start_waits b
  start_rounds h = rw session_left (one_round g (no_restart b.purpose h))

  module _
      (Inv : Session → (ℕ → List ℕ) → Type 0)
      (kept : Kept g Inv)
      (to_parts : ToParticipants g (begins g).outgoing)
      (holds : Inv (with_posted (begins g)) (bytes_to (begins g).outgoing))
    where
      abbrev left : Session
      left = with_posted (begins g)

      laid :
          Laid g left (posted (size g) (lead g) (begins g).outgoing b.strands) (bytes_to (begins g).outgoing)
          × (length (posted (size g) (lead g) (begins g).outgoing b.strands) ≡ length b.strands)
      laid =
          laid_begun g b.strands is_search_lem to_parts
          (λ k small sent. kept.short left (bytes_to (begins g).outgoing) holds k (to_parts k small sent))
          asked.2

      start_holds : Holds g Inv (at_start b)
      start_holds =
          record {
            box = bytes_to (begins g).outgoing;
            laid = rw (session_left, strands_left) laid.0;
            state = rw session_left holds;
          }

      start_long : length (at_start b).strands ≡ length b.strands
      start_long = ap length strands_left ∙ laid.1

  module _ (h : Searches b) where
    kept_here : Kept g (InSearch g)
    kept_here = search_kept g is_search_lem (searching h)

    pub search_holds : Holds g (InSearch g) (at_start b)
    search_holds =
        let first = search_begins g is_search_lem (searching h) in
        start_holds (InSearch g) kept_here first.0 first.1

    pub search_long : length (at_start b).strands ≡ length b.strands
    search_long =
        let first = search_begins g is_search_lem (searching h) in
        start_long (InSearch g) kept_here first.0 first.1

  pub restart_holds : b.purpose ≡ 2 → Holds g (InRestart g) (at_start b)
  restart_holds h =
      let first = restart_begins g is_search_lem h in
      start_holds (InRestart g) (restart_kept g is_search_lem h) first.0 first.1

  -- with any purpose
  pub session_holds : Holds g (InSession g) (at_start b)
  session_holds =
      let first = begins_in g is_search_lem in
      start_holds (InSession g) (kept_in g is_search_lem) first.0 first.1
