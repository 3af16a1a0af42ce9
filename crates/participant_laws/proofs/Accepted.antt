-- What is known of a state and a message that are accepted.
use mathlib.Core.Path.{◌≡◌, refl, sym, subst, ◌∙◌}
use mathlib.Core.Bool.{Bool, true, false, ◌&&◌, not, true≢false}
use mathlib.Core.List.{List}
use Prim.Native.Nat.{ℕ, ◌-◌, ◌≤◌, ◌<◌}
use native.Mathlib.Omega.{arith}
use borrow.Author.Tests.{eqb-true, eq-eqb, not-true}
use lib.Dec.{eqb}
use Rattle.book.specs.declared.Count.{Count}
use Rattle.book.specs.Bounds.{mark}
use Rattle.lists.proofs.Tests.{and_both}
use Rattle.consistency.specs.Known.{counters}
use Rattle.matrix.specs.Matrix.{is_pair, not_known_row}
use Rattle.matrix.specs.Entries.{same, rest_zero, patch}
use Rattle.matrix.proofs.Theorems.{same_is_same, patch_not_raised}
use Rattle.message.specs.declared.Message.{Message}
use Rattle.book.specs.Names.{is_named}
use Rattle.book.proofs.Names.{named_in}
use Rattle.machine.specs.Own.{Own, has_checkpoint, sent_row, newest_permitted}
use Rattle.machine.specs.Sends.{is_termination}
use Rattle.machine.specs.Named.{participant_named}
use Rattle.machine_laws.specs.Own.{IsOwn}
use Rattle.machine_laws.proofs.Checkpoints.{checkpoint_in}
use Rattle.machine_laws.proofs.Rows.{sent_at, not_known_pair, not_known_rest}
use Rattle.machine_laws.proofs.Messages.{head_in, news_rest}
use Rattle.machine_laws.proofs.Theorems.{newest_exists, newest_falls, sent_falls}
use Rattle.participant.specs.declared.Participant.{Participant}
use Rattle.participant.specs.declared.Stage.{Stage}
use Rattle.participant.specs.declared.Stage.TheVariants.{Before, Searching, Ended}
use Rattle.participant.specs.Fits.{search_fits, unknown_on, stage_fits, fits}
use Rattle.participant.specs.Step.{kind_awaited, awaits}
use Rattle.participant_laws.specs.Accepts.{Accepts}

-- ---- the processes named

pub record Named (n me initiator : ℕ) : Type 0 where
  pub me_some : 1 ≤ me
  pub me_most : me ≤ n
  pub initiator_some : 1 ≤ initiator
  pub initiator_most : initiator ≤ n
  pub others : eqb me initiator ≡ false

pub both_named : (n me initiator : ℕ) → participant_named n me initiator ≡ true → Named n me initiator
both_named n me initiator h =
    let a = and_both (is_named n me) (is_named n initiator && not (eqb me initiator)) h in
    let b = and_both (is_named n initiator) (not (eqb me initiator)) a.1 in
    record {
      me_some = (named_in n me a.0).0;
      me_most = (named_in n me a.0).1;
      initiator_some = (named_in n initiator b.0).0;
      initiator_most = (named_in n initiator b.0).1;
      others = not-true (eqb me initiator) b.1;
    }

-- ---- a state that fits

pub record Fitting (own : Own) (state : Participant) : Type 0 where
  pub processes : state.n ≡ own.n
  pub there : has_checkpoint own state.candidate.0 ≡ true
  pub row_rest : rest_zero state.n (state.me.0 - 1) state.row ≡ true
  pub column_rest : rest_zero state.n (state.me.0 - 1) state.column ≡ true
  pub in_stage : stage_fits own state state.stage ≡ true

-- a row and a column of which nothing is known, on checkpoint r
pub record Unknown (r : ℕ) (state : Participant) : Type 0 where
  pub on : state.candidate.0 ≡ r
  pub row_unknown : same state.row (not_known_row state.n (state.me.0 - 1)) ≡ true
  pub column_unknown : same state.column (not_known_row state.n (state.me.0 - 1)) ≡ true

pub record Search (own : Own) (state : Participant) : Type 0 where
  pub row_sent : same state.row (sent_row own state.candidate.0) ≡ true
  pub on_newest : state.candidate.0 ≡ newest_permitted own state.column

module _ (own : Own) (state : Participant) where
  pub fits_in : fits own state ≡ true → Fitting own state
  unfolding fits
  fits_in h =
      let last : Bool = stage_fits own state state.stage in
      let column : Bool = rest_zero state.n (state.me.0 - 1) state.column in
      let row : Bool = rest_zero state.n (state.me.0 - 1) state.row in
      let there : Bool = has_checkpoint own state.candidate.0 in
      let a = and_both (eqb state.n own.n) (there && (row && (column && last))) h in
      let b = and_both there (row && (column && last)) a.1 in
      let c = and_both row (column && last) b.1 in
      let d = and_both column last c.1 in
      record {
        processes = eqb-true state.n own.n a.0;
        there = b.0;
        row_rest = c.0;
        column_rest = d.0;
        in_stage = d.1;
      }

  pub fits_out : Fitting own state → fits own state ≡ true
  unfolding fits
  fits_out f = rw (eq-eqb state.n own.n f.processes, f.there, f.row_rest, f.column_rest) f.in_stage

  pub search_in : search_fits own state ≡ true → Search own state
  unfolding search_fits
  search_in h =
      let newest : ℕ = newest_permitted own state.column in
      let a = and_both (same state.row (sent_row own state.candidate.0)) (eqb state.candidate.0 newest) h in
      record { row_sent = a.0; on_newest = eqb-true state.candidate.0 newest a.1 }

  pub search_out : Search own state → search_fits own state ≡ true
  unfolding search_fits
  search_out s = rw s.row_sent (eq-eqb state.candidate.0 (newest_permitted own state.column) s.on_newest)

module _ (r : ℕ) (state : Participant) where
  unknown_in : unknown_on r state ≡ true → Unknown r state
  unfolding unknown_on
  unknown_in h =
      let nothing : List Count = not_known_row state.n (state.me.0 - 1) in
      let a = and_both (eqb state.candidate.0 r) (same state.row nothing && same state.column nothing) h in
      let b = and_both (same state.row nothing) (same state.column nothing) a.1 in
      record { on = eqb-true state.candidate.0 r a.0; row_unknown = b.0; column_unknown = b.1 }

  pub unknown_out : Unknown r state → unknown_on r state ≡ true
  unfolding unknown_on
  unknown_out u = rw (eq-eqb state.candidate.0 r u.on, u.row_unknown) u.column_unknown

-- ---- the message

-- what is known of the others once it is taken in
abbrev pub known : Participant → Message → List Count
known state m = patch state.column m.news

-- a state before the invitation awaits one, and a searching state other messages
first_awaited : (s : Stage) (kind : ℕ) → kind_awaited s kind ≡ true → kind ≡ 1 → s ≡ Before
first_awaited Before kind h e = refl
first_awaited Searching kind h e = absurd (omega (arith, eqb-true kind 2 h))
first_awaited Ended kind h e = absurd (true≢false (sym h))

later_awaited : (s : Stage) (kind : ℕ) → kind_awaited s kind ≡ true → kind ≡ 2 → s ≡ Searching
later_awaited Before kind h e = absurd (omega (arith, eqb-true kind 1 h))
later_awaited Searching kind h e = refl
later_awaited Ended kind h e = absurd (true≢false (sym h))

module _ (own : Own) (state : Participant) (m : Message) (accepts : Accepts own state m) where
  abbrev j : ℕ
  j = state.me.0 - 1

  fitting : Fitting own state
  fitting = fits_in own state accepts.fitting

  processes : state.n ≡ own.n
  processes = fitting.processes

  pub candidate_there : (1 ≤ state.candidate.0) × (state.candidate.0 ≤ own.count)
  candidate_there = checkpoint_in own state.candidate.0 fitting.there

  pub named : Named own.n state.me.0 state.initiator.0
  named = both_named own.n state.me.0 state.initiator.0 accepts.named

  awaited : (m.head.purpose ≡ state.purpose) × (kind_awaited state.stage m.head.kind ≡ true)
  unfolding awaits
  awaited =
      let purposes : Bool = eqb m.head.purpose state.purpose in
      let kinds : Bool = kind_awaited state.stage m.head.kind in
      let a = and_both (eqb m.head.sender.0 state.initiator.0) (purposes && kinds) accepts.awaited in
      let b = and_both purposes kinds a.1 in
      (eqb-true m.head.purpose state.purpose b.0, b.1)

  pub same_purpose : m.head.purpose ≡ state.purpose
  same_purpose = awaited.0

  abbrev in_stage : Stage → Type 0
  in_stage s = stage_fits own state s ≡ true

  -- an invitation of purpose 2 meets a state before the invitation, a termination one that searches
  pub oldest_before : m.head.purpose ≡ 2 → Unknown own.count state
  oldest_before e =
      let head = head_in own.n m.head.kind m.head.purpose m.head.sender.0 accepts.formed.head in
      let kind : m.head.kind ≡ 1 = eqb-true m.head.kind 1 (rw (eq-eqb m.head.purpose 2 e) at head.2) in
      unknown_in own.count state
      (subst in_stage (first_awaited state.stage m.head.kind awaited.1 kind) fitting.in_stage)

  pub ended_before : is_termination m ≡ true → Search own state
  ended_before h =
      let kind : m.head.kind ≡ 2 = eqb-true m.head.kind 2 (and_both (eqb m.head.kind 2) _ h).0 in
      search_in own state (subst in_stage (later_awaited state.stage m.head.kind awaited.1 kind) fitting.in_stage)

  -- in general: nothing is known yet, or it searches
  by_stage : (P : Type 0) → (Unknown own.count state → P) → (Search own state → P) → P
  by_stage P before searching = go state.stage awaited.1 fitting.in_stage
    where
      go : (s : Stage) → kind_awaited s m.head.kind ≡ true → stage_fits own state s ≡ true → P
      go Before a f = before (unknown_in own.count state f)
      go Searching a f = searching (search_in own state f)
      go Ended a f = absurd (true≢false (sym a))

  -- no pair of the message names the process itself or an absent one
  pub no_news : (p : ℕ) → p < 16 → is_pair own.n j p ≡ false → counters m.news p ≡ mark
  no_news = news_rest own.n state.me.0 m accepts.formed named.me_some named.me_most

  -- ---- the step back

  pub column_falls : (p : ℕ) → p < 16 → counters (known state m) p ≤ counters state.column p
  column_falls = patch_not_raised state.column m.news accepts.lower

  pub newest_there : (1 ≤ newest_permitted own (known state m)) × (newest_permitted own (known state m) ≤ own.count)
  newest_there = checkpoint_in own (newest_permitted own (known state m)) (newest_exists own j (known state m) accepts.own_is)

  pub candidate_falls : newest_permitted own (known state m) ≤ state.candidate.0
  candidate_falls =
      by_stage (newest_permitted own (known state m) ≤ state.candidate.0)
      (λ u. omega (arith, u.on, newest_there.1))
      (λ s. omega (arith, s.on_newest, newest_falls own state.column (known state m) (λ p h. column_falls p (omega (arith, accepts.own_is.most)))))

  -- the row held is at or above what any checkpoint up to the candidate has sent
  pub row_above : (r p : ℕ) → 1 ≤ r → r ≤ state.candidate.0 → p < 16
      → (own.S r p ≤ counters state.row p) × (counters state.row p ≤ mark)
  row_above r p some back h =
      by_stage ((own.S r p ≤ counters state.row p) × (counters state.row p ≤ mark)) unknown searching
    where
      is : IsOwn own j
      is = accepts.own_is

      among : r ≤ own.count
      among = omega (arith, candidate_there.1)

      unknown : Unknown own.count state → (own.S r p ≤ counters state.row p) × (counters state.row p ≤ mark)
      unknown u = go (is_pair state.n j p) refl
        where
          held : counters state.row p ≡ counters (not_known_row state.n j) p
          held = (same_is_same state.row (not_known_row state.n j)).0 u.row_unknown p h

          go : (v : Bool) → is_pair state.n j p ≡ v → (own.S r p ≤ counters state.row p) × (counters state.row p ≤ mark)
          go true e =
              let v : counters state.row p ≡ mark = held ∙ not_known_pair state.n j p h e in
              (omega (arith, v, is.below r p h some among), omega (arith, v))
          go false e =
              let v : counters state.row p ≡ 0 = held ∙ not_known_rest state.n j p h e in
              (omega (arith, v, is.rest r p h some among (rw processes at e)), omega (arith, v))

      searching : Search own state → (own.S r p ≤ counters state.row p) × (counters state.row p ≤ mark)
      searching s =
          let c : ℕ = state.candidate.0 in
          let held : counters state.row p ≡ own.S c p = (same_is_same state.row (sent_row own c)).0 s.row_sent p h ∙ sent_at own c p h in (
            omega (arith, held, sent_falls own j c r p is h some back candidate_there.1),
            omega (arith, held, is.below c p h candidate_there.0 candidate_there.1),
          )
