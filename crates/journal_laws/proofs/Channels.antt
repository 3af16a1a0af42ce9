-- On each channel of a journal that passes, receipts never pass sendings.
use mathlib.Core.Path.{◌≡◌, refl}
use mathlib.Core.Bool.{Bool, true, false, ◌&&◌}
use mathlib.Core.List.{List, [], ◌∷◌, ◌++◌}
use Prim.Native.Nat.{ℕ, ◌+◌, ◌≤◌}
use native.Mathlib.Omega.{arith}
use lib.ListN.{take}
use lib.Dec.{leb, eqb}
use borrow.Author.Tests.{leb-true, eqb-true}
use Rattle.lists.specs.Pick.{pick}
use Rattle.lists.proofs.Tests.{and_both}
use Rattle.journal.specs.declared.Event.{Event}
use Rattle.journal.specs.declared.Event.TheVariants.{Sent, Received, Checkpointed}
use Rattle.journal.specs.Counting.{how_many, is_sending, is_receipt, sendings, receipts, underway}
use Rattle.journal.specs.Questions.{something_underway}
use Rattle.journal.specs.Calls.{leading_n, events_logged}
use Rattle.journal.proofs.Accepted.{AcceptedEvents, journal_passed, journal_accepted}
use Rattle.journal.proofs.Counting.{how_many_last, underway_is}
use Rattle.journal.proofs.Passed.{Passes, along}
use Rattle.journal_laws.specs.Statements.{ChannelLaw}

abbrev pub NotAhead : ℕ → ℕ → List Event → Type 0
NotAhead p j es = receipts j p es ≤ sendings p j es

module _ (p j : ℕ) (a : List Event) where
  -- one event more, by what it counts for
  one_more_lem : (e : Event) → receipts j p a + pick (is_receipt j p e) 1 0 ≤ sendings p j a + pick (is_sending p j e) 1 0
      → NotAhead p j (a ++ e ∷ [])
  one_more_lem e h = rw (how_many_last (is_receipt j p) a e, how_many_last (is_sending p j) a e) h

  -- a receipt has something underway
  room : (process partner : ℕ) → leb 1 (underway partner process a) ≡ true → NotAhead p j a
      → (t : Bool) → (eqb process j && eqb partner p) ≡ t → receipts j p a + pick t 1 0 ≤ sendings p j a + 0
  room process partner some h false is = omega arith
  room process partner some h true is =
      let both = and_both (eqb process j) (eqb partner p) is in
      let process_is : process ≡ j = eqb-true process j both.0 in
      let partner_is : partner ≡ p = eqb-true partner p both.1 in
      let one : 1 ≤ underway p j a = rw (process_is, partner_is) at (leb-true 1 (underway partner process a) some) in
      omega (arith, underway_is p j a)

  pub not_ahead_more : (e : Event) → something_underway a e ≡ true → NotAhead p j a → NotAhead p j (a ++ e ∷ [])
  not_ahead_more (Sent process partner) some h = one_more_lem (Sent process partner) (omega arith)
  not_ahead_more (Received process partner) some h =
      one_more_lem (Received process partner) (room process.0 partner.0 some h (eqb process.0 j && eqb partner.0 p) refl)
  not_ahead_more (Checkpointed process) some h = one_more_lem (Checkpointed process) (omega arith)

pub not_ahead : (n : ℕ) (es : List Event) → AcceptedEvents n es → (m p j : ℕ) → NotAhead p j (take m es)
unfolding how_many
not_ahead n es events m p j =
    along (NotAhead p j) (Passes n) (λ a e passes h. not_ahead_more p j a e passes.underway h) es events.passes (omega arith) m

pub channel_law : ChannelLaw
channel_law bytes sent received m p j h =
    let events = journal_accepted bytes (journal_passed bytes sent received h).numbers in
    omega (arith, underway_is p j (take m (events_logged bytes)), not_ahead (leading_n bytes) (events_logged bytes) events m p j)
