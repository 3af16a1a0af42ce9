-- The running counts of all processes, after one event more: those of the process that it names are changed, and no others.
use mathlib.Core.Path.{◌≡◌, refl, sym, ap, ◌∙◌}
use mathlib.Core.Bool.{Bool, true, false, true≢false}
use mathlib.Core.List.{List, [], ◌∷◌, ◌++◌, append_assoc}
use Prim.Native.Nat.{ℕ, zero, suc, ◌+◌, ◌-◌, ◌≤◌, ◌<◌}
use native.Mathlib.Omega.{arith}
use borrow.Author.Tests.{eq-eqb, ne_eqb}
use lib.ListN.{length, get_or, set}
use Rattle.lists.specs.Over.{tab}
use Rattle.lists.specs.Pick.{pick}
use Rattle.lists.proofs.Over.{get_d_tab, tab_stored, sum_at}
use Rattle.book.specs.Bounds.{most_processes, most_bytes}
use Rattle.journal.specs.declared.Event.{Event}
use Rattle.journal.specs.declared.Event.TheVariants.{Sent, Received, Checkpointed}
use Rattle.journal.specs.declared.counts.Counts.{Counts}
use Rattle.journal.specs.Counting.{how_many, is_sending, is_receipt, is_checkpoint, checkpoint_events, checkpoint_count}
use Rattle.journal.specs.Built.{up_to_checkpoint}
use Rattle.journal.specs.Questions.{checkpoints_in_all}
use Rattle.journal.specs.Running.{process_of, counts_after, counts_over, HasRoomAt, HasRoomFor}
use Rattle.journal.proofs.Checkpoints.{up_to_stays}
use Rattle.journal.proofs.Counting.{how_many_few, one_more_lem, no_more}
use Rattle.journal.proofs.Passed.{Passes, PartnerFits, process_named, partner_named}
use Rattle.journal.proofs.Running.{counts_stay, counts_change}
use Rattle.journal_reader.specs.Filling.{is_checkpoint_event}

-- ---- a checkpoint, and none

module _ (j : ℕ) where
  pub saved_sending : (p : ℕ) (e : Event) → is_checkpoint_event e ≡ true → is_sending j p e ≡ false
  saved_sending p (Sent process partner) is = absurd (true≢false (sym is))
  saved_sending p (Received process partner) is = refl
  saved_sending p (Checkpointed process) is = refl

  pub saved_receipt : (p : ℕ) (e : Event) → is_checkpoint_event e ≡ true → is_receipt j p e ≡ false
  saved_receipt p (Sent process partner) is = refl
  saved_receipt p (Received process partner) is = absurd (true≢false (sym is))
  saved_receipt p (Checkpointed process) is = refl

  pub unsaved : (e : Event) → is_checkpoint_event e ≡ false → is_checkpoint j e ≡ false
  unsaved (Sent process partner) is = refl
  unsaved (Received process partner) is = refl
  unsaved (Checkpointed process) is = absurd (true≢false is)

pub saved_own : (e : Event) → is_checkpoint_event e ≡ true → is_checkpoint (process_of e) e ≡ true
saved_own (Sent process partner) is = absurd (true≢false (sym is))
saved_own (Received process partner) is = absurd (true≢false (sym is))
saved_own (Checkpointed process) is = eq-eqb process.0 process.0 refl

-- ---- the counts after it

module _ (es : List Event) where
  -- the counts of all processes
  abbrev pub all_counts : List Counts
  all_counts = tab most_processes (λ j. counts_over (suc j) es)

  module _ (e : Event) (some : 1 ≤ process_of e) (few : process_of e ≤ most_processes) where
    back : suc (process_of e - 1) ≡ process_of e
    back = omega arith

    pub all_at : (d : Counts) → get_or all_counts (process_of e - 1) d ≡ counts_over (process_of e) es
    all_at d =
        get_d_tab most_processes (λ j. counts_over (suc j) es) (process_of e - 1) d (omega arith) ∙ ap (λ (j : ℕ). counts_over j es) back

    pub all_more : PartnerFits e
        → set all_counts (process_of e - 1) (counts_after e (counts_over (process_of e) es))
        ≡ tab most_processes (λ j. counts_over (suc j) (es ++ e ∷ []))
    all_more fits =
        tab_stored (counts_over 0 es) most_processes (λ j. counts_over (suc j) es) (λ j. counts_over (suc j) (es ++ e ∷ [])) (process_of e - 1)
        (counts_after e (counts_over (process_of e) es)) (omega arith)
        (sym (counts_change es e fits) ∙ ap (λ (j : ℕ). counts_over j (es ++ e ∷ [])) (sym back))
        (λ x h ne. sym (counts_stay es (suc x) e (λ m. ne (omega arith))))

-- ---- room for one more

-- no count is above the number of events
room_at : (such : ℕ → Event → Bool) (es : List Event) (p : ℕ) → 1 ≤ p → p ≤ most_processes → length es + 1 < most_bytes
    → HasRoomAt p (tab most_processes (λ q. how_many (such (suc q)) es))
room_at such es p some few room =
    record {
      some = some;
      few = few;
      room = rw (get_d_tab most_processes (λ q. how_many (such (suc q)) es) (p - 1) 0 (omega arith)) (omega (arith, how_many_few (such (suc (p - 1))) es));
    }

-- nor are there more checkpoints than may be
pub room_for : (n : ℕ) (es : List Event) (e : Event) → n ≤ most_processes → Passes n es e → length es + 1 < most_bytes
    → HasRoomFor e (counts_over (process_of e) es)
room_for n es (Sent process partner) few passes room =
    let fits = partner_named n (Sent process partner) few passes.named in room_at (is_sending process.0) es partner.0 fits.0 fits.1 room
room_for n es (Received process partner) few passes room =
    let fits = partner_named n (Received process partner) few passes.named in
    room_at (is_receipt process.0) es partner.0 fits.0 fits.1 room
room_for n es (Checkpointed process) few passes room =
    let e : Event = Checkpointed process in
    let there = process_named n e passes.named in
    let back : suc (process.0 - 1) ≡ process.0 = omega (arith, there.0) in
    let most : checkpoint_count (suc (process.0 - 1)) (es ++ e ∷ []) ≤ checkpoints_in_all n (es ++ e ∷ [])
    = sum_at n (λ j. checkpoint_count (suc j) (es ++ e ∷ [])) (process.0 - 1) (omega (arith, there.0, there.1)) in
    let most' : checkpoint_count process.0 (es ++ e ∷ []) ≤ checkpoints_in_all n (es ++ e ∷ []) = rw back at most in
    omega (arith, passes.few, one_more_lem (is_checkpoint process.0) es e (saved_own e refl))

-- ---- the row of the next checkpoint

-- how far an event takes the count of what is left
abbrev left : ℕ → ℕ → Event → ℕ
left j k e = k - pick (is_checkpoint j e) 1 0

-- the events up to a checkpoint event with fewer before it are those before it, and itself
pub up_to_last : (j k : ℕ) (es : List Event) (e : Event) → checkpoint_events j es < k → up_to_checkpoint j k (es ++ e ∷ []) ≡ es ++ e ∷ []
unfolding up_to_checkpoint how_many
up_to_last j k [] e h = rw (ne_eqb k 0 (λ z. absurd (omega (arith, z))))
up_to_last j zero (x ∷ es) e h = absurd (omega arith)
up_to_last j (suc k) (x ∷ es) e h =
    rw (ne_eqb (suc k) 0 (λ z. absurd (omega (arith, z))))
    (ap (λ (l : List Event). x ∷ l) (up_to_last j (left j (suc k) x) es e (step (is_checkpoint j x) h)))
  where
    step : (t : Bool) → pick t 1 0 + how_many (is_checkpoint j) es < suc k → how_many (is_checkpoint j) es < suc k - pick t 1 0
    step true m = omega arith
    step false m = omega arith

-- what is counted up to the next checkpoint event is what is counted before it
pub next_row : (such : Event → Bool) (j : ℕ) (es : List Event) (e : Event) (more : List Event) → is_checkpoint j e ≡ true → such e ≡ false
    → how_many such (up_to_checkpoint j (checkpoint_count j es) (es ++ e ∷ more)) ≡ how_many such es
next_row such j es e more is none =
    let k : ℕ = checkpoint_count j es in
    let one : checkpoint_events j (es ++ e ∷ []) ≡ checkpoint_events j es + 1 = one_more_lem (is_checkpoint j) es e is in
    ap (λ (l : List Event). how_many such (up_to_checkpoint j k l)) (sym (append_assoc es (e ∷ []) more))
    ∙ ap (how_many such) (up_to_stays j k (es ++ e ∷ []) more (omega arith) ∙ up_to_last j k es e (omega arith))
    ∙ no_more such es e none
