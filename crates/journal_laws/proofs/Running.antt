-- The running counts are those counted over the events.
use mathlib.Core.Path.{◌≡◌, refl, sym, ap, ◌∙◌}
use mathlib.Core.List.{List, [], ◌∷◌, ◌++◌}
use Prim.Native.Nat.{ℕ}
use native.Mathlib.Omega.{arith}
use native.Mathlib.Decide.{ℕ_discrete}
use Rattle.lists.specs.Over.{tab_from}
use Rattle.book.specs.Bounds.{most_processes}
use Rattle.journal.specs.declared.Event.{Event}
use Rattle.journal.specs.declared.counts.Counts.{Counts}
use Rattle.journal.specs.Calls.{leading_n, events_logged}
use Rattle.journal.specs.Counting.{how_many}
use Rattle.journal.specs.Running.{process_of, counts_next, running_counts, counts_over, no_counts}
use Rattle.journal.proofs.Accepted.{journal_passed, journal_accepted}
use Rattle.journal.proofs.Passed.{PartnerFits, Passes, partner_named, along}
use Rattle.journal.proofs.Running.{next_own, next_other, counts_stay, counts_change}
use Rattle.journal_laws.specs.Statements.{RunningIsCounted, CountsBegin, OwnCountsChange, OtherCountsStay}

-- ---- event by event

pub counts_begin : CountsBegin
unfolding how_many tab_from
counts_begin j = refl

pub own_counts_change : OwnCountsChange
own_counts_change es e named = counts_change es e (partner_named most_processes e (omega arith) named)

pub other_counts_stay : OtherCountsStay
other_counts_stay es e j other = counts_stay es j e (λ same. other (sym same))

-- ---- after every prefix

-- one event more
running_last : (j : ℕ) (es : List Event) (e : Event) (c : Counts) → running_counts j (es ++ e ∷ []) c ≡ counts_next j e (running_counts j es c)
unfolding running_counts
running_last j [] e c = refl
running_last j (x ∷ es) e c = running_last j es e (counts_next j x c)

counted_last : (j : ℕ) (es : List Event) (e : Event) → PartnerFits e → counts_next j e (counts_over j es) ≡ counts_over j (es ++ e ∷ [])
counted_last j es e fits =
    elim (ℕ_discrete (process_of e) j) [
      | yes own ↦ sym (next_own j e (counts_over j es) own) ∙ rw own at (sym (counts_change es e fits))
      | no other ↦ sym (next_other j e (counts_over j es) other) ∙ sym (counts_stay es j e other)
    ]

pub running_is_counted : RunningIsCounted
unfolding running_counts
running_is_counted bytes sent received m j h =
    let events = journal_accepted bytes (journal_passed bytes sent received h).numbers in
    along (λ es. running_counts j es no_counts ≡ counts_over j es) (Passes (leading_n bytes))
    (λ es e passes so_far.
    running_last j es e no_counts
    ∙ ap (counts_next j e) so_far
    ∙ counted_last j es e (partner_named (leading_n bytes) e events.few passes.named))
    (events_logged bytes) events.passes (sym (counts_begin j)) m
