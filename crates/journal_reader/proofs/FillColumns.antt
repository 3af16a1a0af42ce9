-- The counters that a journal's events show for a process itself, and for an absent one, are zero.
use mathlib.Core.Path.{◌≡◌, refl, sym, ◌∙◌}
use mathlib.Core.Bool.{Bool, true, false, ◌&&◌}
use mathlib.Core.List.{List}
use Prim.Native.Nat.{ℕ, suc, ◌-◌, ◌≤◌, ◌<◌}
use native.Mathlib.Omega.{arith}
use lib.Dec.{eqb}
use Rattle.book.specs.Names.{is_named}
use Rattle.shown.specs.Statements.{ZeroElsewhere}
use Rattle.journal.specs.declared.Event.{Event}
use Rattle.journal.specs.declared.Event.TheVariants.{Sent, Received, Checkpointed}
use Rattle.journal.specs.Counting.{how_many, is_sending, is_receipt}
use Rattle.journal.specs.Built.{up_to_checkpoint, view_built}
use Rattle.journal.specs.Questions.{event_named}
use Rattle.journal.proofs.Accepted.{AcceptedEvents}
use Rattle.journal.proofs.Checkpoints.{up_to_few}
use Rattle.journal.proofs.Counting.{pair_no}
use Rattle.journal.proofs.Passed.{Each, Differs, none_such, partner_in}

-- no event is between a process and itself
own_test : (j process partner : ℕ) → (process ≡ partner → ⊥) → (eqb process j && eqb partner j) ≡ false
own_test j process partner differ = pair_no process partner j j (λ e f. differ (e ∙ sym f))

own_sending : (j : ℕ) (e : Event) → Differs e → is_sending j j e ≡ false
own_sending j (Sent process partner) differ = own_test j process.0 partner.0 differ
own_sending j (Received process partner) differ = refl
own_sending j (Checkpointed process) differ = refl

own_receipt : (j : ℕ) (e : Event) → Differs e → is_receipt j j e ≡ false
own_receipt j (Sent process partner) differ = refl
own_receipt j (Received process partner) differ = own_test j process.0 partner.0 differ
own_receipt j (Checkpointed process) differ = refl

-- nor with an absent one
absent_test : (n j p process partner : ℕ) → n < p → (is_named n process && is_named n partner) ≡ true → (eqb process j && eqb partner p) ≡ false
absent_test n j p process partner h named =
    pair_no process partner j p (λ _ e. absurd (omega (arith, e, partner_in n process partner named)))

absent_sending : (n j p : ℕ) (e : Event) → n < p → event_named n e ≡ true → is_sending j p e ≡ false
absent_sending n j p (Sent process partner) h named = absent_test n j p process.0 partner.0 h named
absent_sending n j p (Received process partner) h named = refl
absent_sending n j p (Checkpointed process) h named = refl

absent_receipt : (n j p : ℕ) (e : Event) → n < p → event_named n e ≡ true → is_receipt j p e ≡ false
absent_receipt n j p (Sent process partner) h named = refl
absent_receipt n j p (Received process partner) h named = absent_test n j p process.0 partner.0 h named
absent_receipt n j p (Checkpointed process) h named = refl

-- none over all events, so none up to a checkpoint
none_up_to : (such : Event → Bool) (es : List Event) → Each (λ a e. such e ≡ false) es → (j k : ℕ) → how_many such (up_to_checkpoint j k es) ≡ 0
none_up_to such es none j k =
    let all : how_many such es ≡ 0 = none_such such es none in
    let part : how_many such (up_to_checkpoint j k es) ≤ how_many such es = up_to_few such j k es in
    omega arith

module _ {n : ℕ} {es : List Event} (accepted : AcceptedEvents n es) where
  pub sent_elsewhere : ZeroElsewhere (view_built n es) (view_built n es).S
  sent_elsewhere j r h some few = (
    none_up_to (is_sending (suc j) (suc j)) es (λ a e b is. own_sending (suc j) e (accepted.differ a e b is)) (suc j) (r - 1),
    λ p absent m.
        none_up_to (is_sending (suc j) (suc p)) es
        (λ a e b is. absent_sending n (suc j) (suc p) e (omega arith) (accepted.passes a e b is).named) (suc j) (r - 1),
  )

  pub received_elsewhere : ZeroElsewhere (view_built n es) (view_built n es).R
  received_elsewhere j r h some few = (
    none_up_to (is_receipt (suc j) (suc j)) es (λ a e b is. own_receipt (suc j) e (accepted.differ a e b is)) (suc j) (r - 1),
    λ p absent m.
        none_up_to (is_receipt (suc j) (suc p)) es
        (λ a e b is. absent_receipt n (suc j) (suc p) e (omega arith) (accepted.passes a e b is).named) (suc j) (r - 1),
  )
