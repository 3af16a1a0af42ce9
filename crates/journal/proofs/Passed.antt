-- What a journal that passes every question says of each of its events. An event of a list stands between those before it and those
-- after it.
use mathlib.Core.Path.{◌≡◌, refl, sym, ap, subst}
use mathlib.Core.Bool.{Bool, true, false, ◌&&◌}
use mathlib.Core.List.{List, [], ◌∷◌, ◌++◌, append_assoc, append-nil}
use Prim.Native.Nat.{ℕ, zero, suc, ◌≤◌}
use native.Mathlib.Omega.{arith}
use lib.ListN.{length, take}
use lib.Dec.{eqb, leb}
use borrow.Author.Tests.{leb-true, eqb-false}
use Rattle.lists.specs.Pick.{pick}
use Rattle.lists.proofs.Pick.{pick_each}
use Rattle.lists.proofs.Tests.{and_both}
use Rattle.book.specs.declared.Process.{Process}
use Rattle.book.specs.Bounds.{most_processes, most_checkpoints}
use Rattle.book.specs.Names.{is_named}
use Rattle.book.specs.Questions.{nothing_follows}
use Rattle.book.specs.InTurn.{◌then◌, ask}
use Rattle.book.proofs.Questions.{then_none, asked_yes}
use Rattle.book.proofs.Names.{named_in}
use Rattle.journal.specs.declared.Event.{Event}
use Rattle.journal.specs.declared.Event.TheVariants.{Sent, Received, Checkpointed}
use Rattle.journal.specs.Counting.{how_many}
use Rattle.journal.specs.Events.{Front, Begins, NoEvent, with_partner, first_event, Events, events_up_to, events_in}
use Rattle.journal.specs.Running.{process_of}
use Rattle.journal.specs.Questions.{event_named, something_underway, checkpoints_in_all, event_question, events_question}

-- what holds of each event of a list, and of what came before it
abbrev pub Each : (List Event → Event → Type 0) → List Event → Type 0
Each P es = (a : List Event) (e : Event) (b : List Event) → es ≡ a ++ e ∷ b → P a e

-- ---- the questions of one event

pub record Passes (n : ℕ) (before : List Event) (e : Event) : Type 0 where
  pub named : event_named n e ≡ true
  pub underway : something_underway before e ≡ true
  pub few : checkpoints_in_all n (before ++ e ∷ []) ≤ most_checkpoints

pub event_passes : (n : ℕ) (before : List Event) (e : Event) → event_question n before e ≡ 0 → Passes n before e
unfolding event_question
event_passes n before e h =
    let five : Unit {0} → ℕ = λ _. ask 5 (leb (checkpoints_in_all n (before ++ e ∷ [])) most_checkpoints) in
    let a = then_none (ask 10 (event_named n e)) (λ _. ask 20 (something_underway before e) then five) h in
    let b = then_none (ask 20 (something_underway before e)) five a.1 in
    record {
      named = asked_yes 9 (event_named n e) a.0;
      underway = asked_yes 19 (something_underway before e) b.0;
      few = leb-true (checkpoints_in_all n (before ++ e ∷ [])) most_checkpoints (asked_yes 4 _ b.1);
    }

-- ---- who is named

-- the partner of an event with one
pub partner_in : (n process partner : ℕ) → (is_named n process && is_named n partner) ≡ true → (1 ≤ partner) × (partner ≤ n)
partner_in n process partner h = named_in n partner (and_both (is_named n process) (is_named n partner) h).1

-- a partner, where there is one, has a place in the counts
abbrev pub PartnerFits : Event → Type 0
PartnerFits (Sent process partner) = (1 ≤ partner.0) × (partner.0 ≤ most_processes)
PartnerFits (Received process partner) = (1 ≤ partner.0) × (partner.0 ≤ most_processes)
PartnerFits (Checkpointed process) = Unit {0}

pub process_named : (n : ℕ) (e : Event) → event_named n e ≡ true → (1 ≤ process_of e) × (process_of e ≤ n)
process_named n (Sent process partner) h = named_in n process.0 (and_both (is_named n process.0) (is_named n partner.0) h).0
process_named n (Received process partner) h = named_in n process.0 (and_both (is_named n process.0) (is_named n partner.0) h).0
process_named n (Checkpointed process) h = named_in n process.0 h

pub partner_named : (n : ℕ) (e : Event) → n ≤ most_processes → event_named n e ≡ true → PartnerFits e
partner_named n (Sent process partner) few h =
    let in_n = partner_in n process.0 partner.0 h in (in_n.0, omega (arith, in_n.1))
partner_named n (Received process partner) few h =
    let in_n = partner_in n process.0 partner.0 h in (in_n.0, omega (arith, in_n.1))
partner_named n (Checkpointed process) few h = tt

-- ---- a list, event by event

no_cons : (a : List Event) (e : Event) (b : List Event) → [] ≡ a ++ e ∷ b → ⊥
no_cons [] e b h = let z : ◌≡◌ {A = ℕ} 0 (suc (length b)) = ap length h in absurd (omega (arith, z))
no_cons (x ∷ a) e b h = let z : ◌≡◌ {A = ℕ} 0 (suc (length (a ++ e ∷ b))) = ap length h in absurd (omega (arith, z))

pub each_none : (P : List Event → Event → Type 0) → Each P []
each_none P a e b h = absurd (no_cons a e b h)

-- of the first event, with none before it, and of the others after it
pub each_first : (P : List Event → Event → Type 0) (e : Event) (es : List Event) → P [] e → Each (λ a. P (e ∷ a)) es → Each P (e ∷ es)
each_first P e es first rest [] x b h = let same : e ≡ x = cc in subst (λ (y : Event). P [] y) same first
each_first P e es first rest (y ∷ a) x b h =
    let same : e ≡ y = cc in let tail : es ≡ a ++ x ∷ b = cc in
    subst (λ (z : Event). P (z ∷ a) x) same (rest a x b tail)

pub whole_passed : (n : ℕ) (before es : List Event) (whole : Bool) → events_question n before es whole ≡ 0 → whole ≡ true
unfolding events_question
whole_passed n before [] whole h = asked_yes 18 whole h
whole_passed n before (e ∷ es) whole h =
    whole_passed n (before ++ e ∷ []) es whole (then_none (event_question n before e) (λ _. events_question n (before ++ e ∷ []) es whole) h).1

pub each_passes : (n : ℕ) (before es : List Event) (whole : Bool) → events_question n before es whole ≡ 0
    → Each (λ a e. Passes n (before ++ a) e) es
unfolding events_question
each_passes n before [] whole h = each_none (λ a e. Passes n (before ++ a) e)
each_passes n before (e ∷ es) whole h =
    let b = then_none (event_question n before e) (λ _. events_question n (before ++ e ∷ []) es whole) h in
    each_first (λ a x. Passes n (before ++ a) x) e es
    (rw (append-nil before) (event_passes n before e b.0))
    (λ a x c m. subst (λ (l : List Event). Passes n l x) (append_assoc before (e ∷ []) a) (each_passes n (before ++ e ∷ []) es whole b.1 a x c m))

-- ---- partners

-- a partner is not the process
abbrev pub Differs : Event → Type 0
Differs (Sent process partner) = process.0 ≡ partner.0 → ⊥
Differs (Received process partner) = process.0 ≡ partner.0 → ⊥
Differs (Checkpointed process) = Unit {0}

abbrev pub DiffersIn : Front → Type 0
DiffersIn (Begins e rest) = Differs e
DiffersIn NoEvent = Unit {0}

-- an event with a partner, of either kind
partner_differs : (event : Process → Process → Event)
    → ((j p : ℕ) → (j ≡ p → ⊥) → Differs (event (record { 0 = j }) (record { 0 = p })))
    → (process : ℕ) (vs : List ℕ) → DiffersIn (with_partner event process vs)
partner_differs event is process [] = tt
partner_differs event is process (partner ∷ vs) = go (eqb process partner) refl
  where
    go : (t : Bool) → eqb process partner ≡ t
        → DiffersIn (pick t NoEvent (Begins (event (record { 0 = process }) (record { 0 = partner })) vs))
    go true e = tt
    go false e = is process partner (eqb-false process partner e)

pub first_differs : (vs : List ℕ) → DiffersIn (first_event vs)
first_differs [] = tt
first_differs (kind ∷ []) = tt
first_differs (kind ∷ process ∷ vs) =
    pick_each DiffersIn (eqb kind 1) _ _ (partner_differs Sent (λ j p h. h) process vs)
    (pick_each DiffersIn (eqb kind 2) _ _ (partner_differs Received (λ j p h. h) process vs)
    (pick_each DiffersIn (eqb kind 3) _ _ tt tt))

up_to_differ : (fuel : ℕ) (ended : Bool) (vs : List ℕ) → Each (λ a e. Differs e) (events_up_to fuel ended vs).found
unfolding events_up_to
up_to_differ zero ended vs = each_none (λ a e. Differs e)
up_to_differ (suc fuel) ended vs = go (first_event vs) (first_differs vs) (λ rest. up_to_differ fuel ended rest)
  where
    go : (f : Front) → DiffersIn f → ((rest : List ℕ) → Each (λ a e. Differs e) (events_up_to fuel ended rest).found)
        → Each (λ a e. Differs e)
        (elim f as (λ _. Events) [
          | Begins event rest ↦
              record { found = event ∷ (events_up_to fuel ended rest).found; whole = (events_up_to fuel ended rest).whole }
          | NoEvent ↦ record { found = []; whole = nothing_follows ended vs }
        ]
        ).found
    go (Begins event rest) is ih = each_first (λ a e. Differs e) event (events_up_to fuel ended rest).found is (ih rest)
    go NoEvent is ih = each_none (λ a e. Differs e)

pub each_differs : (ended : Bool) (vs : List ℕ) → Each (λ a e. Differs e) (events_in ended vs).found
unfolding events_in
each_differs ended vs = up_to_differ (length vs) ended vs

-- ---- none such

-- an event of the rest is one of the list
pub each_later : (P : List Event → Event → Type 0) (x : Event) (es : List Event) → Each P (x ∷ es) → Each (λ a. P (x ∷ a)) es
each_later P x es each a e b h = each (x ∷ a) e b (ap (λ (l : List Event). x ∷ l) h)

pub none_such : (such : Event → Bool) (es : List Event) → Each (λ a e. such e ≡ false) es → how_many such es ≡ 0
unfolding how_many
none_such such [] each = refl
none_such such (e ∷ es) each =
    rw (each [] e es refl, none_such such es (each_later (λ a x. such x ≡ false) e es each))

-- ---- along a list

-- what holds before the first event, and goes on over each, holds after every prefix
prefixes : (P : List Event → Type 0) (Q : List Event → Event → Type 0) → ((a : List Event) (e : Event) → Q a e → P a → P (a ++ e ∷ []))
    → (before es : List Event) → Each (λ a. Q (before ++ a)) es → P before → (k : ℕ) → P (before ++ take k es)
prefixes P Q more before [] each first zero = rw (append-nil before) first
prefixes P Q more before [] each first (suc k) = rw (append-nil before) first
prefixes P Q more before (e ∷ es) each first zero = rw (append-nil before) first
prefixes P Q more before (e ∷ es) each first (suc k) =
    subst P (append_assoc before (e ∷ []) (take k es))
    (prefixes P Q more (before ++ e ∷ []) es
    (λ a x b h. subst (λ (l : List Event). Q l x) (sym (append_assoc before (e ∷ []) a)) (each (e ∷ a) x b (ap (λ (l : List Event). e ∷ l) h)))
    (more before e (subst (λ (l : List Event). Q l e) (append-nil before) (each [] e es refl)) first) k)

pub along : (P : List Event → Type 0) (Q : List Event → Event → Type 0) → ((a : List Event) (e : Event) → Q a e → P a → P (a ++ e ∷ []))
    → (es : List Event) → Each Q es → P [] → (k : ℕ) → P (take k es)
along P Q more es each first k = prefixes P Q more [] es each first k
