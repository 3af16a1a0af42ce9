-- Questions put in turn: three of them, and those of a call on two tables that it finds the same in.
use mathlib.Core.Path.{◌≡◌, refl, sym, ap, subst}
use mathlib.Core.Bool.{Bool, true, false}
use mathlib.Core.List.{List}
use Prim.Native.Nat.{ℕ, zero, suc}
use lib.Seq.{sets}
use Rattle.book.specs.InTurn.{◌then◌, ask, unless_refused}
use Rattle.book.proofs.Questions.{then_none, then_assoc, asked_yes}
use Rattle.mail.specs.declared.Outgoing.{Outgoing}
use Rattle.mail.specs.Outgoing.{lengths, no_lengths, mail, room_question, sent_lengths, sent_bytes}

-- none of three fails
pub three_yes : (i j k : ℕ) (a b c : Bool) → (ask (suc i) a then λ _. ask (suc j) b then λ _. ask (suc k) c) ≡ 0
    → (a ≡ true) × (b ≡ true) × (c ≡ true)
three_yes i j k a b c h =
    let x = then_none (ask (suc i) a) (λ _. ask (suc j) b then λ _. ask (suc k) c) h in
    let y = then_none (ask (suc j) b) (λ _. ask (suc k) c) x.1 in
    (asked_yes i a x.0, asked_yes j b y.0, asked_yes k c y.1)

pub yes_three : (i j k : ℕ) (a b c : Bool) → a ≡ true → b ≡ true → c ≡ true
    → (ask i a then λ _. ask j b then λ _. ask k c) ≡ 0
yes_three i j k a b c x y z = rw (x, y, z)

-- ---- calls

-- a call on tables of n processes: after question 10, whether its processes are named, it asks and puts what follows from x
module _ {X : Type 0} (named : ℕ → Bool) (later : ℕ → X → ℕ) where
  abbrev asked : ℕ → ℕ → X → ℕ
  asked tables n x = tables then λ _. ask 10 (named n) then λ _. later n x

  module _ (tables tables' n n' : ℕ) (x x' : X) (accepted : tables ≡ 0) (accepted' : tables' ≡ 0) (processes : n ≡ n')
      (same : named n ≡ true → x ≡ x') where
    pub same_asked : asked tables n x ≡ asked tables' n' x'
    same_asked = rw (accepted, accepted', ← processes) (go (named n) refl)
      where
        go : (t : Bool) → named n ≡ t → (ask 10 (named n) then λ _. later n x) ≡ (ask 10 (named n) then λ _. later n x')
        go true e = ap (λ (y : X). ask 10 (named n) then λ _. later n y) (same e)
        go false e = rw e

    -- what it leaves or puts
    pub same_put : {A : Type 0} (before : A) (part : X → A)
        → unless_refused (asked tables n x) before (part x) ≡ unless_refused (asked tables' n' x') before (part x')
    same_put before part = go (asked tables n x) (asked tables' n' x') same_asked refl
      where
        go : (q q' : ℕ) → q ≡ q' → asked tables n x ≡ q → unless_refused q before (part x) ≡ unless_refused q' before (part x')
        go zero q' e none =
            let b = then_none tables (λ _. ask 10 (named n) then λ _. later n x) none in
            let c = then_none (ask 10 (named n)) (λ _. later n x) b.1 in
            rw (← e) (ap part (same (asked_yes 9 (named n) c.0)))
        go (suc q) q' e none = rw (← e)

-- the answer, the state, the lengths and the bytes are the same
abbrev pub SameCall : {X S : Type 0} → ℕ → ℕ → X → X → S → (X → S) → (X → Outgoing) → List ℕ → Type 0
SameCall q q' x x' before state outgoing out =
    (q ≡ q')
    × (unless_refused q before (state x) ≡ unless_refused q' before (state x'))
    × (sent_lengths q (outgoing x) ≡ sent_lengths q' (outgoing x'))
    × (sent_bytes q (outgoing x) out ≡ sent_bytes q' (outgoing x') out)

module _ {X S : Type 0} (named : ℕ → Bool) (before : S) (out : List ℕ) (tables tables' n n' : ℕ) (accepted : tables ≡ 0)
    (accepted' : tables' ≡ 0) (processes : n ≡ n') where
  pub same_call : (state : X → S) (outgoing : X → Outgoing) (x x' : X) (later : ℕ → X → ℕ) → (named n ≡ true → x ≡ x')
      → SameCall (asked named later tables n x) (asked named later tables' n' x') x x' before state outgoing out
  same_call state outgoing x x' later same = (
    same_asked named later tables tables' n n' x x' accepted accepted' processes same,
    same_put named later tables tables' n n' x x' accepted accepted' processes same before state,
    same_put named later tables tables' n n' x x' accepted accepted' processes same no_lengths (λ y. lengths (outgoing y)),
    same_put named later tables tables' n n' x x' accepted accepted' processes same out (λ y. sets out 0 (mail (outgoing y))),
  )

-- a machine receives a message: it asks 10, 11 and 13 of its state, then the questions of the message, then for room
module _ {X : Type 0} (named : ℕ → Bool) (purpose : Bool) (message : ℕ → ℕ) (outgoing : X → Outgoing) (out : List ℕ) where
  abbrev received : ℕ → ℕ → Bool → X → ℕ
  received tables n fitting x =
      tables
      then λ _. (ask 10 (named n) then λ _. ask 11 purpose then λ _. ask 13 fitting)
      then λ _. message n
      then λ _. room_question (outgoing x) out

  abbrev later : ℕ → Bool × X → ℕ
  later n y = (ask 11 purpose then λ _. ask 13 y.0) then λ _. message n then λ _. room_question (outgoing y.1) out

  abbrev in_turn : ℕ → ℕ → Bool → X → ℕ
  in_turn tables n fitting x = asked {X = Bool × X} named later tables n (fitting, x)

  asks : (tables n : ℕ) (fitting : Bool) (x : X) → in_turn tables n fitting x ≡ received tables n fitting x
  asks tables n fitting x =
      ap (λ (q : ℕ). tables then λ _. q)
      (sym (then_assoc (ask 10 (named n)) (λ _. ask 11 purpose then λ _. ask 13 fitting) (λ _. message n then λ _. room_question (outgoing x) out)))

  pub same_received : {S : Type 0} (before : S) (state : X → S) (tables tables' n n' : ℕ) (fitting fitting' : Bool) (x x' : X) → tables ≡ 0 → tables' ≡ 0
      → n ≡ n' → (named n ≡ true → (fitting ≡ fitting') × (x ≡ x'))
      → SameCall (received tables n fitting x) (received tables' n' fitting' x') x x' before state outgoing out
  same_received before state tables tables' n n' fitting fitting' x x' accepted accepted' processes same =
      subst (λ (q : ℕ). SameCall q (received tables' n' fitting' x') x x' before state outgoing out) (asks tables n fitting x)
      (subst (λ (q : ℕ). SameCall (in_turn tables n fitting x) q x x' before state outgoing out) (asks tables' n' fitting' x')
      (same_call {X = Bool × X} named before out tables tables' n n' accepted accepted' processes (λ y. state y.1) (λ y. outgoing y.1)
      (fitting, x) (fitting', x') later (λ h. rw ((same h).0, (same h).1))))
