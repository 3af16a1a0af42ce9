-- Questions put in turn: which of them answers, and what a call of a session hands back then.
use mathlib.Core.Path.{◌≡◌, refl, sym, subst, ◌∙◌}
use mathlib.Core.Bool.{Bool, true, false}
use mathlib.Core.List.{List}
use Prim.Native.Nat.{ℕ, zero, suc, ◌≤◌}
use native.Mathlib.Omega.{arith}
use Rattle.std.specs.Prelude.{Result, Ok, Err}
use Rattle.book.specs.declared.Question.{Question}
use Rattle.book.specs.declared.Question.TheVariants.{Room}
use Rattle.book.specs.InTurn.{◌then◌, ask, answer_with, unless_refused}
use Rattle.book.specs.Numbers.{number, by_number}
use Rattle.book.proofs.Questions.{then_passed, then_refused, ask_yes, ask_no, kept_passed, kept_refused}
use Rattle.book.proofs.Refusals.{number_positive, refuses, accepts}
use Rattle.strands.specs.Strands.{lengths_posted}
use Rattle.session.specs.declared.Session.{Session}
use Rattle.session.specs.declared.Turned.{Turned}
use Rattle.session.specs.Steps.{with_posted}

-- ---- which question

-- several questions at once are put before the others
pub two_then : (a b c : ℕ) → ((a then λ _. b) then λ _. c) ≡ (a then λ _. b then λ _. c)
two_then zero b c = refl
two_then (suc a) b c = refl

pub three_then : (a b c d : ℕ) → ((a then λ _. b then λ _. c) then λ _. d) ≡ (a then λ _. b then λ _. c then λ _. d)
three_then zero zero c d = refl
three_then zero (suc b) c d = refl
three_then (suc a) b c d = refl

module _ (p q r : ℕ) where
  pub at_first : (p ≡ 0 → ⊥) → (p then λ _. q then λ _. r) ≡ p
  at_first h = then_refused p (λ _. q then λ _. r) h

  past_first : p ≡ 0 → (p then λ _. q then λ _. r) ≡ (q then λ _. r)
  past_first h = then_passed p (λ _. q then λ _. r) h

  pub at_second : p ≡ 0 → (q ≡ 0 → ⊥) → (p then λ _. q then λ _. r) ≡ q
  at_second h l = past_first h ∙ then_refused q (λ _. r) l

  pub at_last : p ≡ 0 → q ≡ 0 → (p then λ _. q then λ _. r) ≡ r
  at_last h l = past_first h ∙ then_passed q (λ _. r) l

-- ---- what is handed back

pub posted_is : (turned : Turned) (lengths : List ℕ) → lengths ≡ lengths_posted turned.outgoing turned.session.lengths
    → ◌≡◌ {A = Session} (record {
      n = turned.session.n;
      initiator = turned.session.initiator;
      purpose = turned.session.purpose;
      machine = turned.session.machine;
      participants = turned.session.participants;
      lengths = lengths;
      delivered = turned.session.delivered;
    }) (with_posted turned)
unfolding with_posted
posted_is turned lengths e =
    λ i. record {
      n = turned.session.n;
      initiator = turned.session.initiator;
      purpose = turned.session.purpose;
      machine = turned.session.machine;
      participants = turned.session.participants;
      lengths = e i;
      delivered = turned.session.delivered;
    }

pub no_pass : (e : Question) (q : ℕ) → q ≡ number e → q ≡ 0 → ⊥
no_pass e q is z = let h : 1 ≤ number e = number_positive e in absurd (omega arith)

-- a refusal leaves what was there
pub kept : {A : Type 0} (e : Question) (q : ℕ) (before now : A) → q ≡ number e → before ≡ unless_refused q before now
kept e q before now is = sym (kept_refused q before now (no_pass e q is))

-- what stands beside a refusal is no matter
pub answered : {A : Type 0} (q : ℕ) (before after : A) → answer_with q after ≡ answer_with q (unless_refused q before after)
unfolding answer_with
answered zero before after = refl
answered (suc q) before after = refl

-- by the question: the answer, and the strands
abbrev pub Handed : ℕ → Session → List ℕ → List ℕ → Result Session Question → List ℕ → Type 0
Handed question after strands written answer bytes =
    (by_number answer ≡ answer_with question after) × (bytes ≡ unless_refused question strands written)

pub handed_by : (question same : ℕ) (after : Session) (strands written : List ℕ) (answer : Result Session Question) (bytes : List ℕ)
    → question ≡ same → Handed same after strands written answer bytes → Handed question after strands written answer bytes
handed_by question same after strands written answer bytes e handed =
    subst (λ (q : ℕ). Handed q after strands written answer bytes) (sym e) handed

-- question 17, asked last
module _ (after : Session) (strands written : List ℕ) (room : Bool) where
  pub no_room : room ≡ false → Handed (ask 17 room) after strands written (Err Room) strands
  no_room h =
      let fails : ask 17 room ≡ 17 = ask_no 17 room h in
      (refuses Room after fails, kept Room (ask 17 room) strands written fails)

  pub with_room : (session : Session) (bytes : List ℕ) → room ≡ true → session ≡ after → bytes ≡ written
      → Handed (ask 17 room) after strands written (Ok session) bytes
  with_room session bytes h e f =
      let passes : ask 17 room ≡ 0 = ask_yes 17 room h in
      (accepts passes e, f ∙ sym (kept_passed (ask 17 room) strands written passes))
