-- News of the entries that differ, where it is received by one who holds the others.
use mathlib.Core.Path.{◌≡◌, refl, sym, ap, subst, ◌∙◌}
use mathlib.Core.Bool.{Bool, true, false}
use mathlib.Core.List.{List}
use Prim.Native.Nat.{ℕ, suc, ◌-◌, ◌≤◌, ◌<◌}
use native.Mathlib.Decide.{ℕ_discrete}
use native.Mathlib.Omega.{arith}
use borrow.Author.Tests.{eq-eqb, ne_eqb}
use lib.ListN.{length}
use Rattle.book.specs.declared.Count.{Count}
use Rattle.book.specs.Bounds.{mark}
use Rattle.lists.proofs.Over.{all_in, all_out}
use Rattle.consistency.specs.Known.{counters}
use Rattle.matrix.specs.Matrix.{is_pair, not_known_row}
use Rattle.matrix.specs.Entries.{is_news, differing, changed, diff, patch, all_lower}
use Rattle.matrix.specs.Statements.{Fallen}
use Rattle.matrix.proofs.Rows.{row_length}
use Rattle.matrix.proofs.News.{lower, lower_mark, differing_same, differing_other, differing_none}
use Rattle.matrix.proofs.Theorems.{diff_at, patch_at, patch_diff_at, diff_lower}
use Rattle.message.specs.declared.Message.{Message}
use Rattle.message.specs.Layout.{pair_count}
use Rattle.message.specs.Formed.{head_formed, invitation_formed}
use Rattle.message_laws.specs.Formed.{IsFormed}
use Rattle.machine_laws.proofs.Pairs.{pair_in}
use Rattle.machine_laws.proofs.Rows.{not_known_pair}
use Rattle.exchange_laws.specs.Ends.{SameEntries}
use Rattle.exchange_laws.proofs.Counts.{every_pair}

-- diagonal and absent entries are zero, of what process j sent or was sent
abbrev pub ZeroRest : ℕ → ℕ → List Count → Type 0
ZeroRest n j a = (p : ℕ) → p < 16 → is_pair n j p ≡ false → counters a p ≡ 0

-- ---- news that says nothing

pub none_lower : (news held : List Count) → ((p : ℕ) → p < 16 → counters news p ≡ mark) → all_lower news held ≡ true
unfolding all_lower
none_lower news held none =
    all_out 16 (λ p. lower (counters news p) (counters held p)) (λ p h. lower_mark (counters news p) (counters held p) (none p h))

pub none_formed : (n end : ℕ) (m : Message) → length m.news ≡ 16 → ((p : ℕ) → p < 16 → counters m.news p ≡ mark)
    → head_formed n m.head.kind m.head.purpose m.head.sender.0 ≡ true → invitation_formed m ≡ true → IsFormed n end m
none_formed n end m long none head invitation =
    record {
      long = long;
      head = head;
      most = λ p h. omega (arith, none p h);
      named = λ p h low. absurd (omega (arith, none p h));
      invitation = invitation;
    }

-- ---- news of what differs

module _ (now held : List Count) (fallen : Fallen now held) where
  -- it says nothing, or a counter that has fallen
  diff_cases : (P : ℕ → Type 0) (p : ℕ) → p < 16 → P mark → ((counters now p ≡ counters held p → ⊥) → counters now p < mark → P (counters now p))
      → P (counters (diff now held) p)
  diff_cases P p h nothing counter =
      subst P (sym (diff_at now held p h))
      (elim (ℕ_discrete (counters now p) (counters held p)) [
        | yes e ↦ subst P (sym (differing_same (counters now p) (counters held p) e)) nothing
        | no ne ↦
            subst P (sym (differing_other (counters now p) (counters held p) ne))
            (counter ne (omega (arith, (fallen p h).0, (fallen p h).1)))
      ])

  -- an entry that differs is told
  pub diff_told : (p : ℕ) → p < 16 → (counters now p ≡ counters held p → ⊥) → counters (diff now held) p ≡ mark → ⊥
  diff_told p h ne e =
      ne (differing_none (counters now p) (counters held p) (fallen p h).0 (fallen p h).1 (sym (diff_at now held p h) ∙ e))

  module _ (n j : ℕ) (zeros : ZeroRest n j held) where
    same_rest : (p : ℕ) → p < 16 → is_pair n j p ≡ false → counters now p ≡ counters held p
    same_rest p h none = omega (arith, (fallen p h).0, zeros p h none)

    -- it says nothing of the process itself or of an absent one
    diff_named : (p : ℕ) → p < 16 → counters (diff now held) p < mark → is_pair n j p ≡ true
    diff_named p h =
        diff_cases (λ v. v < mark → is_pair n j p ≡ true) p h (λ low. absurd (omega arith)) (λ ne low _. go (is_pair n j p) refl ne)
      where
        go : (t : Bool) → is_pair n j p ≡ t → (counters now p ≡ counters held p → ⊥) → is_pair n j p ≡ true
        go true e ne = e
        go false e ne = absurd (ne (same_rest p h e))

    -- where nothing was known, it says something of every other process
    pub diff_first : j < n → n ≤ 16 → SameEntries held (not_known_row n j) → ((p : ℕ) → p < 16 → counters now p < mark)
        → pair_count (diff now held) ≡ n - 1
    diff_first there few first low = every_pair n j (diff now held) there few (λ p h. each p h (is_pair n j p) refl)
      where
        each : (p : ℕ) → p < 16 → (t : Bool) → is_pair n j p ≡ t → is_news (counters (diff now held) p) ≡ is_pair n j p
        each p h true e =
            let unknown : counters held p ≡ mark = first p h ∙ not_known_pair n j p h e in
            rw (ne_eqb (counters (diff now held) p) mark (diff_told p h (λ same. absurd (omega (arith, low p h))))) (sym e)
        each p h false e =
            rw (eq-eqb (counters (diff now held) p) mark (diff_at now held p h ∙ differing_same (counters now p) (counters held p) (same_rest p h e)))
            (sym e)

  -- the message is formed
  pub diff_formed : (n end : ℕ) (m : Message) → 1 ≤ end → m.news ≡ diff now held → ZeroRest n (end - 1) held
      → head_formed n m.head.kind m.head.purpose m.head.sender.0 ≡ true → invitation_formed m ≡ true → IsFormed n end m
  diff_formed n end m some is zeros head invitation =
      record {
        long = ap (λ (l : List Count). length l) is ∙ row_length (λ p. differing (counters now p) (counters held p));
        head = head;
        most = λ p h.
            subst (λ (l : List Count). counters l p ≤ mark) (sym is)
            (diff_cases (λ v. v ≤ mark) p h (omega arith) (λ ne low. omega arith));
        named = λ p h.
            subst (λ (l : List Count). counters l p < mark → (p < n) × (suc p ≡ end → ⊥)) (sym is)
            (λ low.
            let pair = pair_in n (end - 1) p (diff_named n (end - 1) zeros p h low) in
            (pair.0, λ e. pair.1 (omega arith)));
        invitation = invitation;
      }

  -- who holds the same entries finds every counter lower,
  pub received_lower : (has : List Count) → SameEntries has held → all_lower (diff now held) has ≡ true
  unfolding all_lower
  received_lower has same =
      all_out 16 (λ p. lower (counters (diff now held) p) (counters has p))
      (λ p h.
      subst (λ (v : ℕ). lower (counters (diff now held) p) v ≡ true) (sym (same p h))
      (all_in 16 (λ p. lower (counters (diff now held) p) (counters held p)) (diff_lower now held fallen) p h))

  -- and has the present ones afterwards
  pub received_patch : (has : List Count) → SameEntries has held → SameEntries (patch has (diff now held)) now
  received_patch has same p h =
      patch_at has (diff now held) p h
      ∙ (ap (λ (v : ℕ). changed v (counters (diff now held) p)) (same p h)
      ∙ (sym (patch_at held (diff now held) p h) ∙ patch_diff_at now held fallen p h))
