-- One entry held, its present value, and news of it.
use mathlib.Core.Path.{◌≡◌, sym, ◌∙◌}
use mathlib.Core.Bool.{Bool, true, false, not, ◌||◌, or-true, true≢false}
use Prim.Native.Nat.{ℕ, ◌≤◌, ◌<◌}
use native.Mathlib.Decide.{ℕ_discrete, dec_lt}
use native.Mathlib.Omega.{arith}
use borrow.Author.Tests.{lt-ltb, le-ltb, eq-eqb, ne_eqb}
use lib.Dec.{ltb}
use Rattle.book.specs.Bounds.{mark}
use Rattle.matrix.specs.Entries.{is_news, differing, changed}

-- what `all_lower` asks of one entry
abbrev pub lower : ℕ → ℕ → Bool
lower news held = not (is_news news) || ltb news held

pub lower_mark : (news held : ℕ) → news ≡ mark → lower news held ≡ true
lower_mark news held e = rw (eq-eqb news mark e)

pub lower_counter : (news held : ℕ) → news < held → lower news held ≡ true
lower_counter news held h = rw (lt-ltb news held h) (or-true (not (is_news news)))

pub not_lower : (news held : ℕ) → (news ≡ mark → ⊥) → held ≤ news → lower news held ≡ false
not_lower news held ne h = rw (ne_eqb news mark ne, le-ltb news held h)

-- ---- news of an entry that differs

pub differing_same : (v held : ℕ) → v ≡ held → differing v held ≡ mark
differing_same v held e = rw (eq-eqb v held e)

pub differing_other : (v held : ℕ) → (v ≡ held → ⊥) → differing v held ≡ v
differing_other v held ne = rw (ne_eqb v held ne)

pub differing_none : (v held : ℕ) → v ≤ held → held ≤ mark → differing v held ≡ mark → v ≡ held
differing_none v held h m e =
    elim (ℕ_discrete v held) [ yes q ↦ q | no ne ↦ let z : v ≡ mark = sym (differing_other v held ne) ∙ e in absurd (ne (omega arith)) ]

pub differing_lower : (v held : ℕ) → v ≤ held → held ≤ mark → lower (differing v held) held ≡ true
differing_lower v held h m =
    elim (ℕ_discrete v held) [
      | yes e ↦ lower_mark (differing v held) held (differing_same v held e)
      | no ne ↦ let z : v < held = omega arith in rw (differing_other v held ne) (lower_counter v held z)
    ]

-- ---- the entry after the news

pub changed_none : (held news : ℕ) → news ≡ mark → changed held news ≡ held
changed_none held news e = rw (eq-eqb news mark e)

pub changed_news : (held news : ℕ) → (news ≡ mark → ⊥) → changed held news ≡ news
changed_news held news ne = rw (ne_eqb news mark ne)

pub changed_differing : (v held : ℕ) → v ≤ held → held ≤ mark → changed held (differing v held) ≡ v
changed_differing v held h m =
    elim (ℕ_discrete v held) [
      | yes e ↦ changed_none held (differing v held) (differing_same v held e) ∙ sym e
      | no ne ↦
          let counter : (v ≡ mark → ⊥) = λ e. absurd (omega arith) in
          rw (differing_other v held ne) (changed_news held v counter)
    ]

pub changed_lower : (held news : ℕ) → lower news held ≡ true → changed held news ≤ held
changed_lower held news l =
    elim (ℕ_discrete news mark) [
      | yes e ↦ let z : changed held news ≡ held = changed_none held news e in omega (arith, z)
      | no ne ↦
          elim (dec_lt news held) [
            | yes h ↦ let z : changed held news ≡ news = changed_news held news ne in omega (arith, z)
            | no h ↦ absurd (true≢false (sym l ∙ not_lower news held ne (omega arith)))
          ]
    ]
