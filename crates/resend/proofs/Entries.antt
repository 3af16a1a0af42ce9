-- The equations of a list's entries: asked, taken in, and written.
-- Assumes nothing.
use mathlib.Core.Path.{◌≡◌, refl}
use mathlib.Core.Bool.{Bool}
use mathlib.Core.List.{List, [], ◌∷◌, ◌++◌}
use Prim.Native.Nat.{ℕ, zero, suc, ◌<◌}
use native.Mathlib.Omega.{arith}
use lib.ListN.{length}
use Rattle.book.specs.InTurn.{◌then◌, ask}
use Rattle.book.specs.Questions.{nothing_follows}
use Rattle.restart.specs.declared.Resend.{Resend}
use Rattle.resend.specs.Layout.{has_entry, one_entry, entries_to, with_entry, entries_in}
use Rattle.resend.specs.Questions.{entry_question, entries_question}

-- ---- asked

module _ (n s r : ℕ) (ended : Bool) where
  pub asked_done : (numbers : List ℕ) → entries_question n s r zero ended numbers ≡ ask 21 (nothing_follows ended numbers)
  unfolding entries_question
  asked_done numbers = refl

  -- not four numbers
  pub asked_short : (count : ℕ) (numbers : List ℕ) → length numbers < 4 → entries_question n s r (suc count) ended numbers ≡ 3
  unfolding entries_question
  asked_short count [] h = refl
  asked_short count (a ∷ []) h = refl
  asked_short count (a ∷ b ∷ []) h = refl
  asked_short count (a ∷ b ∷ c ∷ []) h = refl
  asked_short count (a ∷ b ∷ c ∷ d ∷ numbers) h = absurd (omega arith)

  pub asked_more : (count sender receiver first last : ℕ) (numbers : List ℕ)
      → entries_question n s r (suc count) ended (sender ∷ receiver ∷ first ∷ last ∷ numbers)
      ≡ (entry_question n s r sender receiver first last then λ _. entries_question n sender receiver count ended numbers)
  unfolding entries_question
  asked_more count sender receiver first last numbers = refl

-- ---- taken in

pub taken_none : (list : Resend) → entries_in list [] ≡ list
unfolding entries_in
taken_none list = refl

pub taken_more : (list : Resend) (sender receiver first last : ℕ) (numbers : List ℕ)
    → entries_in list (sender ∷ receiver ∷ first ∷ last ∷ numbers) ≡ entries_in (with_entry list sender receiver first last) numbers
unfolding entries_in
taken_more list sender receiver first last numbers = refl

-- ---- written

module _ (first last : ℕ → ℕ) where
  pub written_none : entries_to zero first last ≡ []
  unfolding entries_to
  written_none = refl

  pub written_more : (k : ℕ)
      → entries_to (suc k) first last ≡ entries_to k first last ++ one_entry (has_entry (first k)) k (first k) (last k)
  unfolding entries_to
  written_more k = refl
