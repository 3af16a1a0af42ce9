-- Words stored one after another from a place on: run after run.
use mathlib.Core.Path.{◌≡◌, sym, ap, ap₂, ◌∙◌}
use mathlib.Core.List.{List, [], ◌++◌, append_assoc, append-nil}
use Prim.Native.Nat.{ℕ, ◌+◌, ◌-◌, ◌≤◌}
use native.Mathlib.Omega.{arith}
use borrow.Rule.Slice.PartMut.{put_mid, Post-is}
use lib.ListN.{length, take, drop, drop_of_length-le, length-append}
use lib.Seq.{sets, sets-eq}
use Rattle.lists.proofs.Over.{length_tab}
use Rattle.lists.proofs.Stores.{sets_append}
use Rattle.restart.specs.declared.Resend.{Resend}
use Rattle.words.specs.Words.{resend_length}
use Rattle.words.specs.Plain.{resend_words}
pub use Rattle.lists.proofs.Stores.{Stored, stored_none, stored_more, stored_all}

-- a run that begins where another ended goes on with it
pub sets_then : (a b l₀ : List ℕ) {l l' : List ℕ} (at : ℕ) {next : ℕ} → l ≡ sets l₀ at a → next ≡ at + length a → l' ≡ sets l next b
    → l' ≡ sets l₀ at (a ++ b)
sets_then a b l₀ at first place second =
    second ∙ ap₂ (λ (m : List ℕ) (k : ℕ). sets m k b) first place ∙ sets_append a b l₀ at

-- and one of as many words as there are places is all that stands there
pub sets_all : (vs l : List ℕ) {l' : List ℕ} → length vs ≡ length l → l' ≡ sets l 0 vs → l' ≡ vs
sets_all vs l same put =
    let none : drop (0 + length vs) l ≡ [] = drop_of_length-le l {i = 0 + length vs} (omega arith) in
    put ∙ sets-eq vs l 0 (omega arith) ∙ ap (λ (m : List ℕ). vs ++ m) none ∙ append-nil vs

-- a run copied over the part of a slice from a place to an end
pub sets_copied : (vs l : List ℕ) (at end : ℕ) → end ≡ at + length vs → end ≤ length l → put_mid at (end - at) l vs ≡ sets l at vs
sets_copied vs l at end e h =
    ap (λ (m : List ℕ). take at l ++ (vs ++ m)) (Post-is at end l (omega arith))
    ∙ ap (λ (k : ℕ). take at l ++ (vs ++ drop k l)) e
    ∙ sym (sets-eq vs l at (omega arith) ∙ append_assoc (take at l) vs (drop (at + length vs) l))

-- how many words a list of what to send again takes
pub resend_long : (resend : Resend) → length (resend_words resend) ≡ resend_length
unfolding resend_words
resend_long resend = simp (length-append, length_tab)
