-- What waits on each strand after a call, and how long it is.
use mathlib.Core.Path.{◌≡◌, refl, ◌∙◌}
use mathlib.Core.Bool.{true, false}
use mathlib.Core.List.{List, []}
use Prim.Native.Nat.{ℕ, ◌<◌}
use borrow.Author.Tests.{eq-eqb, ne_eqb}
use lib.ListN.{length}
use Rattle.lists.proofs.Over.{length_tab, get_d_tab}
use Rattle.lists.specs.Pick.{pick}
use Rattle.message.specs.Layout.{message_bytes}
use Rattle.mail.specs.declared.Outgoing.{Outgoing}
use Rattle.mail.specs.Outgoing.{goes_to, message_to, bytes_to}
use Rattle.strands.specs.Strands.{length_on, lengths_posted}
use Rattle.session_theory.proofs.Invariant.{box_after}

module _ (o : Outgoing) (p : ℕ) (box : ℕ → List ℕ) where
  pub box_sent : (q : ℕ) → goes_to o q ≡ true → box_after o p box q ≡ bytes_to o q
  box_sent q sent = rw sent

  pub box_new : (q : ℕ) → goes_to o q ≡ true → box_after o p box q ≡ message_bytes (message_to o q)
  box_new q sent = rw sent

  -- the strand on which a message was delivered
  pub box_empty : goes_to o p ≡ false → box_after o p box p ≡ []
  box_empty none = rw (none, eq-eqb p p refl)

  pub box_kept : (q : ℕ) → goes_to o q ≡ false → (q ≡ p → ⊥) → box_after o p box q ≡ box q
  box_kept q none other = rw (none, ne_eqb q p other)

-- ---- lengths

module _ (o : Outgoing) (lengths : List ℕ) where
  abbrev length_after : ℕ → ℕ
  length_after k = pick (goes_to o k) (length (bytes_to o k)) (length_on lengths k)

  pub lengths_long : length (lengths_posted o lengths) ≡ 16
  unfolding lengths_posted
  lengths_long = length_tab 16 length_after

  pub lengths_at : (k : ℕ) → k < 16 → length_on (lengths_posted o lengths) k ≡ length_after k
  unfolding lengths_posted
  lengths_at k h = get_d_tab 16 length_after k 0 h

  pub lengths_none : (k : ℕ) → k < 16 → goes_to o k ≡ false → length_on (lengths_posted o lengths) k ≡ length_on lengths k
  lengths_none k h none = lengths_at k h ∙ rw none
