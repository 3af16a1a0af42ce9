-- The messages so far are put on their strands, and the lengths noted.
use mathlib.Core.Path.{◌≡◌, refl, sym, ap, subst, ◌∙◌}
use mathlib.Core.Bool.{true, false}
use mathlib.Core.List.{List}
use Prim.Native.Nat.{ℕ, ◌+◌, ◌≤◌, ◌<◌}
use native.Mathlib.Numerals.{add-one}
use native.Mathlib.Omega.{arith}
use lib.ListN.{length, get_or, set}
use lib.Seq.{sets, length-sets}
use Rattle.lists.specs.Pick.{pick}
use Rattle.lists.proofs.Pick.{pick_yes}
use Rattle.lists.proofs.Over.{all_in}
use Rattle.lists.proofs.Filling.{Filled, filled_none, filled_more, filled_all}
use Rattle.mail.specs.declared.Outgoing.{Outgoing}
use Rattle.mail.specs.Outgoing.{goes_to, bytes_to}
use Rattle.strands.specs.Strands.{strand_start, have_room, posted_to, posted, lengths_posted}
use Rattle.strands.proofs.Slots.{room_for}

-- how many bytes wait on process p's strand then
abbrev pub waits : Outgoing → List ℕ → ℕ → ℕ
waits o lengths p = pick (goes_to o p) (length (bytes_to o p)) (get_or lengths p 0)

pub record Posted (n initiator : ℕ) (o : Outgoing) (lengths before next₀ : List ℕ) (k : ℕ) (now next : List ℕ) : Type 0 where
  pub done : now ≡ posted_to k n initiator o before
  pub same : length now ≡ length before
  pub noted : Filled 0 next₀ 16 (waits o lengths) next k

module _ (n initiator : ℕ) (o : Outgoing) (lengths before : List ℕ) {next₀ : List ℕ} where
  pub posted_none : 16 ≤ length next₀ → Posted n initiator o lengths before next₀ 0 before next₀
  unfolding posted_to
  posted_none h = record { done = refl; same = refl; noted = filled_none h }

  module _ {k : ℕ} {now next : List ℕ} (p : Posted n initiator o lengths before next₀ k now next) where
    -- there is room for the next message
    pub posted_room : have_room n initiator o before ≡ true → k < 16 → room_for n initiator o (length now) k ≡ true
    unfolding have_room
    posted_room h l =
        subst (λ (room : ℕ). room_for n initiator o room k ≡ true) (sym p.same) (all_in 16 (room_for n initiator o (length before)) h k l)

    pub posted_more : {now' : List ℕ} → k < 16 → now' ≡ sets now (strand_start n initiator k) (bytes_to o k)
        → (size : ℕ) → size ≡ waits o lengths k → Posted n initiator o lengths before next₀ (k + 1) now' (set next k size)
    unfolding posted_to
    posted_more l e size f =
        record {
          done = rw (add-one k) (e ∙ ap (λ (s : List ℕ). sets s (strand_start n initiator k) (bytes_to o k)) p.done);
          same = ap length e ∙ (length-sets now (strand_start n initiator k) (bytes_to o k) ∙ p.same);
          noted = filled_more p.noted l f;
        }

    pub posted_all : length next₀ ≡ 16 → 16 ≤ k → (next ≡ lengths_posted o lengths) × (now ≡ posted n initiator o before)
    unfolding lengths_posted
    posted_all sixteen l =
        let e : k ≡ 16 = omega (arith, p.noted.within) in
        (filled_all p.noted sixteen l, p.done ∙ ap (λ (i : ℕ). posted_to i n initiator o before) e)

-- the length noted for process k: what was put, or what waited
module _ (o : Outgoing) (lengths : List ℕ) (k : ℕ) where
  pub waits_new : {size : ℕ} → goes_to o k ≡ true → size ≡ length (bytes_to o k) → size ≡ waits o lengths k
  waits_new h e = e ∙ pick_yes (goes_to o k) (length (bytes_to o k)) (get_or lengths k 0) h

  pub waits_still : goes_to o k ≡ false → get_or lengths k 0 ≡ waits o lengths k
  waits_still h = rw h
