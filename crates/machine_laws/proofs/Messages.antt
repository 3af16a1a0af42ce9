-- Named processes, the head of a formed message, the strand that it is on, and what its pairs do not name.
use mathlib.Core.Path.{◌≡◌, refl}
use mathlib.Core.Bool.{Bool, true, false, not, ◌&&◌, ◌||◌}
use Prim.Native.Nat.{ℕ, ◌-◌, ◌≤◌, ◌<◌}
use native.Mathlib.Decide.{dec_lt}
use native.Mathlib.Omega.{arith}
use borrow.Author.Tests.{eq-eqb, ne_eqb}
use lib.Dec.{eqb}
use Rattle.book.specs.Bounds.{mark}
use Rattle.lists.proofs.Tests.{and_both}
use Rattle.consistency.specs.Known.{counters}
use Rattle.matrix.specs.Matrix.{is_pair}
use Rattle.message.specs.declared.Message.{Message}
use Rattle.book.specs.Names.{is_purpose, is_named}
use Rattle.message.specs.Formed.{is_kind, head_formed, participant_end}
use Rattle.book.proofs.Names.{named_in}
use Rattle.message_laws.specs.Formed.{IsFormed}
use Rattle.machine_laws.proofs.Pairs.{no_pair}

-- the place of a named process is there
pub named_there : (n process : ℕ) → is_named n process ≡ true → process - 1 < n
named_there n process h = omega (arith, (named_in n process h).0, (named_in n process h).1)

-- the sender is named, and only an invitation has purpose 2
pub head_in : (n kind purpose sender : ℕ) → head_formed n kind purpose sender ≡ true
    → (1 ≤ sender) × (sender ≤ n) × ((not (eqb purpose 2) || eqb kind 1) ≡ true)
unfolding head_formed
head_in n kind purpose sender h =
    let last : Bool = not (eqb purpose 2) || eqb kind 1 in
    let a = and_both (is_kind kind) (is_purpose purpose && (is_named n sender && last)) h in
    let b = and_both (is_purpose purpose) (is_named n sender && last) a.1 in
    let c = and_both (is_named n sender) last b.1 in
    ((named_in n sender c.0).0, (named_in n sender c.0).1, c.1)

pub head_out : (n kind purpose sender : ℕ) → is_kind kind ≡ true → is_purpose purpose ≡ true → is_named n sender ≡ true
    → (not (eqb purpose 2) || eqb kind 1) ≡ true → head_formed n kind purpose sender ≡ true
unfolding head_formed
head_out n kind purpose sender kinds purposes named last = rw (kinds, purposes, named) last

-- at the strand's end is the participant that reads, and where the initiator reads, the one that sent
pub end_of_reader : (me initiator sender : ℕ) → eqb me initiator ≡ false → participant_end me initiator sender ≡ me
end_of_reader me initiator sender other = rw other

pub end_of_sender : (me sender : ℕ) → (sender ≡ me → ⊥) → participant_end me me sender ≡ sender
end_of_sender me sender other = rw (eq-eqb me me refl, ne_eqb sender me other)

-- no pair names the participant at the strand's end or an absent process
pub news_rest : (n end : ℕ) (m : Message) → IsFormed n end m → 1 ≤ end → end ≤ n → (p : ℕ) → p < 16
    → is_pair n (end - 1) p ≡ false → counters m.news p ≡ mark
news_rest n end m formed some most p h none = elim (dec_lt (counters m.news p) mark) [
  | yes low ↦
      let named = formed.named p h low in
      let itself : p ≡ end - 1 = no_pair n (end - 1) p (omega arith) none named.0 in
      absurd (named.1 (omega arith))
  | no high ↦ omega (arith, formed.most p h)
]
