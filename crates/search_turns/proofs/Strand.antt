-- What a participant sends, put on its own strand.
use mathlib.Core.Path.{◌≡◌, ap, ◌∙◌}
use mathlib.Core.Bool.{true, false}
use mathlib.Core.List.{List}
use Prim.Native.Nat.{ℕ, ◌<◌}
use lib.Dec.{eqb}
use Rattle.book.specs.declared.Count.{Count}
use Rattle.consistency.specs.Known.{counters}
use Rattle.matrix.specs.Matrix.{as_matrix, entry, row}
use Rattle.matrix.proofs.Rows.{entry_of_matrix}
use Rattle.message.specs.declared.Message.{Message}
use Rattle.mail.specs.declared.Outgoing.{Outgoing}
use Rattle.mail.specs.Outgoing.{goes_to, message_to}
use Rattle.machine.specs.Sends.{only_to}
use Rattle.machine_laws.proofs.Rows.{row_ext, row_at}
use Rattle.participant_laws.proofs.Report.{nothing_goes, only_goes}
use Rattle.session.specs.Steps.{on_strand}

-- the message is the one that its row of news is
only_carries : (o : Outgoing) (lead k : ℕ) → k < 16 → message_to (only_to o.head k (row o.news lead)) k ≡ message_to o lead
unfolding only_to
only_carries o lead k h =
    let news : List Count = row o.news lead in
    let sent : List Count = as_matrix (λ p q. counters news q) in
    ap {B = Message} (λ (l : List Count). record { head = o.head; news = l })
    (row_ext (λ p. entry sent k p) (λ p. entry o.news lead p)
    (λ p i. entry_of_matrix (λ p q. counters news q) k p h i ∙ row_at o.news lead p i))

module _ (k lead : ℕ) (o : Outgoing) where
  pub strand_goes : goes_to o lead ≡ true → (q : ℕ) → q < 16 → goes_to (on_strand k lead o) q ≡ eqb q k
  unfolding on_strand
  strand_goes sent q h = rw (on_strand, sent) (only_goes o.head k (row o.news lead) q h)

  pub strand_carries : goes_to o lead ≡ true → k < 16 → message_to (on_strand k lead o) k ≡ message_to o lead
  unfolding on_strand
  strand_carries sent h = rw (on_strand, sent) (only_carries o lead k h)

  pub strand_silent : goes_to o lead ≡ false → (q : ℕ) → q < 16 → goes_to (on_strand k lead o) q ≡ false
  unfolding on_strand
  strand_silent none q h = rw (on_strand, none) (nothing_goes o.head q h)
