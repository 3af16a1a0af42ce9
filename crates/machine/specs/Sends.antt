-- What the steps of both machines send, and how a termination is known.
use Rattle.std.specs.Prelude.{Bool, false, ◌&&◌, List, ℕ, eqb}
use Rattle.book.specs.declared.Count.{Count}
use Rattle.book.specs.declared.Process.{Process}
use Rattle.book.specs.Bounds.{mark, most_processes}
use Rattle.lists.specs.Over.{tab}
use Rattle.consistency.specs.Known.{counters}
use Rattle.matrix.specs.Matrix.{as_matrix}
use Rattle.message.specs.declared.Head.{Head}
use Rattle.message.specs.declared.Message.{Message}
use Rattle.mail.specs.declared.Outgoing.{Outgoing}
use Rattle.message.specs.Layout.{pair_count}

-- "kind (1 invitation, 2 other)"
abbrev pub invitation_head : ℕ → Process → Head
invitation_head purpose sender = record { kind = 1; purpose = purpose; sender = sender }

abbrev pub other_head : ℕ → Process → Head
other_head purpose sender = record { kind = 2; purpose = purpose; sender = sender }

-- one row of news for each receiver, none of which says anything
abbrev pub no_pairs : List Count
no_pairs = as_matrix (λ p k. mark)

-- no message
unfoldable pub nothing : Head → Outgoing
nothing head = record { head = head; to = tab most_processes (λ p. false); news = no_pairs }

-- one message, to process `to`, which counts from 0
unfoldable pub only_to : Head → ℕ → List Count → Outgoing
only_to head to news =
    record { head = head; to = tab most_processes (λ p. eqb p to); news = as_matrix (λ p k. counters news k) }

-- "Kind 2 from the initiator without pairs is the termination." That it is from the initiator, question 15 has asked.
abbrev pub is_termination : Message → Bool
is_termination m = eqb m.head.kind 2 && eqb (pair_count m.news) 0
