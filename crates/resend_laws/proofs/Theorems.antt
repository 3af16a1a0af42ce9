-- The statements of `specs/Statements.antt` hold.
use mathlib.Core.Path.{◌≡◌, sym, ap, subst, ◌∙◌}
use Prim.Native.Nat.{ℕ, ◌<◌}
use native.Mathlib.Decide.{dec_lt}
use Rattle.varint.proofs.Theorems.{written_are_bytes}
use Rattle.line_theory.proofs.Accepted.{passed_size}
use Rattle.restart.specs.declared.Resend.{Resend}
use Rattle.restart.proofs.Orders.{tables_pass}
use Rattle.resend.specs.Layout.{list_numbers, list_bytes}
use Rattle.resend.specs.Calls.{list_read}
use Rattle.move_laws.specs.Moves.{order_with}
use Rattle.resend_laws.specs.Lists.{IsList, messages, first_on, last_on, sent_again, Completes, order_sent, order_received}
use Rattle.resend_laws.specs.Statements.{
  OrderHasList,
  AllReceived,
  EntryExactly,
  OldestSentIsSentAgain,
  MovedHasSameList,
  WrittenThenRead,
  ReadThenWritten,
  ReadIsList,
  LineHasOneList,
  OneList,
  Longest,
}
use Rattle.resend_laws.proofs.Whole.{bytes_few, read_bytes, read_list, written_read}
use Rattle.resend_laws.proofs.Channels.{OnChannel, list_channel, channel_absent, same_channels, same_rest, same_messages, missing_completes}
use Rattle.resend_laws.proofs.Orders.{first_is, last_is, received_sent, order_is_list}
use Rattle.resend_laws.proofs.Orders as orders
use Rattle.resend_laws.proofs.Moved.{again_accepted, moved_list}

-- ---- the list of a restart order

pub order_has_list : OrderHasList
order_has_list = order_is_list

pub all_received : AllReceived
all_received m accepted a b h o =
    rw (first_is m accepted a b h o, last_is m accepted a b h o)
    (missing_completes (order_received m a b) (order_sent m a b) (received_sent m accepted a b h o))

pub entry_exactly : EntryExactly
entry_exactly = orders.entry_exactly

pub oldest_sent_is_sent_again : OldestSentIsSentAgain
oldest_sent_is_sent_again = orders.oldest_sent

pub moved_has_same_list : MovedHasSameList
moved_has_same_list m accepted = (again_accepted m accepted, moved_list m accepted)

-- ---- lists as bytes

pub written_then_read : WrittenThenRead
written_then_read = written_read

pub read_then_written : ReadThenWritten
read_then_written = read_bytes

pub read_is_list : ReadIsList
read_is_list = read_list

-- lists that complete the same line
module _ (n : ℕ) (received sent : ℕ → ℕ → ℕ) (x y : Resend) (is : IsList n x) (is' : IsList n y) (all : Completes n received sent x)
    (all' : Completes n received sent y) where
  same_at : (a b : ℕ) → a < 16 → b < 16 → (first_on x a b ≡ first_on y a b) × (last_on x a b ≡ last_on y a b)
  same_at a b h o = elim (dec_lt a n) [
    | yes l ↦ elim (dec_lt b n) [ yes l' ↦ both l l' | no none ↦ neither (λ k k'. none k') ]
    | no none ↦ neither (λ k k'. none k)
  ]
    where
      on : OnChannel n a b (first_on x a b) (last_on x a b)
      on = list_channel n x is a b h o

      on' : OnChannel n a b (first_on y a b) (last_on y a b)
      on' = list_channel n y is' a b h o

      both : a < n → b < n → (first_on x a b ≡ first_on y a b) × (last_on x a b ≡ last_on y a b)
      both l l' =
          same_messages n a b (first_on x a b) (last_on x a b) (first_on y a b) (last_on y a b) on on'
          (same_rest (messages 1 (received a b)) (sent_again x a b) (sent_again y a b) (all a b l l' ∙ sym (all' a b l l')))

      neither : (a < n → b < n → ⊥) → (first_on x a b ≡ first_on y a b) × (last_on x a b ≡ last_on y a b)
      neither absent =
          let none = channel_absent n a b (first_on x a b) (last_on x a b) on absent in
          let none' = channel_absent n a b (first_on y a b) (last_on y a b) on' absent in
          (none.0 ∙ sym none'.0, none.1 ∙ sym none'.1)

  one : x ≡ y
  one =
      same_channels x y (record { firsts = is.firsts; lasts = is.lasts }) (record { firsts = is'.firsts; lasts = is'.lasts }) same_at

pub one_list : OneList
one_list n received sent bytes bytes' t t' h h' all all' =
    let same : list_read n bytes ≡ list_read n bytes'
    = one n received sent (list_read n bytes) (list_read n bytes') (read_list n bytes h) (read_list n bytes' h') all all' in
    sym (read_bytes n bytes t h) ∙ ap list_bytes same ∙ read_bytes n bytes' t' h'

pub line_has_one_list : LineHasOneList
unfolding list_bytes
line_has_one_list m accepted =
    let n : ℕ = m.tables.shape.n in
    let list : Resend = (order_with m).resend in
    let size = passed_size m.tables (tables_pass m.tables m.purpose accepted.passed) in
    let (passed, back) = written_read n list size.0 size.1 (order_has_list m accepted) in
    let all : Completes n (order_received m) (order_sent m) (list_read n (list_bytes list))
    = subst (Completes n (order_received m) (order_sent m)) (sym back) (all_received m accepted) in
    (passed, back, λ bytes t h all'. one_list n (order_received m) (order_sent m) bytes (list_bytes list) t (written_are_bytes (list_numbers list)) h passed all' all)

pub longest : Longest
longest n list few is = bytes_few n list few is
