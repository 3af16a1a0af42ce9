-- The statements of `specs/Statements.antt` hold.
-- Assumes nothing.
use mathlib.Core.Path.{◌≡◌, refl, sym, ap, subst, ◌∙◌}
use mathlib.Core.Bool.{true}
use mathlib.Core.List.{List}
use Prim.Native.Nat.{ℕ, ◌+◌, ◌*◌, ◌≤◌, ◌<◌}
use native.Mathlib.Omega.{arith}
use lib.ListN.{length}
use Rattle.varint.specs.Sequence.{Numbers, encode_all}
use Rattle.message.specs.declared.Message.{Message}
use Rattle.message.specs.Layout.{pair_count, message_numbers, message_bytes, head_size, pair_size}
use Rattle.message.specs.Formed.{participant_end, message_of, numbers_formed, numbers_in, message_formed}
use Rattle.message_laws.specs.Formed.{IsFormed}
use Rattle.message_laws.specs.Statements.{WrittenIsRead, ReadIsWritten, ReadIsFormed, Longest}
use Rattle.message_laws.proofs.Whole.{
  message_back,
  numbers_formed_lem,
  bytes_found,
  bytes_few,
  count_few,
  numbers_back,
  is_formed,
  formed_whole,
  whole_formed,
  read_is,
  found_bytes,
}

pub written_is_read : WrittenIsRead
written_is_read n me initiator m few formed =
    let s : List ℕ = message_bytes m in
    let end : ℕ = participant_end me initiator m.head.sender.0 in
    let found : numbers_in s ≡ record { found = message_numbers m; stop = length s } = bytes_found n end m few formed in
    let same : (numbers_in s).found ≡ message_numbers m = ap (λ (r : Numbers). r.found) found in
    let yes' : message_formed n me initiator s ≡ true
    = whole_formed n me initiator s (ap (λ (r : Numbers). r.stop) found)
    (ap (numbers_formed n me initiator) same ∙ numbers_formed_lem n end m few formed me initiator refl) in
    (yes', read_is n me initiator s yes' ∙ (ap message_of same ∙ message_back n end m few formed))

pub read_is_written : ReadIsWritten
unfolding message_bytes
read_is_written n me initiator s few t formed =
    let whole = formed_whole n me initiator s formed in
    ap message_bytes (read_is n me initiator s formed)
    ∙ (ap encode_all (numbers_back n me initiator (numbers_in s).found few whole.1) ∙ found_bytes s t whole.0)

pub read_is_formed : ReadIsFormed
read_is_formed n me initiator s few formed =
    subst (λ (m : Message). IsFormed n (participant_end me initiator m.head.sender.0) m) (sym (read_is n me initiator s formed))
    (is_formed n me initiator (numbers_in s).found few (formed_whole n me initiator s formed).1)

pub longest : Longest
longest n end m few from to formed =
    let pairs : pair_count m.news < n = count_few n end m few formed from to in
    let bytes : length (message_bytes m) ≤ head_size + pair_count m.news * pair_size = bytes_few n end m few formed in
    omega arith
