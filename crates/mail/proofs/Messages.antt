-- The bytes of a head and of a message in three parts each, and those of the messages of a step in sixteen.
use Rattle.std.specs.Prelude.{Result, Ok, Err}
use mathlib.Core.Path.{◌≡◌, refl, ap}
use mathlib.Core.Bool.{true, false}
use mathlib.Core.List.{List, [], ◌∷◌, ◌++◌, append-nil}
use Prim.Native.Nat.{ℕ, ◌≤◌, ◌<◌}
use native.Mathlib.Numerals.{add-one}
use native.Mathlib.Omega.{arith}
use borrow.Author.Tests.{le-leb, lt-leb}
use lib.ListN.{length}
use lib.Seq.{sets}
use Rattle.varint.specs.Number.{encode}
use Rattle.varint.specs.Sequence.{encode_all}
use Rattle.varint.proofs.Sequence.{encode_all_append}
use Rattle.book.specs.declared.Question.{Question}
use Rattle.book.specs.declared.Question.TheVariants.{Room}
use Rattle.book.specs.InTurn.{answer_with}
use Rattle.book.specs.Numbers.{by_number}
use Rattle.consistency.specs.Known.{counters}
use Rattle.message.specs.declared.Head.{Head}
use Rattle.message.specs.declared.Message.{Message}
use Rattle.message.specs.Layout.{pairs_to, pair_count, head_numbers, message_bytes}
use Rattle.mail.specs.declared.Outgoing.{Outgoing}
use Rattle.mail.specs.Outgoing.{goes_to, message_to, bytes_to, mail_to, mail, lengths, room_question, sent_bytes}
use Rattle.mail.proofs.Turns.{Parts, Three}
use Rattle.mail.proofs.Pairs.{pair_bytes}

-- ---- a message

abbrev head_bytes : Head → List ℕ
head_bytes head = encode_all (head_numbers head)

pub head_parts : (head : Head) → Three (head_bytes head) (encode head.kind) (encode head.purpose) (encode head.sender.0)
unfolding encode_all
head_parts head =
    record {
      split = ap (λ (l : List ℕ). encode head.kind ++ (encode head.purpose ++ l)) (append-nil (encode head.sender.0));
    }

pub message_parts : (m : Message) {count : ℕ} → count ≡ pair_count m.news
    → Three (message_bytes m) (head_bytes m.head) (encode count) (pair_bytes (counters m.news) 16)
unfolding message_bytes encode_all
message_parts m e =
    record { split = rw e (encode_all_append (head_numbers m.head) (pair_count m.news ∷ pairs_to 16 (counters m.news))) }

-- ---- the messages of a step

pub mail_parts : (o : Outgoing) → Parts (λ k. mail_to k o) (bytes_to o)
unfolding mail_to
mail_parts o = record { none = refl; more = λ k. rw (add-one k) }

module _ (o : Outgoing) (p : ℕ) where
  pub bytes_of : {m : Message} → goes_to o p ≡ true → m ≡ message_to o p → message_bytes m ≡ bytes_to o p
  bytes_of e f = rw (e, f)

  pub bytes_none : goes_to o p ≡ false → bytes_to o p ≡ []
  bytes_none e = rw e

-- ---- the answer

module _ (o : Outgoing) (out : List ℕ) where
  abbrev pub Answered : Result (List ℕ) Question → List ℕ → Type 0
  Answered answer out' =
      (by_number answer ≡ answer_with (room_question o out) (lengths o)) × (out' ≡ sent_bytes (room_question o out) o out)

  pub no_room : {size : ℕ} → size ≡ length (mail o) → length out < size → Answered (Err Room) out
  unfolding answer_with
  no_room e h = rw (lt-leb (length (mail o)) (length out) (omega arith)) (refl, refl)

  pub sent : {size : ℕ} {noted out' : List ℕ} → size ≡ length (mail o) → size ≤ length out
      → (noted ≡ lengths o) × (out' ≡ sets out 0 (mail o)) → Answered (Ok noted) out'
  unfolding answer_with
  sent e h w = rw (le-leb (length (mail o)) (length out) (omega arith)) (ap (λ (l : List ℕ). Ok l) w.0, w.1)
