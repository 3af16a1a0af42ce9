-- Document 01, question 14: "Is the message formed as above (purposes 1 to 3, processes 1 to n), purpose 2 only in an
-- invitation?"
use Rattle.std.specs.Prelude.{Bool, true, false, ◌&&◌, ◌||◌, not, List, [], ◌∷◌, ℕ, zero, suc, ◌-◌, length, drop, get_or, set, ltb, leb, eqb}
use Rattle.varint.specs.Sequence.{Numbers}
use Rattle.book.specs.declared.Count.{Count}
use Rattle.book.specs.Bounds.{mark}
use Rattle.book.specs.Names.{is_purpose, is_named}
use Rattle.book.specs.Read.{numbers_from}
use Rattle.consistency.specs.Known.{counters}
use Rattle.lists.specs.Pick.{pick}
use Rattle.matrix.specs.Entries.{is_news}
use Rattle.message.specs.declared.Message.{Message}
use Rattle.message.specs.Layout.{pair_count, no_news}

-- "kind (1 invitation, 2 other)"
abbrev pub is_kind : ℕ → Bool
is_kind kind = eqb kind 1 || eqb kind 2

-- the head: its three numbers, and "purpose 2 only in an invitation"
unfoldable pub head_formed : ℕ → ℕ → ℕ → ℕ → Bool
head_formed n kind purpose sender =
    is_kind kind && (is_purpose purpose && (is_named n sender && (not (eqb purpose 2) || eqb kind 1)))

-- "No pair names the participant at whose end of the strand the message is read or written": the reader, or where the
-- initiator reads, the sender. Where it names itself as the sender there is no participant (0): question 15 refuses that.
abbrev pub participant_end : ℕ → ℕ → ℕ → ℕ
participant_end me initiator sender = pick (eqb me initiator) (pick (eqb sender initiator) 0 sender) me

-- one pair: "rising by process" (`last` is the process of the pair before, 0 for none), "processes 1 to n", not that
-- participant, and the mark is "never a counter in a book or message"
unfoldable pub pair_formed : ℕ → ℕ → ℕ → ℕ → ℕ → Bool
pair_formed n end last process counter = ltb last process && (leb process n && (not (eqb process end) && ltb counter mark))

-- so many pairs, and "nothing follows the pairs"
unfoldable pub pairs_formed : ℕ → ℕ → ℕ → ℕ → List ℕ → Bool
pairs_formed n end last zero [] = true
pairs_formed n end last zero (more ∷ numbers) = false
pairs_formed n end last (suc count) [] = false
pairs_formed n end last (suc count) (process ∷ []) = false
pairs_formed n end last (suc count) (process ∷ counter ∷ numbers) =
    pair_formed n end last process counter && pairs_formed n end process count numbers

-- each pair's counter at its process's place, for pairs that are formed
unfoldable pub news_in : List Count → List ℕ → List Count
news_in news [] = news
news_in news (process ∷ []) = news
news_in news (process ∷ counter ∷ numbers) = news_in (set news (process - 1) (record { 0 = counter })) numbers

-- "A searching invitation has one pair, naming the sender; one of purpose 2 has none." `own` is the sender's entry.
abbrev pub invitation_pairs : Bool → ℕ → ℕ → Bool
invitation_pairs true pairs own = eqb pairs 0
invitation_pairs false pairs own = eqb pairs 1 && is_news own

unfoldable pub invitation_formed : Message → Bool
invitation_formed m =
    not (eqb m.head.kind 1)
    || invitation_pairs (eqb m.head.purpose 2) (pair_count m.news) (counters m.news (m.head.sender.0 - 1))

-- the count of pairs, and the pairs
abbrev pub counted_formed : ℕ → ℕ → List ℕ → Bool
counted_formed n end [] = false
counted_formed n end (count ∷ pairs) = pairs_formed n end 0 count pairs

abbrev pub news_counted : List ℕ → List Count
news_counted [] = no_news
news_counted (count ∷ pairs) = news_in no_news pairs

-- the message that numbers make
abbrev pub message_of : List ℕ → Message
message_of numbers =
    record {
      head =
          record {
            kind = get_or numbers 0 0;
            purpose = get_or numbers 1 0;
            sender = record { 0 = get_or numbers 2 0 };
          };
      news = news_counted (drop 3 numbers);
    }

-- a number that is missing counts as 0, which is no kind, purpose or process
abbrev pub begin_formed : ℕ → List ℕ → Bool
begin_formed n numbers = head_formed n (get_or numbers 0 0) (get_or numbers 1 0) (get_or numbers 2 0)

unfoldable pub numbers_formed : ℕ → ℕ → ℕ → List ℕ → Bool
numbers_formed n me initiator numbers =
    begin_formed n numbers
    && (counted_formed n (participant_end me initiator (get_or numbers 2 0)) (drop 3 numbers)
    && invitation_formed (message_of numbers))

-- "each field a number as above": one that is not whole, not shortest or over the bound ends the numbers before the end
abbrev pub numbers_in : List ℕ → Numbers
numbers_in s = numbers_from s 0

-- is the message formed, read by process `me` in the initiator's search?
unfoldable pub message_formed : ℕ → ℕ → ℕ → List ℕ → Bool
message_formed n me initiator s = eqb (numbers_in s).stop (length s) && numbers_formed n me initiator (numbers_in s).found
