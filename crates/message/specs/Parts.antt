-- What the functions that read a message's parts promise the one that reads it whole.
use Rattle.std.specs.Prelude.{◌≡◌, true, false, ◌&&◌, List, ◌∷◌, ℕ, length, eqb, Option, Some, None}
use Rattle.book.specs.declared.Count.{Count}
use Rattle.book.specs.declared.Process.{Process}
use Rattle.book.specs.Read.{numbers_from}
use Rattle.lists.specs.Pick.{pick}
use Rattle.message.specs.declared.Head.{Head}
use Rattle.message.specs.Layout.{no_news}
use Rattle.message.specs.Formed.{head_formed, begin_formed, pairs_formed, news_in, counted_formed, news_counted}

-- the numbers are a formed head and those from the next place on; or there is no formed head
abbrev pub HeadFound : ℕ → List ℕ → Option (Head × ℕ) → Type 0
HeadFound n s (Some (head, next)) =
    (numbers_from s 0
    ≡ record {
      found = head.kind ∷ head.purpose ∷ head.sender.0 ∷ (numbers_from s next).found;
      stop = (numbers_from s next).stop;
    })
    × (head_formed n head.kind head.purpose head.sender.0 ≡ true)
HeadFound n s None = begin_formed n (numbers_from s 0).found ≡ false

-- the participant at whose end of the strand a message is read, by its number: 0 for none
abbrev pub end_number : Option Process → ℕ
end_number None = 0
end_number (Some end) = end.0

-- what so many pairs from a place on carry, where they are formed and end the bytes
abbrev pub counted_read : ℕ → ℕ → List ℕ → ℕ → ℕ → Option (List Count)
counted_read n end s at count =
    pick (eqb (numbers_from s at).stop (length s) && pairs_formed n end 0 count (numbers_from s at).found)
    (Some (news_in no_news (numbers_from s at).found)) None

-- what the count of pairs and the pairs carry
abbrev pub pairs_read : ℕ → ℕ → List ℕ → ℕ → Option (List Count)
pairs_read n end s at =
    pick (eqb (numbers_from s at).stop (length s) && counted_formed n end (numbers_from s at).found)
    (Some (news_counted (numbers_from s at).found)) None
