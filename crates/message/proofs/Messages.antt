-- When a whole message is formed, from its parts.
use Rattle.std.specs.Prelude.{Option, Some, None}
use mathlib.Core.Path.{◌≡◌, refl, sym, ap, ◌∙◌}
use mathlib.Core.Bool.{Bool, true, false, ◌&&◌, true≢false}
use mathlib.Core.List.{List}
use Prim.Native.Nat.{ℕ, ◌-◌, ◌≤◌}
use lib.ListN.{length}
use lib.Dec.{eqb}
use borrow.Author.Tests.{eq-eqb, ne_eqb}
use Rattle.varint.specs.Sequence.{Numbers}
use Rattle.lists.specs.Pick.{pick}
use Rattle.lists.proofs.Tests.{and_both, and_first, and_second}
use Rattle.book.specs.Read.{numbers_from}
use Rattle.consistency.specs.Known.{counters}
use Rattle.matrix.specs.Entries.{is_news}
use Rattle.message.specs.declared.Head.{Head}
use Rattle.book.specs.declared.Count.{Count}
use Rattle.message.specs.declared.Message.{Message}
use Rattle.message.specs.Layout.{pair_count}
use Rattle.book.specs.Names.{is_purpose, is_named}
use Rattle.message.specs.Formed.{is_kind, head_formed, participant_end, begin_formed, counted_formed, news_counted, invitation_formed, numbers_formed, numbers_in, message_of, message_formed}
use Rattle.message.specs.Parts.{HeadFound, pairs_read}
use Rattle.message.specs.Read.{message_read}
use Rattle.message.proofs.Found.{found_none, found_some, finds, finds_none}
use Rattle.book.proofs.Names.{named_in}

-- ---- an invitation's pairs

module _ (m : Message) where
  pub no_invitation : (m.head.kind ≡ 1 → ⊥) → invitation_formed m ≡ true
  unfolding invitation_formed
  no_invitation h = rw (ne_eqb m.head.kind 1 h)

  pub last_invitation : m.head.kind ≡ 1 → m.head.purpose ≡ 2 → invitation_formed m ≡ eqb (pair_count m.news) 0
  unfolding invitation_formed
  last_invitation h k = rw (eq-eqb m.head.kind 1 h, eq-eqb m.head.purpose 2 k)

  pub searching_invitation : m.head.kind ≡ 1 → (m.head.purpose ≡ 2 → ⊥)
      → invitation_formed m ≡ (eqb (pair_count m.news) 1 && is_news (counters m.news (m.head.sender.0 - 1)))
  unfolding invitation_formed
  searching_invitation h k = rw (eq-eqb m.head.kind 1 h, ne_eqb m.head.purpose 2 k)

-- the sender of a formed head
pub head_sender : (n kind purpose sender : ℕ) → head_formed n kind purpose sender ≡ true → (1 ≤ sender) × (sender ≤ n)
unfolding head_formed
head_sender n kind purpose sender e =
    let a = and_both (is_kind kind) _ e in
    let b = and_both (is_purpose purpose) _ a.1 in
    named_in n sender (and_both (is_named n sender) _ b.1).0

-- ---- the message

module _ (n me initiator : ℕ) (s : List ℕ) where
  abbrev Reads : Option Message → Type 0
  Reads read = read ≡ pick (message_formed n me initiator s) (Some (message_read n me initiator s)) None

  pub formless : begin_formed n (numbers_from s 0).found ≡ false → message_formed n me initiator s ≡ false
  unfolding message_formed numbers_formed
  formless e = and_second (eqb (numbers_in s).stop (length s)) _ (and_first (begin_formed n (numbers_from s 0).found) _ e)

  pub no_head : begin_formed n (numbers_from s 0).found ≡ false → Reads None
  no_head e = finds_none _ (formless e)

  module _ (head : Head) (at : ℕ) (found : HeadFound n s (Some (head, at))) (end : ℕ)
      (ends : end ≡ participant_end me initiator head.sender.0) {read : Option (List Count)} (pairs : read ≡ pairs_read n end s at) where
    abbrev message : Message
    message = record { head = head; news = news_counted (numbers_from s at).found }

    regroup : (a b d e : Bool) → b ≡ true → (a && (b && (d && e))) ≡ ((a && d) && e)
    regroup true true d e t = refl
    regroup false b d e t = refl
    regroup true false d e t = absurd (true≢false (sym t))

    -- are the pairs formed, and do they end the bytes?
    abbrev paired : Bool
    paired = eqb (numbers_from s at).stop (length s) && counted_formed n end (numbers_from s at).found

    whole : message_formed n me initiator s ≡ (paired && invitation_formed message)
    unfolding message_formed numbers_formed
    whole =
        ap (λ (ns : Numbers). eqb ns.stop (length s) && numbers_formed n me initiator ns.found) found.0
        ∙ regroup (eqb (numbers_from s at).stop (length s)) (head_formed n head.kind head.purpose head.sender.0)
        (counted_formed n (participant_end me initiator head.sender.0) (numbers_from s at).found) (invitation_formed message) found.1
        ∙ ap (λ (p : ℕ). (eqb (numbers_from s at).stop (length s) && counted_formed n p (numbers_from s at).found) && invitation_formed message)
        (sym ends)

    pub no_pairs : read ≡ None → Reads None
    no_pairs e = finds_none _ (whole ∙ and_first paired _ (found_none paired _ pairs e))

    module _ {news : List Count} (some : read ≡ Some news) where
      same_message : ◌≡◌ {A = Message} (record { head = head; news = news }) message
      same_message = ap {B = Message} (λ (l : List Count). record { head = head; news = l }) (found_some paired _ pairs some).1

      decided : message_formed n me initiator s ≡ invitation_formed (record { head = head; news = news })
      decided =
          whole ∙ ap (λ (b : Bool). b && invitation_formed message) (found_some paired _ pairs some).0
          ∙ ap invitation_formed (sym same_message)

      pub no_invited : invitation_formed (record { head = head; news = news }) ≡ false → Reads None
      no_invited e = finds_none _ (decided ∙ e)

      pub read_whole : invitation_formed (record { head = head; news = news }) ≡ true
          → Reads (Some (record { head = head; news = news }))
      unfolding message_read
      read_whole e = finds (decided ∙ e) carried
        where
          carried : record { head = head; news = news } ≡ message_read n me initiator s
          carried = rw (decided ∙ e) (same_message ∙ sym (ap (λ (ns : Numbers). message_of ns.found) found.0))
