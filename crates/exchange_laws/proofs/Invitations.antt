-- Invitations: to a search, the difference from a column of which nothing is known, and to a restart.
use mathlib.Core.Path.{◌≡◌, refl, sym, ap, subst, ◌∙◌}
use mathlib.Core.Bool.{Bool, true, false, not}
use mathlib.Core.List.{List}
use Prim.Native.Nat.{ℕ, ◌-◌, ◌<◌}
use native.Mathlib.Omega.{arith}
use borrow.Author.Tests.{eq-eqb, ne_eqb}
use lib.Dec.{eqb}
use Rattle.book.specs.declared.Count.{Count}
use Rattle.book.specs.declared.Process.{Process}
use Rattle.book.specs.Bounds.{mark}
use Rattle.lists.proofs.Tests.{both_and}
use Rattle.consistency.specs.Known.{counters}
use Rattle.lists.specs.Pick.{pick}
use Rattle.matrix.specs.Matrix.{row, column, not_known_row}
use Rattle.matrix.specs.Entries.{is_news, diff, patch, all_lower}
use Rattle.matrix.specs.Statements.{Fallen}
use Rattle.message.specs.declared.Message.{Message}
use Rattle.message.specs.Layout.{pair_count}
use Rattle.message.specs.Formed.{invitation_pairs, invitation_formed}
use Rattle.machine.specs.Own.{Own}
use Rattle.machine.specs.Sends.{invitation_head, no_pairs}
use Rattle.machine_laws.specs.Own.{IsOwn}
use Rattle.machine_laws.proofs.Rows.{not_known_rest}
use Rattle.participant.specs.declared.Participant.{Participant}
use Rattle.participant.specs.declared.Stage.TheVariants.{Before}
use Rattle.participant.specs.Step.{step}
use Rattle.participant_laws.specs.Accepts.{ends_it}
use Rattle.initiator.specs.Begin.{begin_search, begin_restart}
use Rattle.initiator_laws.proofs.Begun.{search_matrix}
use Rattle.initiator_laws.proofs.Sends.{no_pairs_lem, sent_low, begun_fallen, invitation_at}
use Rattle.initiator_laws.proofs.Theorems.{invitation_is_diff}
use Rattle.exchange_laws.specs.Ends.{is_search, SameEntries, message_down, PassesDown, TakesPart}
use Rattle.exchange_laws.specs.Statements.{InvitationPasses, RestartPasses, InvitationTaken}
use Rattle.exchange_laws.proofs.Counts.{one_pair}
use Rattle.exchange_laws.proofs.Differences.{diff_formed, received_lower, received_patch}
use Rattle.exchange_laws.proofs.Heads.{search_in, invitation_head_lem}
use Rattle.exchange_laws.proofs.Passing.{passes_down}
use Rattle.exchange_laws.proofs.Receivers.{column_taken, nothing_told, me_some, me_there, me_within, me_other, sender_named, is_participant_lem, sent_to_all, right, empty_passes}

-- ---- to a restart

pub restart_passes : RestartPasses
unfolding begin_restart invitation_formed
restart_passes n me receiver few part =
    let p : ℕ = receiver.me.0 - 1 in
    let none : pair_count (row no_pairs p) ≡ 0 = no_pairs_lem (row no_pairs p) (nothing_told p (me_within n me 2 Before receiver few part)) in
    empty_passes n me 2 Before receiver few part (invitation_head 2 me) refl refl refl
    (invitation_head_lem n 2 me.0 refl (sender_named n me 2 Before receiver few part))
    (eq-eqb (pair_count (row no_pairs p)) 0 none)

-- ---- to a search

module _ (own : Own) (me : Process) (purpose : ℕ) (receiver : Participant) (is : IsOwn own (me.0 - 1)) (searches : is_search purpose ≡ true)
    (part : TakesPart own.n me purpose Before receiver) where
  abbrev p : ℕ
  p = receiver.me.0 - 1

  abbrev from : ℕ
  from = me.0 - 1

  abbrev m : Message
  m = message_down (begin_search own me purpose).outgoing receiver

  abbrev matrix : List Count
  matrix = (begin_search own me purpose).state.matrix

  there : p < own.n
  there = me_there own.n me purpose Before receiver is.most part

  within : p < 16
  within = me_within own.n me purpose Before receiver is.most part

  other : p ≡ from → ⊥
  other = me_other own.n me purpose Before receiver is.most part

  told : m.news ≡ diff (column matrix p) (not_known_row own.n p)
  told = invitation_is_diff own me purpose p is (is_participant_lem own.n me purpose Before receiver is.most part)

  fallen : Fallen (column matrix p) (not_known_row own.n p)
  fallen =
      subst (λ (l : List Count). Fallen (column l p) (not_known_row own.n p)) (sym (search_matrix own me purpose))
      (begun_fallen own from p is there other)

  -- one pair, naming the sender
  own_pair : counters m.news from ≡ mark → ⊥
  own_pair e =
      let sent : counters m.news from ≡ own.S own.count p =
      invitation_at own me purpose p within from (omega (arith, is.present, is.most))
      ∙ ap (λ (t : Bool). pick t (own.S own.count p) mark) (eq-eqb from from refl) in
      absurd (omega (arith, sent, e, sent_low own from p is there other))

  one : pair_count m.news ≡ 1
  one =
      one_pair m.news from (omega (arith, is.present, is.most)) own_pair
      (λ k i ne. invitation_at own me purpose p within k i ∙ ap (λ (t : Bool). pick t (own.S own.count p) mark) (ne_eqb k from ne))

  one_formed : invitation_formed m ≡ true
  unfolding begin_search invitation_formed
  one_formed =
      subst (λ (t : Bool). invitation_pairs t (pair_count m.news) (counters m.news from) ≡ true) (sym (search_in purpose searches).1)
      (both_and (eqb (pair_count m.news) 1) (is_news (counters m.news from)) (eq-eqb (pair_count m.news) 1 one)
      (ap not (ne_eqb (counters m.news from) mark own_pair)))

  passes : SameEntries receiver.column (not_known_row own.n p) → PassesDown own.n (begin_search own me purpose).outgoing receiver
  unfolding begin_search
  passes same =
      passes_down own.n (begin_search own me purpose).outgoing receiver is.most part.named
      (sent_to_all own.n me purpose Before receiver is.most part)
      (diff_formed (column matrix p) (not_known_row own.n p) fallen own.n receiver.me.0 m
      (me_some own.n me purpose Before receiver is.most part) told (not_known_rest own.n p)
      (invitation_head_lem own.n purpose me.0 (search_in purpose searches).0 (sender_named own.n me purpose Before receiver is.most part))
      one_formed)
      (right own.n me purpose Before receiver is.most part m refl refl refl)
      (subst (λ (l : List Count). all_lower l receiver.column ≡ true) (sym told)
      (received_lower (column matrix p) (not_known_row own.n p) fallen receiver.column same))

  going : ends_it m ≡ false
  unfolding begin_search
  going = rw (search_in purpose searches).1

  taken : SameEntries receiver.column (not_known_row own.n p) → (its : Own)
      → SameEntries (step its receiver m).state.column (column matrix p)
  taken same its k i =
      ap (λ (l : List Count). counters l k) (column_taken its receiver m going ∙ ap (patch receiver.column) told)
      ∙ received_patch (column matrix p) (not_known_row own.n p) fallen receiver.column same k i

pub invitation_passes : InvitationPasses
invitation_passes own me purpose receiver invited =
    passes own me purpose receiver invited.own_is invited.searching invited.part invited.unknown

pub invitation_taken : InvitationTaken
invitation_taken own me purpose receiver invited =
    taken own me purpose receiver invited.own_is invited.searching invited.part invited.unknown
