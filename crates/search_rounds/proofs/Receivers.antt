-- A participant gets what the initiator sends, at its place.
use mathlib.Core.Path.{◌≡◌, refl, sym, ap, subst, ◌∙◌}
use mathlib.Core.Bool.{Bool, true, false, not, ◌&&◌, true≢false}
use Prim.Native.Nat.{ℕ, ◌-◌, ◌<◌}
use borrow.Author.Tests.{not-true}
use Rattle.book.specs.declared.Process.{Process}
use Rattle.lists.proofs.Tests.{and_both}
use Rattle.lists.proofs.Over.{get_d_tab}
use Rattle.matrix.specs.Matrix.{column}
use Rattle.matrix.specs.Entries.{same}
use Rattle.matrix.proofs.Theorems.{same_is_same}
use Rattle.message.specs.Layout.{message_bytes}
use Rattle.mail.specs.declared.Outgoing.{Outgoing}
use Rattle.mail.specs.Outgoing.{goes_to, message_to}
use Rattle.machine.specs.Named.{is_participant}
use Rattle.machine.specs.Flags.{flag}
use Rattle.machine_laws.proofs.Pairs.{pair_sym}
use Rattle.machine_laws.proofs.Rows.{column_at, rest_out}
use Rattle.participant.specs.declared.Participant.{Participant}
use Rattle.participant.specs.declared.Stage.TheVariants.{Searching}
use Rattle.participant.specs.Calls as participant_calls
use Rattle.initiator.specs.declared.Initiator.{Initiator}
use Rattle.initiator.specs.Step.{polled}
use Rattle.initiator_laws.specs.Accepts.{ColumnFell}
use Rattle.initiator_laws.proofs.Entries.{Zeros}
use Rattle.exchange_laws.specs.Ends.{is_search, SameEntries, PassesDown, SearchesWith, HoldsCopy}
use Rattle.session_theory.proofs.Search.{Search, IsSearch, size, is_part}
use Rattle.session_theory.proofs.Invariant.{Part}
use Rattle.session_theory.proofs.Facts.{few, part_within, part_me, part_named}

-- the participant at place q gets a message, reads it as it was written, and it passes
pub record Gets (n : ℕ) (out : Outgoing) (p : Participant) (q : ℕ) : Type 0 where
  pub sent : goes_to out q ≡ true
  pub read : participant_calls.read_by n p (message_bytes (message_to out q)) ≡ message_to out q
  pub passes : participant_calls.message_question n p (message_bytes (message_to out q)) ≡ 0

-- the initiator names what the search names
pub record Leads (g : Search) (i : Initiator) : Type 0 where
  pub processes : i.n ≡ size g
  pub me : i.me ≡ g.initiator
  pub purpose : i.purpose ≡ g.purpose

module _ (g : Search) (is : IsSearch g) (searching : is_search g.purpose ≡ true) (i : Initiator) (leads : Leads g i) (q : ℕ)
    (there : is_part g q ≡ true) (p : Participant) (part : Part g q p) where
  me_is : p.me.0 - 1 ≡ q
  me_is = part_me g is q there p part

  pub gets : (out : Outgoing) → PassesDown i.n out p → Gets (size g) out p q
  gets out passing =
      let d : PassesDown (size g) out p = subst (λ (n : ℕ). PassesDown n out p) leads.processes passing in
      record {
        sent = subst (λ (j : ℕ). goes_to out j ≡ true) me_is d.sent;
        read =
            subst (λ (j : ℕ). participant_calls.read_by (size g) p (message_bytes (message_to out j)) ≡ message_to out j) me_is d.read;
        passes =
            subst (λ (j : ℕ). participant_calls.message_question (size g) p (message_bytes (message_to out j)) ≡ 0) me_is d.passes;
      }

  pub searches_with : p.stage ≡ Searching → SearchesWith i p
  searches_with stage =
      record {
        most = rw leads.processes (few g is);
        searching = rw leads.purpose searching;
        part =
            record {
              named = rw leads.processes (part_named g is q there p part);
              initiated = ap (λ (x : Process). x.0) (part.leader ∙ sym leads.me);
              same_purpose = part.purpose ∙ sym leads.purpose;
              in_stage = stage;
            };
      }

  pub holds_copy : SameEntries p.column (column i.copy q) → ColumnFell i q → Zeros (size g) i.copy → HoldsCopy i p
  holds_copy held fell zeros =
      record {
        held = rw me_is held;
        fell = rw me_is fell;
        zeros =
            rw (me_is, leads.processes)
            (rest_out (size g) q (column i.copy q) (λ j h none.
            column_at i.copy j q h
            ∙ zeros j q h (part_within g is q there) (pair_sym (size g) j q ∙ none)));
      }

-- ---- who is polled

module _ (g : Search) (i : Initiator) (leads : Leads g i) (q : ℕ) (within : q < 16) where
  abbrev differs : Bool
  differs = not (same (column i.matrix q) (column i.copy q))

  polled_at : flag (polled i) q ≡ (is_part g q && differs)
  unfolding polled
  polled_at =
      get_d_tab 16 (λ p. is_participant i.n (i.me.0 - 1) p && not (same (column i.matrix p) (column i.copy p))) q false within
      ∙ (ap (λ (n : ℕ). is_participant n (i.me.0 - 1) q && differs) leads.processes
      ∙ ap (λ (p : Process). is_participant (size g) (p.0 - 1) q && differs) leads.me)

  pub polled_part : flag (polled i) q ≡ true → is_part g q ≡ true
  polled_part e = (and_both (is_part g q) differs (sym polled_at ∙ e)).0

  pub polled_differs : flag (polled i) q ≡ true → same (column i.matrix q) (column i.copy q) ≡ false
  polled_differs e = not-true (same (column i.matrix q) (column i.copy q)) (and_both (is_part g q) differs (sym polled_at ∙ e)).1

  pub not_polled_same : is_part g q ≡ true → flag (polled i) q ≡ false → SameEntries (column i.copy q) (column i.matrix q)
  not_polled_same part e j h =
      sym
      ((same_is_same (column i.matrix q) (column i.copy q)).0
      (go (same (column i.matrix q) (column i.copy q)) refl) j h)
    where
      go : (t : Bool) → same (column i.matrix q) (column i.copy q) ≡ t → same (column i.matrix q) (column i.copy q) ≡ true
      go true f = f
      go false f =
          absurd (true≢false
          (sym (polled_at ∙ (ap (λ (t : Bool). t && differs) part ∙ ap not f)) ∙ e))
