-- What the invariant says of one participant stands, when its machine, what waits, and what the initiator has of it are the same.
use mathlib.Core.Path.{◌≡◌, refl, sym, subst, ◌∙◌}
use mathlib.Core.Bool.{Bool, true, false}
use mathlib.Core.List.{List}
use Prim.Native.Nat.{ℕ, ◌-◌}
use Rattle.matrix.specs.Matrix.{row}
use Rattle.machine.specs.Flags.{flag}
use Rattle.initiator.specs.declared.Initiator.{Initiator}
use Rattle.exchange_laws.specs.Ends.{SameEntries}
use Rattle.session.specs.declared.Session.{Session}
use Rattle.session.specs.Workers.{participant_at}
use Rattle.session_theory.proofs.Search.{Search, IsSearch, is_part}
use Rattle.session_theory.proofs.Invariant.{Phase, quiet, reported, asked, InPhase, Closing}
use Rattle.session_theory.proofs.Facts.{part_me}

-- the initiator's machine, now t, has heard nothing of participant q
pub record SameFor (machine t : Initiator) (q : ℕ) : Type 0 where
  pub processes : t.n ≡ machine.n
  pub me : t.me.0 ≡ machine.me.0
  pub purpose : t.purpose ≡ machine.purpose
  pub ended : t.ended ≡ machine.ended
  pub copy : t.copy ≡ machine.copy
  pub awaited : flag t.awaited q ≡ flag machine.awaited q
  pub held : SameEntries (row t.matrix q) (row machine.matrix q)

pub same_machine : (machine t : Initiator) (q : ℕ) → t ≡ machine → SameFor machine t q
same_machine machine t q e =
    subst (λ (i : Initiator). SameFor machine i q) (sym e)
    (record { processes = refl; me = refl; purpose = refl; ended = refl; copy = refl; awaited = refl; held = λ i h. refl })

module _ (g : Search) (s s' : Session) (q : ℕ) (b b' : List ℕ) (same : participant_at s' q ≡ participant_at s q) (waits : b' ≡ b) where
  pub phase_kept : IsSearch g → is_part g q ≡ true → SameFor s.machine s'.machine q → (phase : Phase)
      → InPhase g s q b phase → InPhase g s' q b' phase
  phase_kept is there m quiet i =
      record {
        empty = waits ∙ i.empty;
        awaited = m.awaited ∙ i.awaited;
        searching = rw same i.searching;
        row_held = rw same (λ p h. m.held p h ∙ i.row_held p h);
        column_held = rw (m.copy, same) i.column_held;
      }
  phase_kept is there m reported i =
      let e : i.sender.me.0 - 1 ≡ q = part_me g is q there i.sender i.from in
      record {
        sender = i.sender;
        told = i.told;
        from = i.from;
        accepts = i.accepts;
        going = i.going;
        after = same ∙ i.after;
        carries = waits ∙ i.carries;
        waits =
            record {
              processes = m.processes ∙ i.waits.processes;
              initiated = m.me ∙ i.waits.initiated;
              same_purpose = m.purpose ∙ i.waits.same_purpose;
              waiting = m.ended ∙ i.waits.waiting;
              awaited = rw e (m.awaited ∙ (rw e at i.waits.awaited));
              held = rw e (λ p h. m.held p h ∙ (rw e at i.waits.held) p h);
            };
        column_held = rw (m.copy, same) i.column_held;
      }
  phase_kept is there m asked i =
      record {
        told = i.told;
        carries = waits ∙ i.carries;
        read = rw (same, waits) i.read;
        passes = rw (same, waits) i.passes;
        going = i.going;
        brings = rw (m.copy, same) i.brings;
        awaited = m.awaited ∙ i.awaited;
        row_held = rw same (λ p h. m.held p h ∙ i.row_held p h);
      }

  pub closing_kept : (still : Bool) → Closing g s q b still → Closing g s' q b' still
  closing_kept true i =
      record {
        told = i.told;
        carries = waits ∙ i.carries;
        read = rw (same, waits) i.read;
        passes = rw (same, waits) i.passes;
        ending = i.ending;
      }
  closing_kept false i = record { empty = waits ∙ i.empty; ended = rw same i.ended }
