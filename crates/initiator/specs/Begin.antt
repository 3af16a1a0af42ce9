-- Document 01, "A search", and K 5.2, steps 1 to 4: the initiator begins.
use Rattle.std.specs.Prelude.{Bool, true, false, List, ℕ, ◌+◌, ◌-◌, eqb}
use Rattle.book.specs.declared.Count.{Count}
use Rattle.book.specs.declared.Process.{Process}
use Rattle.lists.specs.Pick.{pick}
use Rattle.matrix.specs.Matrix.{with_row, not_known_matrix}
use Rattle.matrix.specs.Whole.{invitations}
use Rattle.machine.specs.Own.{Own, sent_row}
use Rattle.machine.specs.Sends.{invitation_head, no_pairs}
use Rattle.machine.specs.Flags.{someone, participants, nobody}
use Rattle.initiator.specs.declared.Initiator.{Initiator}
use Rattle.initiator.specs.declared.InitiatorStep.{InitiatorStep}

-- further on in the same search: n, its process and the purpose stay
abbrev pub onward : Initiator → (ended : Bool) (candidate rounds : ℕ) (awaited : List Bool) (matrix copy : List Count) → Initiator
onward state ended candidate rounds awaited matrix copy =
    record {
      n = state.n;
      me = state.me;
      purpose = state.purpose;
      ended = ended;
      candidate = record { 0 = candidate };
      rounds = rounds;
      awaited = awaited;
      matrix = matrix;
      copy = copy;
    }

-- "The initiator copies its matrix before each wait." "A round is one wait of at least one report, counted as the wait
-- begins." The processes whose reports are awaited are those that get a message (K's Q: 5.2, steps 3, 4 and 8).
unfoldable pub wait : Initiator → List Bool → Initiator
wait state awaited = onward state false state.candidate.0 (state.rounds + 1) awaited state.matrix state.matrix

-- Before any wait: nobody is awaited, no round is counted, and the copy is the matrix. Where no wait begins, it has ended:
-- "the initiator with the call that sends the terminations (with n = 1, the start)"; with purpose 2, the start too.
unfoldable pub without_wait : ℕ → Process → ℕ → ℕ → List Count → Initiator
without_wait n me purpose candidate matrix =
    record {
      n = n;
      me = me;
      purpose = purpose;
      ended = true;
      candidate = record { 0 = candidate };
      rounds = 0;
      awaited = nobody;
      matrix = matrix;
      copy = matrix;
    }

-- "Each process begins at its newest checkpoint. The initiator keeps, for every ordered pair, the sender's candidate's sent
-- counter or 'not known', and invites every other process with its own sent counter for it." With n = 1 there is nobody to
-- wait for.
unfoldable pub begin_search : Own → Process → ℕ → InitiatorStep
begin_search own me purpose =
    let sent = sent_row own own.count in
    let others = participants own.n (me.0 - 1) in
    let start = without_wait own.n me purpose own.count (with_row (not_known_matrix own.n) (me.0 - 1) sent) in
    record {
      state = pick (someone others) (wait start others) start;
      outgoing =
          record { head = invitation_head purpose me; to = others; news = invitations (me.0 - 1) sent };
    }

-- "with 2 the invitation itself ends each participant on checkpoint 1, and its sending the initiator"
unfoldable pub begin_restart : ℕ → Process → ℕ → InitiatorStep
begin_restart n me purpose =
    record {
      state = without_wait n me purpose 1 (not_known_matrix n);
      outgoing = record { head = invitation_head purpose me; to = participants n (me.0 - 1); news = no_pairs };
    }

-- "Purposes 1 and 3 search."
unfoldable pub begin : Own → Process → ℕ → InitiatorStep
begin own me purpose = pick (eqb purpose 2) (begin_restart own.n me purpose) (begin_search own me purpose)
