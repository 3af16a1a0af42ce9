-- Questions 10 and 11 of a session: the tests in turn.
use mathlib.Core.Path.{◌≡◌}
use mathlib.Core.Bool.{Bool, true, false, ◌||◌}
use mathlib.Core.List.{List}
use Prim.Native.Nat.{ℕ, ◌<◌}
use native.Mathlib.Omega.{arith}
use lib.ListN.{length, get_or}
use Rattle.book.specs.Names.{is_named, is_purpose}
use Rattle.machine.specs.Named.{participant_named}
use Rattle.participant.specs.declared.Participant.{Participant}
use Rattle.participant.specs.Calls.{no_participant}
use Rattle.session.specs.declared.Session.{Session}
use Rattle.session.specs.Fits.{is_absent, session_named, session_purposes}
use Rattle.lists.proofs.Over.{at_place}
use Rattle.session.proofs.Places.{beyond}
use Rattle.session_check.specs.Parts.{at, all_named, all_purposes}
use Rattle.session_check.proofs.Chains.{first_of_three, second_of_three, third_of_three}

-- ---- the machine at a place, as the code reads it

pub read_at : (participants : List Participant) (k : ℕ) → length participants ≡ 16 → k < 16 → get_or participants k beyond ≡ at participants k
read_at participants k sixteen h = at_place beyond no_participant participants k (omega arith)

-- ---- questions 10 and 11

-- the tests at each place
abbrev pub named_at : ℕ → List Participant → ℕ → Bool
named_at n participants k =
    is_absent (at participants k) || participant_named n (at participants k).me.0 (at participants k).initiator.0

abbrev pub purpose_at : List Participant → ℕ → Bool
purpose_at participants k = is_absent (at participants k) || is_purpose (at participants k).purpose

module _ (n : ℕ) (session : Session) where
  abbrev named : Bool
  named = is_named n session.initiator.0

  abbrev machine_named : Bool
  machine_named = is_named n session.machine.me.0

  abbrev rest_named : Bool
  rest_named = all_named n session.participants

  pub initiator_unnamed : named ≡ false → false ≡ session_named n session
  unfolding session_named
  initiator_unnamed h = first_of_three named machine_named rest_named h

  pub machine_unnamed : named ≡ true → machine_named ≡ false → false ≡ session_named n session
  unfolding session_named
  machine_unnamed h k = second_of_three named machine_named rest_named h k

  pub named_rest : {r : Bool} → named ≡ true → machine_named ≡ true → r ≡ rest_named → r ≡ session_named n session
  unfolding session_named
  named_rest h k e = third_of_three named machine_named rest_named h k e

module _ (session : Session) where
  abbrev purposed : Bool
  purposed = is_purpose session.purpose

  abbrev machine_purposed : Bool
  machine_purposed = is_purpose session.machine.purpose

  abbrev rest_purposed : Bool
  rest_purposed = all_purposes session.participants

  pub session_no_purpose : purposed ≡ false → false ≡ session_purposes session
  unfolding session_purposes
  session_no_purpose h = first_of_three purposed machine_purposed rest_purposed h

  pub machine_no_purpose : purposed ≡ true → machine_purposed ≡ false → false ≡ session_purposes session
  unfolding session_purposes
  machine_no_purpose h k = second_of_three purposed machine_purposed rest_purposed h k

  pub purposes_rest : {r : Bool} → purposed ≡ true → machine_purposed ≡ true → r ≡ rest_purposed → r ≡ session_purposes session
  unfolding session_purposes
  purposes_rest h k e = third_of_three purposed machine_purposed rest_purposed h k e
