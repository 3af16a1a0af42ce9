-- The statements of `specs/Statements.antt` hold.
-- Assumes nothing.
use Rattle.line_theory.specs.Statements.{
  PairIsFirst,
  NoPairIsConsistent,
  PartnerIsLowest,
  NoneOffendsIsPermitted,
  PartnerIsOther,
  PartnerIsKnown,
  PairNamesPartner,
  LineIsLine,
  OnlyLine,
  CutIsBook,
  CutLineEarlier,
  CutAboveKeepsLine,
  NewerIsDistance,
  NewestIsNewest,
  NewestFromCandidate,
  NotKnownPermits,
  StepStaysAbove,
  RefusedIsAbove,
  PermittedIsConsistent,
  ConsistentAboveIsLine,
  AcceptedIsBook,
}
use Rattle.line_theory.proofs.Tests
use Rattle.line_theory.proofs.Faults
use Rattle.line_theory.proofs.Steps
use Rattle.line_theory.proofs.Line
use Rattle.line_theory.proofs.Accepted.{accepted_book}

pub pair_is_first : PairIsFirst
pair_is_first = Faults.pair_is_first

pub no_pair_is_consistent : NoPairIsConsistent
no_pair_is_consistent = Faults.no_pair_is_consistent

pub partner_is_lowest : PartnerIsLowest
partner_is_lowest = Faults.partner_is_lowest

pub none_offends_is_permitted : NoneOffendsIsPermitted
none_offends_is_permitted = Faults.none_offends_is_permitted

pub pair_names_partner : PairNamesPartner
pair_names_partner = Faults.pair_names_partner

pub partner_is_other : PartnerIsOther
partner_is_other = Faults.partner_is_other

pub partner_is_known : PartnerIsKnown
partner_is_known = Faults.partner_is_known

pub line_is_line : LineIsLine
line_is_line = Line.line_is_line

pub only_line : OnlyLine
only_line = Line.only_line

pub cut_is_book : CutIsBook
cut_is_book = Line.cut_is_book

pub cut_line_earlier : CutLineEarlier
cut_line_earlier = Line.cut_line_earlier

pub cut_above_keeps_line : CutAboveKeepsLine
cut_above_keeps_line = Line.cut_above_keeps_line

pub newer_is_distance : NewerIsDistance
newer_is_distance = Line.newer_is_distance

pub newest_is_newest : NewestIsNewest
newest_is_newest = Steps.newest_is_newest

pub newest_from_candidate : NewestFromCandidate
newest_from_candidate = Steps.newest_from_candidate

pub not_known_permits : NotKnownPermits
not_known_permits = Steps.not_known_permits

pub step_stays_above : StepStaysAbove
step_stays_above = Line.step_stays_above

pub refused_is_above : RefusedIsAbove
refused_is_above = Line.refused_is_above

pub permitted_is_consistent : PermittedIsConsistent
permitted_is_consistent = Tests.permitted_is_consistent

pub consistent_above_is_line : ConsistentAboveIsLine
consistent_above_is_line = Line.consistent_above_is_line

pub accepted_is_book : AcceptedIsBook
accepted_is_book t = accepted_book
