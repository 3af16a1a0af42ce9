-- What `!=` answers of a stage and of what a strand holds.
use mathlib.Core.Path.{◌≡◌, refl}
use denote.Enum.Bare.{sameb}
use Rattle.participant.specs.declared.Stage.{Stage}
use Rattle.participant.specs.declared.Stage.TheVariants.{Before, Searching, Ended}
use Rattle.participant.specs.contracts.Stage as stage
use Rattle.session.specs.declared.Waiting.{Waiting}
use Rattle.session.specs.declared.Waiting.TheVariants.{Nothing, Asking, Ending, Report, Stray}
use Rattle.session.specs.contracts.Waiting as waiting
use Rattle.session.specs.Held.{is_report, is_stray}
use Rattle.session.specs.Fits.{is_before}

pub before_is : (s : Stage) → sameb stage.the_type s Before ≡ is_before s
before_is Before = refl
before_is Searching = refl
before_is Ended = refl

pub report_is : (w : Waiting) → sameb waiting.the_type w Report ≡ is_report w
report_is Nothing = refl
report_is Asking = refl
report_is Ending = refl
report_is Report = refl
report_is Stray = refl

pub stray_is : (w : Waiting) → sameb waiting.the_type w Stray ≡ is_stray w
stray_is Nothing = refl
stray_is Asking = refl
stray_is Ending = refl
stray_is Report = refl
stray_is Stray = refl
