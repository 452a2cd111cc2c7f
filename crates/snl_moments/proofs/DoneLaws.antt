-- Laws of a line that was done, and of what is told behind it.
use Rattle.std.proofs.Common.{false, List, ℕ, Option, None, Some}
use Rattle.snl_moments.proofs.PlanLaws.{stays-asked, stays-plan}
use Rattle.snl_moments.proofs.LineLaws.{does-bad, does-end, does-on}
use Rattle.snl_moments.specs.Comes.{IsLine}
use Rattle.snl_moments.specs.Plans.{KeepsPlan}
use Rattle.snl_moments.specs.Stepping.{IsDone}
use Rattle.snl_moments.specs.Walks.{DoesBy, EndsAt, Keeps, TellsBad}
use Rattle.snl_moments.specs.declared.subject.Subject.{Subject}
use Rattle.snl_moments.specs.declared.line_step.Done.{Done}
use Rattle.snl_moments.specs.declared.line_step.Done.TheVariants.{Bad, Well}
use Rattle.snl_moments.specs.declared.walks.Close.{Close}
use Rattle.snl_trace.specs.declared.runner.End.{End}
use Rattle.snl_trace.specs.declared.trace_faults.TraceFault.{TraceFault}

-- a line that is bad
pub bad-does : (line : List ℕ) (number : ℕ) (fault : TraceFault) (close : Close) (s t u : Subject) → IsLine line → IsDone line (Bad number fault) s t → TellsBad t u →
    DoesBy line s u (Some close)
bad-does line number fault close s t u plain did tells =
    does-bad line close s t u plain (record { told = record { machine = did.0; spares = did.1.spares; moments = did.1.moments }; asked = did.1.asked }) did.2 tells

-- one behind which the walk goes on
pub well-does : (line : List ℕ) (o : Option End) (s t u : Subject) → IsLine line → IsDone line (Well o) s t → Keeps t u → DoesBy line s u None
well-does line o s t u plain did keeps = does-on line s t u plain did.0 did.1.spares did.1.moments did.1.asked keeps

-- one at which it ends
pub well-ends : (line : List ℕ) (o : Option End) (close : Close) (s t u : Subject) → IsLine line → IsDone line (Well o) s t → EndsAt false t u → DoesBy line s u (Some close)
well-ends line o close s t u plain did ends = does-end line close s t u plain did.0 did.1.spares did.1.moments did.1.asked ends

-- none tells anything by itself
pub done-plan : (line : List ℕ) (d : Done) (s t : Subject) → IsDone line d s t → KeepsPlan s t
done-plan line (Well o) s t did = stays-plan s t (stays-asked s t did.1.asked did.1.moments)
done-plan line (Bad number fault) s t did = stays-plan s t (stays-asked s t did.1.asked did.1.moments)
