-- A run over a trace that was handed on by the line, as one over all that the trace gave.
use Rattle.std.proofs.Common.{◌≡◌, ◌∙◌, ◌++◌, ◌≢◌, ℕ, Bool, true, List, [], All, Option}
use Rattle.snl_meaning.specs.World.{World}
use Rattle.snl_trace.specs.Ends.{source_failed}
use Rattle.snl_trace.specs.Run.{Rules}
use Rattle.snl_trace.specs.RunOver.{Place, RunsByLine, RunsOn}
use Rattle.snl_trace.specs.declared.runner.End.{End}
use Rattle.snl_trace.proofs.ByLineLaws.{by-line, fresh-over}

-- what was handed on and what is held are all that came; where the source failed, what is held has no newline
pub by-line-on : (rules : Rules) (e : End) (old came held all : List ℕ) (said ended broke : Bool) (from : Place) (w : World) (told : Option (List ℕ)) → old ≡ [] →
    all ≡ came ++ held → (said ≡ true → held ≡ []) → (said ≡ true → ended ≡ true) → broke ≡ source_failed e → (broke ≡ true → All (λ byte. byte ≢ 10) held) →
    RunsOn rules e old came said from w told → RunsByLine rules e all ended from w told
by-line-on rules e old came held all said ended broke from w told fresh is none over broken partial ran =
    by-line rules e came held all said ended from w told is none over (λ failed. partial (broken ∙ failed)) (fresh-over rules e old came said from w told fresh ran)
