use Rattle.std.proofs.Common.{subst, sym}
use Rattle.snc.specs.Outcomes.{code_of}
use Rattle.snc.specs.declared.jobs.Status.{Status}
use Rattle.snl_trials.specs.Right.{IsToldExactly}
use Rattle.snl_trials.proofs.RightLaws.{has-run}
use Rattle.snl_trials.proofs.trials.tried.Goals as goal

-- what the comparer was given is what the run wrote
pub returns-clause-ran : goal.returns-clause-ran
returns-clause-ran g c = λ macros budget lines whole options is.
    let known = (c.in_ok-ran.ensures.ran macros budget lines whole options is).ran in
    has-run macros budget _ _ _ _ _ whole options _ _ c.in_ok-comparer.ensures.told c.settled.ensures.output c.settled.ensures.end known

pub returns-clause-right : goal.returns-clause-right
returns-clause-right g c =
    let t = c.settled.result in
    subst
    (λ (s : Status).
    IsToldExactly t.is_right t.agreement t.comparer.told.bytes (g.W.Source.gave t.comparer.ahead.inner) (g.W.Source.ended t.comparer.ahead.inner) (code_of s) c.args.wanted)
    (sym c.settled.ensures.status) c.settled.ensures.right
