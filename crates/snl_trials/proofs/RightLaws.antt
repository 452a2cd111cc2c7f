-- A law of runs whose output went into a comparer.
use Rattle.std.proofs.Common.{◌≡◌, ℕ, Bool, List, [], Option, Some, subst, sym}
use Rattle.snl_names.specs.declared.options.Options.{Options}
use Rattle.snl_syntax.specs.Programs.{ProgramTree}
use Rattle.snl_trace.specs.declared.runner.End.{End}
use Rattle.snl_trials.specs.Right.{HasRun}
use Rattle.snc.specs.Runs.{RunsWith}

-- what a sink told that was told nothing before is the output of the run
pub has-run : (macros : List ℕ) (budget : ℕ) (gave : List ℕ) (ended : Bool) (before told output : List ℕ) (whole : ProgramTree) (options : Options) (end : End) (is : Option End) →
    before ≡ [] → output ≡ told → is ≡ Some end → RunsWith macros budget gave ended (Some before) (Some told) whole options end →
    HasRun macros budget gave ended output whole options is
has-run macros budget gave ended before told output whole options end is none same some ran =
    let fresh = subst (λ (b : List ℕ). RunsWith macros budget gave ended (Some b) (Some told) whole options end) none ran in
    let wrote = subst (λ (b : List ℕ). RunsWith macros budget gave ended (Some []) (Some b) whole options end) (sym same) fresh in
    subst (λ (e : Option End). HasRun macros budget gave ended output whole options e) (sym some) wrote
