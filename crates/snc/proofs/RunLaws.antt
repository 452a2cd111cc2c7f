-- A run of a program, by other names of what was told.
use Rattle.std.proofs.Common.{◌≡◌, ℕ, Bool, List, Option, subst}
use Rattle.snl_channels.specs.Links.{Link}
use Rattle.snl_meaning.specs.World.{World}
use Rattle.snl_syntax.specs.Programs.{ProgramTree}
use Rattle.snl_trace.specs.declared.runner.End.{End}
use Rattle.snc.specs.Runs.{EndsAt, RunsLike}

-- a run, by other names of what was told
pub runs-like : (whole : ProgramTree) (ls : List Link) (waiting : Bool) (budget : ℕ) (first world : World) (gave : List ℕ) (ended : Bool)
    (old told old' told' : Option (List ℕ)) (end : End) → old ≡ told → old' ≡ told' →
    EndsAt whole ls waiting budget first gave ended old old' end world → RunsLike whole ls waiting budget first gave ended told told' end
runs-like whole ls waiting budget first world gave ended old told old' told' end is is' ran = record {
  world = world;
  ran = subst (λ (t : Option (List ℕ)). EndsAt whole ls waiting budget first gave ended told t end world) is'
      (subst (λ (t : Option (List ℕ)). EndsAt whole ls waiting budget first gave ended t old' end world) is ran);
}
