use Rattle.std.proofs.Common.{◌∙◌, List, ℕ, ap, subst}
use Rattle.snl_check.specs.Waits.{waits}
use Rattle.snl_outline.specs.Names.{names_of}
use Rattle.snl_machine.specs.Loading.{IsLoaded}
use Rattle.snl_syntax.specs.view.Programs.{program_view}
use Rattle.snl_observer.proofs.loader.lent_program.Goals as goal

-- the machine is loaded with the macros of the job
pub returns : goal.returns
returns c = record {
  loaded = subst (λ (t : List ℕ). IsLoaded (program_view c.args.checked.now.program) t (waits c.args.checked.now.options) c.args.job.now.budget c.in_ok-machine.machine)
      c.macros_of-macros.ensures c.in_ok-machine.ensures;
  names = c.in_ok-sets.ensures.names ∙ ap (λ p. names_of (program_view p)) c.program.ensures.tree;
}
