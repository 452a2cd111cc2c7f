use Rattle.std.proofs.Common.{◌∙◌, Bool, List, ap, subst, sym}
use Rattle.snl_syntax.specs.declared.programs.Program.{Program}
use Rattle.snl_syntax.specs.view.Programs.{program_view}
use Rattle.snl_names.specs.declared.sites.Site.{Site}
use Rattle.snl_names.specs.Programs.{sites}
use Rattle.snl_names.specs.UseTables.{IsUseTable}
use Rattle.snl_machine.specs.Loading.{IsLoaded}
use Rattle.snl_machine.proofs.AsLoaded.{both-loaded}
use Rattle.snl_machine.proofs.loading.loaded.Goals as goal
use Rattle.std.specs.Prelude.{IfOk}

-- the table is that of the sites of the checked program
pub of-requires : goal.of-requires
of-requires c = record { uses = subst (λ (all : List Site). IsUseTable c.uses.result.now all) (sym c.sites.ensures) c.uses.ensures }

-- the sites are those of the checked program, which is lent
pub machine_of-requires : goal.machine_of-requires
machine_of-requires c = record { sites = c.in_ok-sites.ensures ∙ c.sites.ensures ∙ ap (λ (q : Program). sites (program_view q)) (sym c.program.ensures.tree) }

-- the machine is that of the checked program, which is lent, and waits as that says
pub returns : goal.returns
returns c =
    let macros = c.args.macros.now.text.now in
    let r = c.machine_of.result in
    subst (λ (b : Bool). IfOk r (IsLoaded (program_view c.args.checked.now.program) macros b c.args.budget)) c.waits.ensures
    (subst (λ (q : Program). IfOk r (IsLoaded (program_view q) macros c.waits.result c.args.budget)) c.program.ensures.tree
    (both-loaded r (program_view c.program.result.now) macros c.waits.result c.args.budget c.machine_of.ensures.made c.machine_of.ensures.first))
