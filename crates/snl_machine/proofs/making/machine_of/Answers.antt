use Rattle.std.proofs.Common.{◌≡◌, ◌∙◌, List, ap, map, subst}
use Rattle.std.specs.Prelude.{IfOk}
use Rattle.snl_syntax.specs.view.Programs.{program_view}
use Rattle.snl_channels.specs.LinkViews.{link_view}
use Rattle.snl_channels.specs.Links.{Link, ties}
use Rattle.snl_load.specs.First.{first_world_of}
use Rattle.snl_machine.specs.MachineOf.{IsMachineOf, unnamed, world_held}
use Rattle.snl_machine.proofs.Tasks.{links-alike}
use Rattle.snl_machine.proofs.making.machine_of.Goals as goal

-- but for the names of channels the links are those of the program, whatever the macros are
pub machine_by-requires-clause-links : goal.machine_by-requires-clause-links
machine_by-requires-clause-links c =
    let p = program_view c.args.program.now in
    let links-are = ap (map link_view) c.as_slice-links.ensures.value ∙ c.in_ok-links.ensures in
    ap (map unnamed) links-are ∙ links-alike _ _ (ties p)

-- the links are those of the program
pub returns-clause-made : goal.returns-clause-made
returns-clause-made c =
    let p = program_view c.args.program.now in
    let links-are = ap (map link_view) c.as_slice-links.ensures.value ∙ c.in_ok-links.ensures in
    subst (λ (l : List Link). IfOk c.machine_by.result (IsMachineOf p l c.args.waits c.args.budget)) links-are c.machine_by.ensures.made

pub returns-clause-first : goal.returns-clause-first
returns-clause-first c =
    let p = program_view c.args.program.now in
    let links-are = ap (map link_view) c.as_slice-links.ensures.value ∙ c.in_ok-links.ensures in
    subst (λ (l : List Link). IfOk c.machine_by.result (λ machine. world_held machine ≡ first_world_of p l)) links-are c.machine_by.ensures.first
