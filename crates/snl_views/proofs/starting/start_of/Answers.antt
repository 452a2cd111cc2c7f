use Rattle.std.proofs.Common.{◌∙◌, ap, List}
use Rattle.snl_machine.specs.MachineOf.{IsMachineOf, task_of, world_held}
use Rattle.snl_meaning.specs.declared.ties.Tied.{Tied}
use Rattle.snl_views.specs.Awaits.{awaited_in, left_in}
use Rattle.snl_views.proofs.Ending.{awaits-by, links-are}
use Rattle.snl_views.proofs.starting.start_of.Goals as goal

-- the run into the sink that refuses its first byte
pub returns-clause-ran : goal.returns-clause-ran
returns-clause-ran g c = λ p ls budget is. record { world = world_held c.heard_of.new.machine; ran = c.in_ok-ran.ensures.means p ls c.args.waits budget is }

-- the run wrote nothing into the sink, or it failed there; and what is left is that of the program
pub returns-clause-named : goal.returns-clause-named
returns-clause-named g c = λ p ls budget is.
    let waits = c.args.waits in
    let old = c.args.machine.now in
    let new = c.heard_of.new.machine in
    let ran = c.in_ok-ran.ran in
    let stays : IsMachineOf p ls waits budget new = c.in_ok-ran.ensures.stays p ls waits budget is in
    let links = links-are p ls waits budget new stays in
    let named = c.in_ok-awaited.ensures ∙ ap (λ (xs : List Tied). left_in ran.end (awaited_in waits xs (world_held new))) links in
    awaits-by (task_of p ls waits) budget ran.end (g.R.Source.gave ran.trace) (g.R.Source.ended ran.trace) (world_held old) (world_held new) c.in_ok-awaited.awaited.items
    c.requires.waiting named (c.in_ok-ran.ensures.means p ls waits budget is)
