use Rattle.std.proofs.Common.{sym}
use Rattle.snl_machine.specs.MachineOf.{task_held, world_held}
use Rattle.snl_views.proofs.Awaiting.{next-link}
use Rattle.snl_views.proofs.awaited.all_awaited.Goals as goal

pub loop-number-preserved : goal.loop-number-preserved
loop-number-preserved c =
    let m = c.args.machine.now in
    next-link (world_held m) (task_held m).program.links c.loop-number.number c.in-Some.link c.loop-number.list.items c.push_awaited.new.list.items
    (sym c.in-Some.ensures) c.in_ok-push_awaited-in-Some.ensures c.loop-number.invariant
