use Rattle.std.proofs.Common.{◌≡◌, ◌++◌, drop}
use Rattle.snl_machine.specs.MachineOf.{task_held, world_held}
use Rattle.snl_views.specs.Awaits.{awaited_from}
use Rattle.snl_views.proofs.awaited.all_awaited.Given as goal

abbrev pub invariant-loop-number : goal.invariant-loop-number
invariant-loop-number l =
    l.list.items ++ awaited_from (world_held l.machine) l.number (drop l.number (task_held l.machine).program.links)
    ≡ awaited_from (world_held l.machine) 0 (task_held l.machine).program.links
