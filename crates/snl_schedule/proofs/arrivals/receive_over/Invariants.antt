use Rattle.std.proofs.Common.{◌≡◌, drop}
use Rattle.snl_vm.specs.Views.{world_of}
use Rattle.snl_schedule.specs.Arrivals.{received_link}
use Rattle.snl_schedule.specs.Linked.{done_over}
use Rattle.snl_schedule.specs.Loaded.{loaded, program_of}
use Rattle.snl_schedule.proofs.arrivals.receive_over.Given as goal

-- what is left of the numbers gives what all of them give
abbrev pub invariant-loop-number : goal.invariant-loop-number
invariant-loop-number l = let p = program_of (loaded l.program) in let act = received_link l.channel l.values in
    done_over p act (drop l.number-index l.row) (world_of l.store) ≡ done_over p act l.row (world_of l.fn.store)
