use Rattle.std.proofs.Common.{◌≡◌, drop}
use Rattle.snl_meaning.specs.Words.{bound}
use Rattle.snl_vm.specs.Views.{world_of}
use Rattle.snl_vm.proofs.calling.bind.Given as goal

-- what is left to bind comes to the same
abbrev pub invariant-loop-number : goal.invariant-loop-number
invariant-loop-number l =
    bound l.set l.parameters l.line l.values (world_of l.fn.store) ≡ bound l.set (drop l.number l.parameters) l.line (drop l.number l.values) (world_of l.store)
