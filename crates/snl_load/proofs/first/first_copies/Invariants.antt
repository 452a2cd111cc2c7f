use Rattle.std.proofs.Common.{◌≡◌, ◌++◌, drop, map}
use Rattle.snl_vm.specs.Views.{copy_view}
use Rattle.snl_flat.specs.Copies.{sets_of}
use Rattle.snl_load.specs.First as spec
use Rattle.snl_load.proofs.first.first_copies.Given as goal

-- copies so far, and those that are left
abbrev pub invariant-loop-variables : goal.invariant-loop-variables
invariant-loop-variables l = map copy_view l.made.items ++ map spec.first_copy (sets_of (drop l.variables-index l.sets)) ≡ map spec.first_copy (sets_of l.sets)
