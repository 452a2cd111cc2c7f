use Rattle.std.proofs.Common.{◌≡◌, ◌+◌, ◌≤◌, drop}
use Rattle.std.specs.Prelude.{count_by}
use Rattle.snl_meaning.specs.Asking.{is_named_up}
use Rattle.snl_vm.specs.Views.{world_of}
use Rattle.snl_vm.proofs.asking.count_up.Given as goal

-- how many there were, and those that are left
abbrev pub invariant-loop-tie : goal.invariant-loop-tie
invariant-loop-tie l =
    (l.count + count_by (is_named_up (world_of l.store)) (drop l.tie-index l.store.ties.items) ≡ count_by (is_named_up (world_of l.store)) l.store.ties.items)
    × (l.count ≤ l.tie-index)
