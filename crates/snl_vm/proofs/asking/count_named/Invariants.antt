use Rattle.std.proofs.Common.{◌≡◌, ◌+◌, ◌≤◌, drop}
use Rattle.std.specs.Prelude.{count_by}
use Rattle.snl_meaning.specs.Asking.{is_named}
use Rattle.snl_vm.proofs.asking.count_named.Given as goal

-- how many there were, and those that are left
abbrev pub invariant-loop-tie : goal.invariant-loop-tie
invariant-loop-tie l = (l.count + count_by is_named (drop l.tie-index l.ties) ≡ count_by is_named l.ties) × (l.count ≤ l.tie-index)
