use Rattle.std.proofs.Common.{◌≡◌, ◌++◌, drop, map, replicate, false}
use Rattle.snl_vm.specs.Marks as tables
use Rattle.snl_flat.specs.Copies.{sets_of}
use Rattle.snl_load.proofs.first.marks_of.Given as goal

-- marks so far, and those that are left
abbrev pub invariant-loop-variables : goal.invariant-loop-variables
invariant-loop-variables l =
    map tables.marks_of l.marks.items ++ map (λ vs. replicate l.links false) (sets_of (drop l._variables-index l.sets))
    ≡ map (λ vs. replicate l.links false) (sets_of l.sets)
