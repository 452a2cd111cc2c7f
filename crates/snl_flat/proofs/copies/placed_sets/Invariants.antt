use Rattle.std.proofs.Common.{◌≡◌, ◌++◌, drop, map}
use Rattle.snl_meaning.specs.Names.{placed_from}
use Rattle.snl_flat.specs.Copies.{sets_of}
use Rattle.snl_flat.proofs.copies.placed_sets.Given as goal

-- copies so far, and those that are left
abbrev pub invariant-loop-variables : goal.invariant-loop-variables
invariant-loop-variables l = l.copies.items ++ map (placed_from 0) (sets_of (drop l.variables-index l.sets)) ≡ map (placed_from 0) (sets_of l.sets)
