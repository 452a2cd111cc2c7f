use Rattle.std.proofs.Common.{◌≡◌, ◌++◌, map, drop}
use Rattle.snl_alike.specs.Timing.{sizes_in}
use Rattle.snl_flat.specs.Copies.{sets_of}
use Rattle.snl_meaning.specs.Names.{words_of}
use Rattle.snl_timing.proofs.programs.table_of.Given as goal

-- With the sizes of the state sets that are left these are those of all.
abbrev pub invariant-loop-variables : goal.invariant-loop-variables
invariant-loop-variables l = sizes_in l.table.items ++ map words_of (sets_of (drop l.variables-index l.held)) ≡ map words_of (sets_of l.held)
