use Rattle.std.proofs.Common.{◌≡◌, ◌+◌, map, drop}
use Rattle.snl_meaning.specs.Names.{words_of}
use Rattle.snl_names.specs.CopyVariables.{variable_view}
use Rattle.snl_timing.proofs.programs.size_of.Given as goal

-- With the words of the variables that are left it is those of all.
abbrev pub invariant-loop-variable : goal.invariant-loop-variable
invariant-loop-variable l = l.size + words_of (map variable_view (drop l.variable-index l.variables)) ≡ words_of (map variable_view l.variables)
