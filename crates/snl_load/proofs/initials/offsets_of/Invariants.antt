use Rattle.std.proofs.Common.{◌≡◌, ◌++◌, drop, map}
use Rattle.snl_names.specs.CopyVariables.{variable_view}
use Rattle.snl_load.specs.Offsets as spec
use Rattle.snl_load.proofs.initials.offsets_of.Given as goal

-- offsets so far, and those that are left
abbrev pub invariant-loop-number : goal.invariant-loop-number
invariant-loop-number l = l.offsets.items ++ spec.offsets_of (map variable_view (drop l.number l.variables)) ≡ spec.offsets_of (map variable_view l.variables)
