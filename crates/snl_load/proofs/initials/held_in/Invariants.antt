use Rattle.std.proofs.Common.{◌≡◌, drop, map}
use Rattle.snl_names.specs.CopyVariables.{variable_view}
use Rattle.snl_load.specs.Initials as spec
use Rattle.snl_load.proofs.initials.held_in.Given as goal

-- no variable so far is the one, so the rest decides
abbrev pub invariant-loop-number : goal.invariant-loop-number
invariant-loop-number l = spec.held_in (map variable_view (drop l.number l.variables)) l.offset ≡ spec.held_in (map variable_view l.variables) l.offset
