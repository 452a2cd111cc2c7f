use Rattle.std.proofs.Common.{◌≡◌, ◌++◌, map, drop}
use Rattle.snl_names.specs.Scopes.{bare}
use Rattle.snl_resolve.proofs.definition_scopes.push_flags.Given as goal

abbrev pub invariant-loop-flag : goal.invariant-loop-flag
invariant-loop-flag l = l.names.items ++ map bare (drop l.flag-index l.flags) ≡ l.initial.names.items ++ map bare l.flags
