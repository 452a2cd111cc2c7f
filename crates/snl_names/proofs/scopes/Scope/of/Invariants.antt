use Rattle.std.proofs.Common.{take}
use Rattle.snl_names.specs.Tables.{IsTable}
use Rattle.snl_names.proofs.scopes.Scope.of.Given as goal

abbrev pub invariant-loop-name : goal.invariant-loop-name
invariant-loop-name l = IsTable l.firsts (take l.name-index l.name-items)
