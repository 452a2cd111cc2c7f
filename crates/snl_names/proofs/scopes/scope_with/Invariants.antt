use Rattle.std.proofs.Common.{◌≡◌, [], ◌++◌, take, drop}
use Rattle.snl_names.specs.Sites.{declares}
use Rattle.snl_names.specs.Tables.{IsTable}
use Rattle.snl_names.proofs.scopes.scope_with.Given as goal

abbrev pub invariant-loop-name : goal.invariant-loop-name
invariant-loop-name l =
    IsTable l.firsts (take l.name-index l.name-items)
    × (l.sites.items ++ declares (take l.name-index l.name-items) (drop l.name-index l.name-items) ≡ l.initial.sites.items ++ declares [] l.name-items)
