use Rattle.std.proofs.Common.{◌≡◌, ◌++◌, drop, map}
use Rattle.snl_names.specs.CopyVariables.{variable_view}
use Rattle.snl_load.specs.First.{first_shared}
use Rattle.snl_load.proofs.first.first_shared.Given as goal

-- the words of variables so far, and of those that are left
abbrev pub invariant-loop-number : goal.invariant-loop-number
invariant-loop-number l = l.words.items ++ first_shared (map variable_view (drop l.number l.shared)) ≡ first_shared (map variable_view l.shared)
