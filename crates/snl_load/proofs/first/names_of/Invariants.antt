use Rattle.std.proofs.Common.{◌≡◌, ◌++◌, drop, map}
use Rattle.snl_load.specs.Sets.{names_in}
use Rattle.snl_load.proofs.first.names_of.Given as goal

-- names so far, and those that are left
abbrev pub invariant-loop-name : goal.invariant-loop-name
invariant-loop-name l = map (λ name. name.items) l.kept.items ++ map (λ name. name.items) (drop l.name-index l.names.keys) ≡ names_in l.names
