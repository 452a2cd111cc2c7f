use Rattle.std.proofs.Common.{◌≡◌, ◌++◌, map, drop}
use Rattle.snl_lints.specs.declared.touches.Touch.TheVariants.{Names}
use Rattle.snl_lints.proofs.parts.push_names.Given as goal

abbrev pub invariant-loop-name : goal.invariant-loop-name
invariant-loop-name l = l.found.items ++ map Names (drop l.name-index l.names) ≡ l.initial.found.items ++ map Names l.names
