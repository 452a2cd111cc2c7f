use Rattle.std.proofs.Common.{◌≡◌, ◌++◌, map, take}
use Rattle.snl_rules.specs.Tests.{broken_at}
use Rattle.snl_rules.proofs.breaking.push_broken.Given as goal

abbrev pub invariant-loop-rule : goal.invariant-loop-rule
invariant-loop-rule l = l.found.items ≡ l.fn.found.items ++ map (broken_at l.site) (take l.rule-index l.rules)
