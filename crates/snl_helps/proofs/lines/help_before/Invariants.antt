use Rattle.std.proofs.Common.{◌≡◌}
use Rattle.snl_helps.specs.Helps.{help_before}
use Rattle.snl_helps.proofs.lines.help_before.Given as goal

abbrev pub invariant-loop-at : goal.invariant-loop-at
invariant-loop-at l = help_before l.tokens l.line l.at ≡ help_before l.tokens l.line l.count
