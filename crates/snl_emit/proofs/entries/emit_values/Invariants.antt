use Rattle.std.proofs.Common.{◌≡◌, ◌++◌, map, drop, reverse}
use Rattle.snl_syntax.specs.view.Expressions.{boxed}
use Rattle.snl_emit.specs.BlockCode.{begun_with_code}
use Rattle.snl_meaning.specs.Known.{here_of}
use Rattle.snl_emit.proofs.entries.emit_values.Given as goal

abbrev pub invariant-loop-element : goal.invariant-loop-element
invariant-loop-element l =
    reverse l.code.items ≡ begun_with_code (here_of l.known) l.variable l.line l.element (map boxed (drop l.element l.values)) ++ reverse l.initial.code.items
