use Rattle.std.proofs.Common.{◌≡◌, drop, map}
use Rattle.snl_syntax.specs.view.Expressions.{boxed}
use Rattle.snl_json.specs.Rows.{made, with_things}
use Rattle.snl_json.specs.Expressions.{with_expression}
use Rattle.snl_json.proofs.declarations.put_sizes.Given as goal

abbrev pub invariant-loop-number : goal.invariant-loop-number
invariant-loop-number l = made l.rows.items ≡ with_things with_expression (map boxed (drop l.number l.sizes)) (made l.initial.rows.items)
