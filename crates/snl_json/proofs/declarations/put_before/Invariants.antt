use Rattle.std.proofs.Common.{◌≡◌, drop, map}
use Rattle.snl_syntax.specs.view.Expressions.{boxed}
use Rattle.snl_json.specs.Rows.{made}
use Rattle.snl_json.specs.Declarations.{with_before}
use Rattle.snl_json.proofs.declarations.put_before.Given as goal

abbrev pub invariant-loop-number : goal.invariant-loop-number
invariant-loop-number l = made l.rows.items ≡ with_before (map boxed (drop l.number l.values)) (made l.initial.rows.items)
