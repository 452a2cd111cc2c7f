use Rattle.std.proofs.Common.{◌≡◌, drop, map}
use Rattle.snl_syntax.specs.view.Functions.{parameter_view}
use Rattle.snl_json.specs.Rows.{made, with_things}
use Rattle.snl_json.specs.Functions.{with_parameter}
use Rattle.snl_json.proofs.functions.put_each_parameter.Given as goal

abbrev pub invariant-loop-number : goal.invariant-loop-number
invariant-loop-number l = made l.rows.items ≡ with_things with_parameter (map parameter_view (drop l.number l.parameters)) (made l.initial.rows.items)
