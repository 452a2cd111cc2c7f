use Rattle.std.proofs.Common.{◌≡◌, drop, map}
use Rattle.snl_syntax.specs.view.Definitions.{definition_view}
use Rattle.snl_json.specs.Rows.{made, with_things}
use Rattle.snl_json.specs.Definitions.{with_definition}
use Rattle.snl_json.proofs.definitions.put_definitions.Given as goal

abbrev pub invariant-loop-number : goal.invariant-loop-number
invariant-loop-number l = made l.rows.items ≡ with_things with_definition (map definition_view (drop l.number l.definitions)) (made l.initial.rows.items)
