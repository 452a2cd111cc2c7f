use Rattle.std.proofs.Common.{◌≡◌, drop, map}
use Rattle.snl_syntax.specs.view.Declarations.{declarator_view}
use Rattle.snl_json.specs.Rows.{made, with_things}
use Rattle.snl_json.specs.Declarations.{with_declarator}
use Rattle.snl_json.proofs.declarations.put_declarators.Given as goal

abbrev pub invariant-loop-number : goal.invariant-loop-number
invariant-loop-number l = made l.rows.items ≡ with_things with_declarator (map declarator_view (drop l.number l.declarators)) (made l.initial.rows.items)
