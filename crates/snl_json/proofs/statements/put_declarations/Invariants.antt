use Rattle.std.proofs.Common.{◌≡◌, drop, map}
use Rattle.snl_syntax.specs.view.Declarations.{declaration_view}
use Rattle.snl_json.specs.Rows.{made, with_things}
use Rattle.snl_json.specs.Declarations.{with_declaration}
use Rattle.snl_json.proofs.statements.put_declarations.Given as goal

abbrev pub invariant-loop-number : goal.invariant-loop-number
invariant-loop-number l = made l.rows.items ≡ with_things with_declaration (map declaration_view (drop l.number l.declarations)) (made l.initial.rows.items)
