use Rattle.std.proofs.Common.{◌≡◌, drop, map}
use Rattle.snl_syntax.specs.view.Lists.{statement_list}
use Rattle.snl_syntax.specs.view.Statements.{statement_view}
use Rattle.snl_json.specs.Rows.{made}
use Rattle.snl_json.specs.Statements.{with_statements}
use Rattle.snl_json.proofs.statements.+statement.Given as goal

abbrev pub invariant-put_statements-loop-number : goal.invariant-put_statements-loop-number
invariant-put_statements-loop-number l = made l.rows.items ≡ with_statements (statement_list (map statement_view (drop l.number l.statements))) (made l.initial.rows.items)
