use Rattle.std.proofs.Common.{◌≡◌, ◌++◌, map, drop}
use Rattle.snl_syntax.specs.view.Lists.{statement_list}
use Rattle.snl_syntax.specs.view.Statements.{statement_view}
use Rattle.snl_names.specs.UseTables.{declared_at}
use Rattle.snl_lints.specs.Touches.{in_statements}
use Rattle.snl_lints.proofs.statements.+statement.Given as goal

abbrev pub invariant-push_statements-loop-statement : goal.invariant-push_statements-loop-statement
invariant-push_statements-loop-statement l =
    l.found.items ++ in_statements (declared_at l.uses) (statement_list (map statement_view (drop l.statement-index l.statements)))
    ≡ l.initial.found.items ++ in_statements (declared_at l.uses) (statement_list (map statement_view l.statements))
