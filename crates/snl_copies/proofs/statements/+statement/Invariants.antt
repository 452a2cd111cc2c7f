use Rattle.std.proofs.Common.{◌≡◌, ◌++◌, map, drop}
use Rattle.snl_syntax.specs.view.Lists.{statement_list}
use Rattle.snl_syntax.specs.view.Statements.{statement_view}
use Rattle.snl_copies.specs.Code.{in_statements}
use Rattle.snl_copies.proofs.statements.+statement.Given as goal

abbrev pub invariant-push_statements-loop-statement : goal.invariant-push_statements-loop-statement
invariant-push_statements-loop-statement l =
    l.code.items ++ in_statements (statement_list (map statement_view (drop l.statement-index l.statements)))
    ≡ l.initial.code.items ++ in_statements (statement_list (map statement_view l.statements))
