use Rattle.std.proofs.Common.{◌≡◌, ◌++◌, map, drop}
use Rattle.snl_syntax.specs.view.Lists.{statement_list}
use Rattle.snl_syntax.specs.view.Statements.{statement_view}
use Rattle.snl_names.specs.Variables.{by_statements}
use Rattle.snl_names.specs.Chains.{scopes_of}
use Rattle.snl_names.specs.CopyVariables.{variable_view}
use Rattle.snl_resolve.proofs.block_variables.+held.Given as goal

abbrev pub invariant-push_statements-loop-statement : goal.invariant-push_statements-loop-statement
invariant-push_statements-loop-statement l =
    map variable_view l.kept.items ++ by_statements (scopes_of l.scopes) (statement_list (map statement_view (drop l.statement-index l.statements)))
    ≡ map variable_view l.initial.kept.items ++ by_statements (scopes_of l.scopes) (statement_list (map statement_view l.statements))
