use Rattle.std.proofs.Common.{map, refl}
use Rattle.std.proofs.lemmas.Result.{on_ok_weaker}
use Rattle.snl_syntax.specs.view.Lists.{statement_list}
use Rattle.snl_syntax.specs.view.Statements.{statement_view}
use Rattle.snl_names.specs.Variables.{by_statement, by_statements}
use Rattle.snl_names.specs.Chains.{scopes_of}
use Rattle.snl_names.specs.CopyVariables.{variable_view}
use Rattle.snl_resolve.proofs.Steps.{row_step}
use Rattle.snl_resolve.proofs.VariableLaws.{inside_held, block_held, nested_held}
use Rattle.snl_resolve.proofs.block_variables.+held.Goals as goal

pub push_inside-returns : goal.push_inside-returns
push_inside-returns t c =
    on_ok_weaker c.push_statements.result
    (inside_held (scopes_of c.args.scopes.now) c.args.block.now c.as_slice.result.now c.as_slice-2.result.now
    (map variable_view c.args.kept.now.items) (map variable_view c.push_declarations.new.kept.items) (map variable_view c.push_statements.new.kept.items)
    c.as_slice.ensures.value c.as_slice-2.ensures.value c.in_ok-push_declarations.ensures)
    c.push_statements.ensures

pub push_block-returns : goal.push_block-returns
push_block-returns t c =
    on_ok_weaker c.push_inside.result
    (block_held (scopes_of c.args.outer.now) c.args.block.now c.in_ok-scope.scope
    (map variable_view c.args.kept.now.items) (map variable_view c.push_inside.new.kept.items) c.in_ok-scope.ensures)
    c.push_inside.ensures

pub push_statement-returns-in-Block : goal.push_statement-returns-in-Block
push_statement-returns-in-Block t c =
    on_ok_weaker c.push_block.result
    (nested_held (scopes_of c.args.scopes.now) c.args.statement.now c.in-Block.block
    (map variable_view c.args.kept.now.items) (map variable_view c.push_block.new.kept.items) c.in-Block.is)
    c.push_block.ensures

pub push_statements-loop-statement-preserved : goal.push_statements-loop-statement-preserved
push_statements-loop-statement-preserved t c =
    let s = scopes_of c.args.scopes.now in
    row_step (λ x. by_statement s (statement_view x)) (λ l. by_statements s (statement_list (map statement_view l))) (λ x xs. refl)
    c.args.statements.now c.loop-statement.statement-index c.statement-item.result (map variable_view c.loop-statement.kept.items) (map variable_view c.push_statement.new.kept.items) _
    c.loop-statement-test.true c.statement-item.is c.loop-statement.invariant c.in_ok-push_statement.ensures
