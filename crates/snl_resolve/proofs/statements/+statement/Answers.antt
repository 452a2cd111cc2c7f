use Rattle.std.proofs.Common.{map, refl}
use Rattle.std.proofs.lemmas.Result.{on_ok_weaker}
use Rattle.snl_syntax.specs.view.Lists.{statement_list}
use Rattle.snl_syntax.specs.view.Statements.{statement_view}
use Rattle.snl_names.specs.Sites.{in_statement, in_statements}
use Rattle.snl_resolve.specs.Seen.{sight_of}
use Rattle.snl_resolve.proofs.Steps.{row_step}
use Rattle.snl_resolve.proofs.BlockLaws.{block_noted, nested_noted}
use Rattle.snl_resolve.proofs.statements.+statement.Goals as goal

pub note_block-returns : goal.note_block-returns
note_block-returns t c =
    on_ok_weaker c.note_statements.result
    (block_noted c.args.around.now.room c.args.around.now.states.now (sight_of c.args.outer.now) c.args.in_loop c.args.block.now
    c.as_slice.result.now c.as_slice-2.result.now c.as_slice-statements.result.now c.in_ok-scope.scope (sight_of c.within-sight.result)
    c.args.sites.now.items c.block_scope.new.sites.items c.note_declarations.new.sites.items c.note_statements.new.sites.items
    c.as_slice.ensures.value c.as_slice-2.ensures.value c.as_slice-statements.ensures.value
    c.in_ok-scope.ensures.scope c.within-sight.ensures c.in_ok-scope.ensures.sites c.in_ok-note_declarations.ensures)
    c.note_statements.ensures

pub note_statement-returns-in-Block : goal.note_statement-returns-in-Block
note_statement-returns-in-Block t c =
    on_ok_weaker c.note_block.result
    (nested_noted c.args.around.now.room c.args.around.now.states.now (sight_of c.args.sight.now) c.args.in_loop c.args.statement.now c.in-Block.block
    c.args.sites.now.items c.note_block.new.sites.items c.in-Block.is)
    c.note_block.ensures

pub note_statements-loop-statement-preserved : goal.note_statements-loop-statement-preserved
note_statements-loop-statement-preserved t c =
    let by = in_statement c.args.around.now.room c.args.around.now.states.now (sight_of c.args.sight.now) c.args.in_loop in
    let all = in_statements c.args.around.now.room c.args.around.now.states.now (sight_of c.args.sight.now) c.args.in_loop in
    row_step (λ x. by (statement_view x)) (λ l. all (statement_list (map statement_view l))) (λ x xs. refl)
    c.args.statements.now c.loop-statement.statement-index c.statement-item.result c.loop-statement.sites.items c.note_statement.new.sites.items _
    c.loop-statement-test.true c.statement-item.is c.loop-statement.invariant c.in_ok-note_statement.ensures
