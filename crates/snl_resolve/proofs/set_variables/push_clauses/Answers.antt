use Rattle.std.proofs.Common.{◌++◌, map, refl, ap, ◌∙◌}
use Rattle.std.specs.List.{flat_map}
use Rattle.snl_syntax.specs.view.Statements.{block_view}
use Rattle.snl_syntax.specs.view.Programs.{clause_view}
use Rattle.snl_names.specs.Chains.{scopes_of}
use Rattle.snl_names.specs.CopyVariables.{variable_view}
use Rattle.snl_names.specs.Variables.{by_block, by_clause}
use Rattle.snl_resolve.proofs.Steps.{row_step}
use Rattle.snl_resolve.proofs.set_variables.push_clauses.Goals as goal

pub loop-clause-preserved : goal.loop-clause-preserved
loop-clause-preserved c =
    let s = scopes_of c.args.scopes.now in
    row_step (λ x. by_clause s (clause_view x)) (λ l. flat_map (by_clause s) (map clause_view l)) (λ x xs. refl)
    c.args.clauses.now c.loop-clause.clause-index c.clause-item.result (map variable_view c.loop-clause.kept.items) (map variable_view c.push_block.new.kept.items) _
    c.loop-clause-test.true c.clause-item.is c.loop-clause.invariant
    (c.in_ok-push_block.ensures ∙ ap (λ b. map variable_view c.loop-clause.kept.items ++ by_block s (block_view b)) c.deref.ensures)
