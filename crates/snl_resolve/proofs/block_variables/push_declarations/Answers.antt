use Rattle.std.proofs.Common.{map, refl}
use Rattle.std.specs.List.{flat_map}
use Rattle.snl_syntax.specs.view.Declarations.{declaration_view}
use Rattle.snl_names.specs.Chains.{scopes_of}
use Rattle.snl_names.specs.CopyVariables.{variable_view}
use Rattle.snl_names.specs.Variables.{by_declaration}
use Rattle.snl_resolve.proofs.Steps.{row_step}
use Rattle.snl_resolve.proofs.block_variables.push_declarations.Goals as goal

pub loop-declared-preserved : goal.loop-declared-preserved
loop-declared-preserved c =
    let s = scopes_of c.args.scopes.now in
    row_step (λ x. by_declaration s (declaration_view x)) (λ l. flat_map (by_declaration s) (map declaration_view l)) (λ x xs. refl)
    c.args.declarations.now c.loop-declared.declared-index c.declared-item.result (map variable_view c.loop-declared.kept.items) (map variable_view c.push_held.new.kept.items) _
    c.loop-declared-test.true c.declared-item.is c.loop-declared.invariant c.in_ok-push_held.ensures
