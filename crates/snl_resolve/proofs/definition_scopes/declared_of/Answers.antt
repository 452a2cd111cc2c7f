use Rattle.std.proofs.Common.{map, refl}
use Rattle.std.specs.List.{flat_map}
use Rattle.snl_syntax.specs.view.Definitions.{definition_view}
use Rattle.snl_names.specs.Chains.{scopes_of}
use Rattle.snl_names.specs.Scopes.{declared_by, is_hidden}
use Rattle.snl_resolve.proofs.Steps.{row_step}
use Rattle.snl_resolve.proofs.definition_scopes.declared_of.Goals as goal

pub loop-definition-preserved : goal.loop-definition-preserved
loop-definition-preserved c =
    let by = declared_by (is_hidden (scopes_of c.args.scopes.now)) in
    row_step (λ x. by (definition_view x)) (λ l. flat_map by (map definition_view l)) (λ x xs. refl)
    c.args.definitions.now c.loop-definition.definition-index c.definition-item.result c.loop-definition.found.items c.push_declared_by.new.found.items _
    c.loop-definition-test.true c.definition-item.is c.loop-definition.invariant c.in_ok-push_declared_by.ensures
