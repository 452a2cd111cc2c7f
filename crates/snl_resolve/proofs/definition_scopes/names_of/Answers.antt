use Rattle.std.proofs.Common.{map}
use Rattle.std.proofs.lemmas.List.{map-append}
use Rattle.snl_syntax.specs.view.Definitions.{definition_view}
use Rattle.snl_names.specs.Scopes.{bare, names_by, bare_names}
use Rattle.snl_resolve.proofs.Steps.{row_step}
use Rattle.snl_resolve.proofs.definition_scopes.names_of.Goals as goal

pub loop-definition-preserved : goal.loop-definition-preserved
loop-definition-preserved c =
    row_step (λ x. map bare (names_by (definition_view x))) (λ l. bare_names (map definition_view l)) (λ x xs. map-append bare (names_by (definition_view x)) _)
    c.args.definitions.now c.loop-definition.definition-index c.definition-item.result c.loop-definition.names.items c.push_names_by.new.names.items _
    c.loop-definition-test.true c.definition-item.is c.loop-definition.invariant c.in_ok-push_names_by.ensures
