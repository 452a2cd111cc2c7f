use Rattle.std.proofs.Common.{map}
use Rattle.std.proofs.lemmas.Grind.{flat_map-append}
use Rattle.std.specs.List.{flat_map}
use Rattle.snl_syntax.specs.view.Definitions.{definition_view}
use Rattle.snl_names.specs.Chains.{scopes_of}
use Rattle.snl_names.specs.CopyVariables.{variable_view}
use Rattle.snl_names.specs.Variables.{by_function, function_by}
use Rattle.snl_resolve.proofs.Steps.{row_step}
use Rattle.snl_resolve.proofs.function_variables.push_functions.Goals as goal

pub loop-definition-preserved : goal.loop-definition-preserved
loop-definition-preserved c =
    let by = by_function (scopes_of c.args.scopes.now) in
    row_step (λ d. flat_map by (function_by (definition_view d))) (λ l. flat_map by (flat_map function_by (map definition_view l)))
    (λ d ds. flat_map-append by (function_by (definition_view d)) (flat_map function_by (map definition_view ds)))
    c.args.definitions.now c.loop-definition.definition-index c.definition-item.result
    (map variable_view c.loop-definition.kept.items) (map variable_view c.push_if_function.new.kept.items) _
    c.loop-definition-test.true c.definition-item.is c.loop-definition.invariant c.in_ok-push_if_function.ensures
