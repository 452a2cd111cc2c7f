use Rattle.std.proofs.Common.{map}
use Rattle.std.proofs.lemmas.Result.{on_ok_weaker}
use Rattle.snl_names.specs.Chains.{scopes_of}
use Rattle.snl_names.specs.CopyVariables.{variable_view}
use Rattle.snl_resolve.proofs.VariableLaws.{definition_held}
use Rattle.snl_resolve.proofs.function_variables.push_if_function.Goals as goal

pub returns-in-Function : goal.returns-in-Function
returns-in-Function c =
    on_ok_weaker c.push_function.result
    (definition_held (scopes_of c.args.scopes.now) c.args.definition.now c.in-Function.function c.deref.result.now
    (map variable_view c.args.kept.now.items) (map variable_view c.push_function.new.kept.items) c.in-Function.is c.deref.ensures)
    c.push_function.ensures
