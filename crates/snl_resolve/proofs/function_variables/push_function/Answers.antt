use Rattle.std.proofs.Common.{map}
use Rattle.std.proofs.lemmas.Result.{on_ok_weaker}
use Rattle.snl_names.specs.Chains.{scopes_of}
use Rattle.snl_names.specs.CopyVariables.{variable_view}
use Rattle.snl_resolve.proofs.VariableLaws.{function_held}
use Rattle.snl_resolve.proofs.function_variables.push_function.Goals as goal

pub returns : goal.returns
returns c =
    on_ok_weaker c.push_block.result
    (function_held (scopes_of c.args.outer.now) c.args.function.now c.as_slice-parameters.result.now c.deref.result.now c.in_ok-scope.scope
    (map variable_view c.args.kept.now.items) (map variable_view c.push_parameters.new.kept.items) (map variable_view c.push_block.new.kept.items)
    c.as_slice-parameters.ensures.value c.deref.ensures c.in_ok-scope.ensures c.in_ok-push_parameters.ensures)
    c.push_block.ensures
