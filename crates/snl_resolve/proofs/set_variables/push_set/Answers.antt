use Rattle.std.proofs.Common.{map}
use Rattle.std.proofs.lemmas.Result.{on_ok_weaker}
use Rattle.snl_names.specs.Chains.{scopes_of}
use Rattle.snl_names.specs.CopyVariables.{variable_view}
use Rattle.snl_resolve.proofs.VariableLaws.{state_set_held}
use Rattle.snl_resolve.proofs.set_variables.push_set.Goals as goal

pub returns : goal.returns
returns c =
    on_ok_weaker c.push_states.result
    (state_set_held (scopes_of c.args.outer.now) c.args.set.now c.as_slice.result.now c.as_slice-2.result.now c.in_ok-scope.scope
    (map variable_view c.args.kept.now.items) (map variable_view c.push_definitions.new.kept.items) (map variable_view c.push_states.new.kept.items)
    c.as_slice.ensures.value c.as_slice-2.ensures.value c.in_ok-scope.ensures.scope c.in_ok-scope.ensures.kept)
    c.push_states.ensures
