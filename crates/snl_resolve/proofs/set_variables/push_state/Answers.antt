use Rattle.std.proofs.Common.{map}
use Rattle.std.proofs.lemmas.Result.{on_ok_weaker}
use Rattle.snl_names.specs.Chains.{scopes_of}
use Rattle.snl_names.specs.CopyVariables.{variable_view}
use Rattle.snl_resolve.proofs.VariableLaws.{state_held}
use Rattle.snl_resolve.proofs.set_variables.push_state.Goals as goal

pub returns : goal.returns
returns c =
    on_ok_weaker c.push_blocks.result
    (state_held (scopes_of c.args.outer.now) c.args.state.now c.as_slice.result.now c.as_slice-clauses.result.now c.in_ok-scope.scope
    (map variable_view c.args.kept.now.items) (map variable_view c.push_definitions.new.kept.items) (map variable_view c.push_blocks.new.kept.items)
    c.as_slice.ensures.value c.as_slice-clauses.ensures.value c.in_ok-scope.ensures.scope c.in_ok-scope.ensures.kept)
    c.push_blocks.ensures
