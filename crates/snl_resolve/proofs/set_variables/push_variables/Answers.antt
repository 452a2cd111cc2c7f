use Rattle.std.proofs.Common.{map}
use Rattle.std.proofs.lemmas.Result.{on_ok_weaker}
use Rattle.snl_names.specs.CopyVariables.{variable_view}
use Rattle.snl_resolve.proofs.VariableLaws.{program_held}
use Rattle.snl_resolve.proofs.set_variables.push_variables.Goals as goal

pub returns : goal.returns
returns c =
    on_ok_weaker c.push_parts.result
    (program_held c.args.program.now c.args.set c.as_slice.result.now c.as_slice-sets.result.now c.in_ok-scope.scope
    (map variable_view c.args.kept.now.items) (map variable_view c.push_definitions.new.kept.items) (map variable_view c.push_parts.new.kept.items)
    c.as_slice.ensures.value c.as_slice-sets.ensures.value c.in_ok-scope.ensures.scope c.in_ok-scope.ensures.kept)
    c.push_parts.ensures
