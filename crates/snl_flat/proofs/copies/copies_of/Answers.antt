use Rattle.std.proofs.Common.{◌∙◌, ◌++◌, [], ap, map}
use Rattle.snl_syntax.specs.view.Definitions.{definition_view}
use Rattle.snl_names.specs.CopyVariables.{variable_view}
use Rattle.snl_names.specs.Variables.{by_definitions}
use Rattle.snl_flat.proofs.copies.copies_of.Goals as goal

-- the variables of the program's definitions are those of all copies and of functions begin with
pub copies_by-requires-clause-own : goal.copies_by-requires-clause-own
copies_by-requires-clause-own c =
    ap (map variable_view) c.as_slice.ensures.value ∙ c.in_ok-scope.ensures.kept
    ∙ (λ j. map variable_view (c.new-own.ensures.items j) ++ by_definitions [] (map definition_view (c.as_slice-definitions.ensures.value j)))
