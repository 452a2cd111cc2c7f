use Rattle.std.proofs.Common.{◌∙◌, ap, map, sym}
use Rattle.std.specs.List.{flat_map}
use Rattle.snl_syntax.specs.view.Definitions.{definition_view}
use Rattle.snl_syntax.specs.view.Programs.{program_view}
use Rattle.snl_syntax.specs.Functions.{FunctionTree}
use Rattle.snl_names.specs.Variables.{function_by, functions_of}
use Rattle.snl_flat.proofs.FunctionRows.{names-same}
use Rattle.snl_flat.proofs.compiling.marked_code.Goals as goal

-- the names are those of the program's functions
pub code_of-requires-clause-names : goal.code_of-requires-clause-names
code_of-requires-clause-names c =
    let p = program_view c.args.program.now in
    c.in_ok-names-2.ensures ∙ c.in_ok-names.ensures
    ∙ ap (λ l. map (λ (f : FunctionTree). f.name) (flat_map function_by (map definition_view l))) c.as_slice.ensures.value ∙ sym (names-same p (functions_of p))
