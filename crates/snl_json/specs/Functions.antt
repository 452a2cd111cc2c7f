-- The rows of functions.
use Rattle.std.specs.Prelude.{List, [], ◌∷◌, codes}
use Rattle.serde_json.specs.Data.{Data}
use Rattle.snl_text.specs.declared.tokens.Token.{Token}
use Rattle.snl_syntax.specs.Statements.{BlockTree}
use Rattle.snl_json.specs.declared.rows.Part.{Part}
use Rattle.snl_json.specs.declared.rows.Part.TheVariants as part
use Rattle.snl_json.specs.Rows.{with_row, last, with_maybe, maybe_last, with_list}
use Rattle.snl_json.specs.Declarations.{with_type}
use Rattle.snl_json.specs.Statements.{with_block}
use Rattle.snl_syntax.specs.Functions.{ParameterTree, ParametersTree, FunctionTree}

-- A parameter.
abbrev pub with_parameter : ParameterTree → List Data → List Data
with_parameter p rows = let words = with_type p.type_name rows in with_row (codes "ParameterTree") (last words ∷ part.Word p.name ∷ []) words

-- What stands in the parentheses of a function.
abbrev pub with_parameters : ParametersTree → List Data → List Data
with_parameters p rows = let each = with_list with_parameter p.each rows in with_row (codes "ParametersTree") (part.Flag p.void ∷ last each ∷ []) each

-- The body of a function, and the function of that, where its parameters are the last row.
abbrev pub with_body : Part → Token → BlockTree → List Data → List Data
with_body words name b rows = let body = with_block b rows in with_row (codes "FunctionTree") (words ∷ part.Word name ∷ last rows ∷ last body ∷ []) body

-- A function.
abbrev pub with_function : FunctionTree → List Data → List Data
with_function f rows =
    let words = with_maybe with_type f.type_name rows in with_body (maybe_last f.type_name words) f.name f.body (with_parameters f.parameters words)
