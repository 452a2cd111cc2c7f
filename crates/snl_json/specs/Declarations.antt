-- The rows of declarations.
use Rattle.std.specs.Prelude.{List, [], ◌∷◌, codes}
use Rattle.serde_json.specs.Data.{Data}
use Rattle.snl_json.specs.declared.rows.Part.TheVariants as part
use Rattle.snl_json.specs.Rows.{with_row, last, maybe_word, with_maybe, maybe_last, with_list}
use Rattle.snl_json.specs.Expressions.{with_expression}
use Rattle.snl_syntax.specs.Expressions.{ExprTree}
use Rattle.snl_syntax.specs.Declarations.{TypeTree, ValueList, no_values, last_value, value_before, InitialiserTree, single, listed, DeclaratorTree, DeclarationTree}

-- The words of a type.
abbrev pub with_type : TypeTree → List Data → List Data
with_type t rows = with_row (codes "TypeTree") (part.Word t.word ∷ maybe_word t.second ∷ []) rows

-- The values of a list in braces, the last one first.
abbrev pub with_values : ValueList → List Data → List Data
with_values no_values rows = with_row (codes "no_values") [] rows
with_values (last_value e) rows = let given = with_expression e rows in with_row (codes "last_value") (last given ∷ []) given
with_values (value_before e rest) rows =
    let others = with_values rest rows in let given = with_expression e others in
    with_row (codes "value_before") (last given ∷ last others ∷ []) given

-- Values with a comma behind each, in front of others, the last one first.
abbrev pub with_before : List ExprTree → List Data → List Data
with_before [] rows = rows
with_before (e ∷ es) rows =
    let others = with_before es rows in let given = with_expression e others in
    with_row (codes "value_before") (last given ∷ last others ∷ []) given

-- What a variable begins with.
abbrev pub with_initialiser : InitialiserTree → List Data → List Data
with_initialiser (single e) rows = let given = with_expression e rows in with_row (codes "single") (last given ∷ []) given
with_initialiser (listed all) rows = let values = with_values all rows in with_row (codes "listed") (last values ∷ []) values

-- A declared name.
abbrev pub with_declarator : DeclaratorTree → List Data → List Data
with_declarator d rows =
    let sizes = with_list with_expression d.sizes rows in let initial = with_maybe with_initialiser d.initial sizes in
    with_row (codes "DeclaratorTree") (part.Word d.name ∷ last sizes ∷ maybe_last d.initial initial ∷ []) initial

-- A declaration.
abbrev pub with_declaration : DeclarationTree → List Data → List Data
with_declaration d rows =
    let words = with_type d.type_name rows in let names = with_list with_declarator d.names words in
    with_row (codes "DeclarationTree") (last words ∷ last names ∷ []) names
