-- How functions are read, and the definitions of a program among which they stand. A declaration and a function begin
-- alike, with a type and a name, so both are read that far, and then a parenthesis tells them apart.
use Rattle.std.specs.Prelude.{ℕ, List, [], ◌∷◌, ◌⊎◌, Option, Some, None, true, false}
use Rattle.std.proofs.Common.{inl, inr}
use Rattle.snl_text.specs.declared.tokens.Token.{Token}
use Rattle.snl_text.specs.declared.kinds.Kind.TheVariants.{Name, OptionWord, Void, OpenParenthesis, CloseParenthesis, Semicolon, Comma}
use Rattle.snl_syntax.specs.Kinds.{is}
use Rattle.snl_tree.specs.reading.Readers.{Reader, one, sign, both, either, many, made}
use Rattle.snl_tree.specs.reading.Sequences.{maybe, behind, before, between, parted}
use Rattle.snl_syntax.specs.Expressions.{ExprTree}
use Rattle.snl_syntax.specs.Declarations.{starts_declaration, TypeTree, InitialiserTree, DeclaratorTree}
use Rattle.snl_tree.specs.reading.Declarations.{type_at, ends_at, declarator, more_declarators_at}
use Rattle.snl_syntax.specs.Statements.{BlockTree}
use Rattle.snl_tree.specs.reading.Statements.{block_at}
use Rattle.snl_syntax.specs.Functions.{ParameterTree, ParametersTree}
use Rattle.snl_syntax.specs.Definitions.{SettingTree, DefinitionTree, declaration, setting, function, starts_program_part}
use Rattle.snl_tree.specs.reading.Definitions.{other_at, setting_at}

-- type NAME
unfoldable pub parameter_at : Reader ParameterTree
parameter_at = made (λ x. record { type_name = x.0; name = x.1 }) (both type_at (λ _. one (is Name)))

-- type NAME ( ',' type NAME )*
unfoldable pub parameter_row_at : Reader (List ParameterTree)
parameter_row_at = parted Comma parameter_at

-- the word `void`, nothing, or a row
abbrev pub parameters : Unit {0} ⊎ Option (List ParameterTree) → ParametersTree
parameters (inl _) = record { void = true; each = [] }
parameters (inr None) = record { void = false; each = [] }
parameters (inr (Some all)) = record { void = false; each = all }

-- [ 'void' | type NAME ( ',' type NAME )* ]
unfoldable pub parameters_at : Reader ParametersTree
parameters_at = made parameters (either (is Void) (sign Void) (maybe starts_declaration parameter_row_at))

-- What stands after the name of a function.
abbrev pub FunctionRest : Type 0
FunctionRest = ParametersTree × BlockTree

-- '(' parameters ')' block
unfoldable pub function_rest_at : ℕ → Reader FunctionRest
function_rest_at n = both (between OpenParenthesis parameters_at CloseParenthesis) (λ _. block_at n n)

-- What stands after the first name of a declaration.
abbrev pub VariableRest : Type 0
VariableRest = (List ExprTree × Option InitialiserTree) × List DeclaratorTree

-- what belongs to that name, ( ',' dname )* ';'
unfoldable pub variable_rest_at : ℕ → Reader VariableRest
variable_rest_at n = before (both (ends_at n) (λ _. more_declarators_at n)) Semicolon

-- A type, a name, and what makes them a function or a declaration.
abbrev pub Typed : Type 0
Typed = TypeTree × (Token × (FunctionRest ⊎ VariableRest))

-- type NAME, and the rest of a function or of a declaration
unfoldable pub typed_at : ℕ → Reader Typed
typed_at n = both type_at (λ _. both (one (is Name)) (λ _. either (is OpenParenthesis) (function_rest_at n) (variable_rest_at n)))

-- 'void' NAME, and the rest of a function
unfoldable pub void_at : ℕ → Reader (Token × FunctionRest)
void_at n = behind Void (both (one (is Name)) (λ _. function_rest_at n))

-- a function, with the type of its value if it has one
abbrev pub function_of : Option TypeTree → Token → FunctionRest → DefinitionTree
function_of t x f = function record { type_name = t; name = x; parameters = f.0; body = f.1 }

-- a declaration of one name or more
abbrev pub variables_of : TypeTree → Token → VariableRest → DefinitionTree
variables_of t x v = declaration record { type_name = t; names = declarator x v.0 ∷ v.1 }

-- a function where its rest was read, else a declaration
abbrev pub typed : Typed → DefinitionTree
typed (t, (x, inl f)) = function_of (Some t) x f
typed (t, (x, inr v)) = variables_of t x v

-- the forms among the definitions of a program, told apart by their first words
abbrev pub FormOfPart : Type 0
FormOfPart = (Token × FunctionRest) ⊎ (Typed ⊎ (SettingTree ⊎ DefinitionTree))

-- what was read is a function, what begins with a type, an option or another definition
abbrev pub program_part : FormOfPart → DefinitionTree
program_part (inl x) = function_of None x.0 x.1
program_part (inr (inl x)) = typed x
program_part (inr (inr (inl o))) = setting o
program_part (inr (inr (inr d))) = d

-- def | option | fdef
unfoldable pub program_part_at : ℕ → Reader DefinitionTree
program_part_at n = made program_part (either (is Void) (void_at n) (either starts_declaration (typed_at n) (either (is OptionWord) setting_at (other_at n))))

-- ( def | option | fdef )*
unfoldable pub program_parts_at : ℕ → Reader (List DefinitionTree)
program_parts_at n = many starts_program_part (program_part_at n)
