-- The trees of functions: their spelling, and when they are well formed.
use Rattle.std.specs.Prelude.{◌≡◌, ℕ, Bool, true, false, List, [], ◌∷◌, ◌++◌, Option, Some, None}
use Rattle.snl_text.specs.declared.tokens.Token.{Token}
use Rattle.snl_text.specs.declared.kinds.Kind.TheVariants.{Name, Void, OpenParenthesis, CloseParenthesis, Comma}
use Rattle.snl_syntax.specs.Slots.{Slot, The, Sign}
use Rattle.snl_syntax.specs.Sequences.{between_slots, IfThere, sign_slots, Each, parted_slots}
use Rattle.snl_syntax.specs.Declarations.{TypeTree, type_slots, IsType}
use Rattle.snl_syntax.specs.Statements.{BlockTree, block_slots, IsBlock}

-- A type and a name.
pub record ParameterTree : Type 0 where
  pub type_name : TypeTree
  pub name : Token

-- Parameters, and whether `void` is written in their place.
pub record ParametersTree : Type 0 where
  pub void : Bool
  pub each : List ParameterTree

-- A function. It has a type where it has a value, and else `void` is written.
pub record FunctionTree : Type 0 where
  pub type_name : Option TypeTree
  pub name : Token
  pub parameters : ParametersTree
  pub body : BlockTree

-- The spelling.
-- type | 'void'
abbrev pub answer_slots : Option TypeTree → List Slot
answer_slots None = Sign Void ∷ []
answer_slots (Some t) = type_slots t

-- type NAME
abbrev pub parameter_slots : ParameterTree → List Slot
parameter_slots p = type_slots p.type_name ++ The p.name ∷ []

-- [ 'void' | parameter ( ',' parameter )* ]
abbrev pub parameters_slots : ParametersTree → List Slot
parameters_slots p = sign_slots Void p.void ++ parted_slots Comma parameter_slots p.each

-- fdef : ( type | 'void' ) NAME '(' parameters ')' block
abbrev pub function_slots : FunctionTree → List Slot
function_slots f = answer_slots f.type_name ++ The f.name ∷ (between_slots OpenParenthesis (parameters_slots f.parameters) CloseParenthesis ++ block_slots f.body)

-- Well formed, with expressions, and statements, that are nested at most n deep. The parentheses of the
-- parameters do not count.
abbrev pub IsParameter : ParameterTree → Type 0
IsParameter p = IsType p.type_name × (p.name.kind ≡ Name)

-- Where `void` is written there are no parameters.
abbrev pub AreParametersBy : Bool → List ParameterTree → Type 0
AreParametersBy true each = each ≡ []
AreParametersBy false each = Each IsParameter each

-- By whether `void` is written.
abbrev pub AreParameters : ParametersTree → Type 0
AreParameters p = AreParametersBy p.void p.each

-- The type of its value if it has one, a name, parameters and a block. Statements nest in it as in an entry block.
abbrev pub IsFunction : ℕ → FunctionTree → Type 0
IsFunction n f = IfThere IsType f.type_name × (f.name.kind ≡ Name) × AreParameters f.parameters × IsBlock n f.body
