-- The trees of declarations: their spelling, and when they are well formed.
use Rattle.std.specs.Prelude.{◌≡◌, ℕ, Bool, true, false, ◌&&◌, List, [], ◌∷◌, ◌++◌, Option}
use Rattle.snl_text.specs.declared.tokens.Token.{Token}
use Rattle.snl_text.specs.declared.kinds.Kind.{Kind}
use Rattle.snl_text.specs.declared.kinds.Kind.TheVariants.{Name, Char, Short, Int, Long, Unsigned, Int8, Int16, Int32, Int64, Uint8, Uint16, Uint32, Uint64, Float, Double, StringType, OpenBrace, CloseBrace, OpenBracket, CloseBracket, Semicolon, Comma, Equal}
use Rattle.snl_syntax.specs.Kinds.{is}
use Rattle.snl_syntax.specs.Slots.{Slot, The, Sign}
use Rattle.snl_syntax.specs.Expressions.{ExprTree, assigned, slots, Fits, IsExpr}
use Rattle.snl_syntax.specs.Sequences.{between_slots, maybe_slots, IfThere, row_slots, Each, parted_slots, EachOfSome}

-- A word that names a type, and so begins a declaration.
abbrev pub starts_declaration : Kind → Bool
starts_declaration Char = true
starts_declaration Short = true
starts_declaration Int = true
starts_declaration Long = true
starts_declaration Unsigned = true
starts_declaration Int8 = true
starts_declaration Int16 = true
starts_declaration Int32 = true
starts_declaration Int64 = true
starts_declaration Uint8 = true
starts_declaration Uint16 = true
starts_declaration Uint32 = true
starts_declaration Uint64 = true
starts_declaration Float = true
starts_declaration Double = true
starts_declaration StringType = true
starts_declaration _ = false

-- A word that may stand after `unsigned`.
abbrev pub may_be_unsigned : Kind → Bool
may_be_unsigned Char = true
may_be_unsigned Short = true
may_be_unsigned Int = true
may_be_unsigned Long = true
may_be_unsigned _ = false

-- A second word of a type, by its first.
abbrev pub is_second : Kind → Kind → Bool
is_second first k = may_be_unsigned k && is Unsigned first

-- A type: one word, or `unsigned` and another.
pub record TypeTree : Type 0 where
  pub word : Token
  pub second : Option Token

-- The values of a list. Each but the last has a comma after it, and the last may have one.
pub data ValueList : Type 0 where
  no_values : ValueList
  last_value : ExprTree → ValueList
  value_before : ExprTree → ValueList → ValueList

-- What a variable begins with.
pub data InitialiserTree : Type 0 where
  single : ExprTree → InitialiserTree
  listed : ValueList → InitialiserTree

-- A declared name, with the sizes of an array.
pub record DeclaratorTree : Type 0 where
  pub name : Token
  pub sizes : List ExprTree
  pub initial : Option InitialiserTree

pub record DeclarationTree : Type 0 where
  pub type_name : TypeTree
  pub names : List DeclaratorTree

-- The spelling.
-- type : a word of a type, and a second after 'unsigned'
abbrev pub type_slots : TypeTree → List Slot
type_slots t = The t.word ∷ maybe_slots (λ w. The w ∷ []) t.second

-- an expression in brackets
abbrev pub bracket_slots : ExprTree → List Slot
bracket_slots e = between_slots OpenBracket (slots e) CloseBracket

-- asg ( ',' asg )* [ ',' ]
abbrev pub value_slots : ValueList → List Slot
value_slots no_values = []
value_slots (last_value e) = slots e
value_slots (value_before e rest) = slots e ++ Sign Comma ∷ value_slots rest

-- init : asg | '{' [ values ] '}'
abbrev pub initialiser_slots : InitialiserTree → List Slot
initialiser_slots (single e) = slots e
initialiser_slots (listed values) = between_slots OpenBrace (value_slots values) CloseBrace

-- dname : NAME ( '[' expr ']' )* [ '=' init ]
abbrev pub declarator_slots : DeclaratorTree → List Slot
declarator_slots d = The d.name ∷ (row_slots bracket_slots d.sizes ++ maybe_slots (λ i. Sign Equal ∷ initialiser_slots i) d.initial)

-- decl : type dname ( ',' dname )* ';'
abbrev pub declaration_slots : DeclarationTree → List Slot
declaration_slots d = type_slots d.type_name ++ (parted_slots Comma declarator_slots d.names ++ Sign Semicolon ∷ [])

-- Well formed, with expressions that are nested at most n deep. The brackets of sizes and the braces of
-- lists stand in no expression and do not count.
abbrev pub IsType : TypeTree → Type 0
IsType t = (starts_declaration t.word.kind ≡ true) × IfThere (λ w. is_second t.word.kind w.kind ≡ true) t.second

-- An expression without a comma outside of parentheses.
abbrev pub IsValue : ℕ → ExprTree → Type 0
IsValue n e = Fits assigned e n

abbrev pub AreValues : ℕ → ValueList → Type 0
AreValues n no_values = Unit {0}
AreValues n (last_value e) = IsValue n e
AreValues n (value_before e rest) = IsValue n e × AreValues n rest

abbrev pub IsInitialiser : ℕ → InitialiserTree → Type 0
IsInitialiser n (single e) = IsValue n e
IsInitialiser n (listed values) = AreValues n values

abbrev pub IsDeclarator : ℕ → DeclaratorTree → Type 0
IsDeclarator n d = (d.name.kind ≡ Name) × Each (IsExpr n) d.sizes × IfThere (IsInitialiser n) d.initial

abbrev pub IsDeclaration : ℕ → DeclarationTree → Type 0
IsDeclaration n d = IsType d.type_name × EachOfSome (IsDeclarator n) d.names
