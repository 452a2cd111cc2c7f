-- The trees of definitions and options: their spelling, and when they are well formed.
use Rattle.std.specs.Prelude.{◌≡◌, ℕ, Bool, true, false, List, [], ◌∷◌, ◌++◌, Option}
use Rattle.snl_text.specs.declared.tokens.Token.{Token}
use Rattle.snl_text.specs.declared.kinds.Kind.{Kind}
use Rattle.snl_text.specs.declared.kinds.Kind.TheVariants.{Name, Whole, Text, Assign, EventFlag, Monitor, OptionWord, Sync, SyncQueue, To, Void, OpenBrace, CloseBrace, Semicolon, Comma, Plus, Minus}
use Rattle.snl_syntax.specs.Slots.{Slot, The, Sign}
use Rattle.snl_syntax.specs.Sequences.{between_slots, maybe_slots, IfThere, sign_slots, parted_slots, EachOfSome}
use Rattle.snl_syntax.specs.Expressions.{ExprTree, IsExpr}
use Rattle.snl_syntax.specs.Declarations.{starts_declaration, DeclarationTree, bracket_slots, declaration_slots, IsDeclaration}
use Rattle.snl_syntax.specs.Functions.{FunctionTree, function_slots, IsFunction}

-- A variable, or an element of one.
pub record PlaceTree : Type 0 where
  pub name : Token
  pub subscript : Option ExprTree

-- The names of channels: one string, or a list of them in braces.
pub data NamesTree : Type 0 where
  one_name : Token → NamesTree
  name_list : List Token → NamesTree

-- What a variable is assigned to, with `to` before it or without.
pub record ChannelsTree : Type 0 where
  pub to : Bool
  pub names : NamesTree

pub record AssignTree : Type 0 where
  pub word : Token
  pub place : PlaceTree
  pub channels : Option ChannelsTree

-- The name of an event flag, with `to` before it or without.
pub record FlagTree : Type 0 where
  pub to : Bool
  pub name : Token

pub record SyncTree : Type 0 where
  pub place : PlaceTree
  pub flag : FlagTree

-- The word is `syncq` or `syncQ`.
pub record QueueTree : Type 0 where
  pub word : Token
  pub place : PlaceTree
  pub flag : Option FlagTree
  pub size : Option Token

pub record SettingTree : Type 0 where
  pub sign : Token
  pub name : Token

-- A definition, or an option or a function among definitions.
pub data DefinitionTree : Type 0 where
  declaration : DeclarationTree → DefinitionTree
  assign : AssignTree → DefinitionTree
  monitor : PlaceTree → DefinitionTree
  sync : SyncTree → DefinitionTree
  sync_queue : QueueTree → DefinitionTree
  event_flags : List Token → DefinitionTree
  setting : SettingTree → DefinitionTree
  function : FunctionTree → DefinitionTree

-- A kind of token that begins a definition.
abbrev pub starts_definition : Kind → Bool
starts_definition Assign = true
starts_definition Monitor = true
starts_definition Sync = true
starts_definition SyncQueue = true
starts_definition EventFlag = true
starts_definition k = starts_declaration k

-- A kind of token that begins a definition or an option.
abbrev pub starts_part : Kind → Bool
starts_part OptionWord = true
starts_part k = starts_definition k

-- A kind of token that begins a definition, an option or a function.
abbrev pub starts_program_part : Kind → Bool
starts_program_part Void = true
starts_program_part k = starts_part k

-- The sign of an option.
abbrev pub is_sign : Kind → Bool
is_sign Plus = true
is_sign Minus = true
is_sign _ = false

-- The spelling.
abbrev pub token_slots : Token → List Slot
token_slots t = The t ∷ []

-- place : NAME [ '[' expr ']' ]
abbrev pub place_slots : PlaceTree → List Slot
place_slots p = The p.name ∷ maybe_slots bracket_slots p.subscript

-- STRING | '{' STRING ( ',' STRING )* '}'
abbrev pub names_slots : NamesTree → List Slot
names_slots (one_name t) = The t ∷ []
names_slots (name_list ts) = between_slots OpenBrace (parted_slots Comma token_slots ts) CloseBrace

-- [ 'to' ] names
abbrev pub channels_slots : ChannelsTree → List Slot
channels_slots c = sign_slots To c.to ++ names_slots c.names

-- assign : 'assign' place [ channels ] ';'
abbrev pub assign_slots : AssignTree → List Slot
assign_slots a = The a.word ∷ (place_slots a.place ++ (maybe_slots channels_slots a.channels ++ Sign Semicolon ∷ []))

-- [ 'to' ] NAME
abbrev pub flag_slots : FlagTree → List Slot
flag_slots f = sign_slots To f.to ++ The f.name ∷ []

-- sync : 'sync' place flag ';'
abbrev pub sync_slots : SyncTree → List Slot
sync_slots s = between_slots Sync (place_slots s.place ++ flag_slots s.flag) Semicolon

-- syncq : ( 'syncq' | 'syncQ' ) place [ flag ] [ WHOLE ] ';'
abbrev pub queue_slots : QueueTree → List Slot
queue_slots q = The q.word ∷ (place_slots q.place ++ (maybe_slots flag_slots q.flag ++ (maybe_slots token_slots q.size ++ Sign Semicolon ∷ [])))

-- option : 'option' ( '+' | '-' ) NAME ';'
abbrev pub setting_slots : SettingTree → List Slot
setting_slots o = Sign OptionWord ∷ The o.sign ∷ The o.name ∷ Sign Semicolon ∷ []

-- def : decl | assign | 'monitor' place ';' | sync | syncq | 'evflag' NAME ( ',' NAME )* ';' | option | fdef
abbrev pub definition_slots : DefinitionTree → List Slot
definition_slots (declaration d) = declaration_slots d
definition_slots (assign a) = assign_slots a
definition_slots (monitor p) = between_slots Monitor (place_slots p) Semicolon
definition_slots (sync s) = sync_slots s
definition_slots (sync_queue q) = queue_slots q
definition_slots (event_flags names) = between_slots EventFlag (parted_slots Comma token_slots names) Semicolon
definition_slots (setting o) = setting_slots o
definition_slots (function f) = function_slots f

-- Well formed, with expressions that are nested at most n deep; the brackets of a place do not count.
abbrev pub IsPlace : ℕ → PlaceTree → Type 0
IsPlace n p = (p.name.kind ≡ Name) × IfThere (IsExpr n) p.subscript

abbrev pub AreNames : NamesTree → Type 0
AreNames (one_name t) = t.kind ≡ Text
AreNames (name_list ts) = EachOfSome (λ t. t.kind ≡ Text) ts

abbrev pub IsAssign : ℕ → AssignTree → Type 0
IsAssign n a = (a.word.kind ≡ Assign) × IsPlace n a.place × IfThere (λ c. AreNames c.names) a.channels

abbrev pub IsSync : ℕ → SyncTree → Type 0
IsSync n s = IsPlace n s.place × (s.flag.name.kind ≡ Name)

abbrev pub IsQueue : ℕ → QueueTree → Type 0
IsQueue n q = (q.word.kind ≡ SyncQueue) × IsPlace n q.place × IfThere (λ f. f.name.kind ≡ Name) q.flag × IfThere (λ t. t.kind ≡ Whole) q.size

abbrev pub IsSetting : SettingTree → Type 0
IsSetting o = (is_sign o.sign.kind ≡ true) × (o.name.kind ≡ Name)

-- a definition that is no option and no function
abbrev pub IsDefinition : ℕ → DefinitionTree → Type 0
IsDefinition n (declaration d) = IsDeclaration n d
IsDefinition n (assign a) = IsAssign n a
IsDefinition n (monitor p) = IsPlace n p
IsDefinition n (sync s) = IsSync n s
IsDefinition n (sync_queue q) = IsQueue n q
IsDefinition n (event_flags names) = EachOfSome (λ t. t.kind ≡ Name) names
IsDefinition n (setting o) = ⊥
IsDefinition n (function f) = ⊥

-- a definition or an option
abbrev pub IsPart : ℕ → DefinitionTree → Type 0
IsPart n (setting o) = IsSetting o
IsPart n d = IsDefinition n d

-- a definition, an option or a function
abbrev pub IsProgramPart : ℕ → DefinitionTree → Type 0
IsProgramPart n (function f) = IsFunction n f
IsProgramPart n d = IsPart n d
