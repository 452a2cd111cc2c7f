-- Names, and what they mean.
use Rattle.std.specs.Prelude.{◌≡◌, ℕ, pos, Bool, true, false, ◌==◌, nat_eq, nat_le, List, [], ◌∷◌, ◌++◌, map, Option, Some, None, is_some, if◌then◌else◌}
use Rattle.std.specs.List.{AllByRecursion, flat_map}
use Rattle.std.specs.Cmp.Lexicographic.{pointwise}
use Rattle.snl_text.specs.declared.tokens.Token.{Token}
use Rattle.snl_syntax.specs.Expressions.{ExprTree}
use Rattle.snl_syntax.specs.Declarations.{DeclaratorTree}
use Rattle.snl_syntax.specs.Definitions.{DefinitionTree, declaration, event_flags}
use Rattle.snl_names.specs.declared.constants.Constant.{Constant}
use Rattle.snl_names.specs.declared.constants.Constant.TheVariants.{Worth}
use Rattle.snl_names.specs.declared.scopes.Declared.{Declared}
use Rattle.snl_names.specs.declared.sites.Size.{Size}
use Rattle.snl_names.specs.declared.sites.Size.TheVariants.{Scalar, Array, TooLong, Wrong}
use Rattle.snl_names.specs.declared.sites.Meaning.{Meaning}
use Rattle.snl_names.specs.declared.sites.Meaning.TheVariants.{Variable, Flag, Number, Nothing}
use Rattle.snl_names.specs.Constants.{constant_of, predefined}

-- What a scope declares, in the order of the source. A declared name without a size is an event flag.
abbrev pub Scope : Type 0
Scope = List Declared

-- The name is spelled so.
abbrev pub is_spelled : List ℕ → Token → Bool
is_spelled name t = pointwise nat_eq name t.text.now

-- The first declaration of a name in a scope.
abbrev pub first_of : List ℕ → Scope → Option Declared
first_of name [] = None
first_of name (d ∷ ds) = if is_spelled name d.name then Some d else first_of name ds

-- The first, and where it is missing the other.
abbrev pub or_in : {A : Type 0} → Option A → Option A → Option A
or_in None other = other
or_in (Some x) other = Some x

-- What a name is bound to: its first declaration in the innermost of the scopes that declares it. The scopes stand
-- innermost first.
abbrev pub bound : List Scope → List ℕ → Option Declared
bound [] name = None
bound (scope ∷ outer) name = or_in (first_of name scope) (bound outer name)

-- A name of these scopes, and so no predefined one.
abbrev pub is_hidden : List Scope → List ℕ → Bool
is_hidden scopes name = is_some (bound scopes name)

-- What a declared name means: without a size it is an event flag.
abbrev pub declared_as : Option Size → Token → Meaning
declared_as None t = Flag t.pos
declared_as (Some size) t = Variable t.pos size

-- What a name means by its declaration; where there is none, a predefined name stands for a number.
abbrev pub meaning_by : Option Declared → Bool → Meaning
meaning_by (Some d) is_number = declared_as d.size d.name
meaning_by None is_number = if is_number then Number else Nothing

-- What a name means. The predefined names stand outside of all scopes.
abbrev pub meaning : List Scope → Token → Meaning
meaning scopes t = meaning_by (bound scopes t.text.now) (is_some (predefined t.text.now))

-- One dimension, which is a constant of 1 to 1,024.
abbrev pub size_by : Constant → Size
size_by (Worth (pos n)) = if n == 0 then Wrong else (if nat_le n 1024 then Array n else TooLong)
size_by _ = Wrong

-- What the sizes after a declared name say: none is a scalar, and more than one is wrong.
abbrev pub size_of : (List ℕ → Bool) → List ExprTree → Size
size_of h [] = Scalar
size_of h (e ∷ []) = size_by (constant_of h e)
size_of h (e ∷ f ∷ more) = Wrong

-- How many elements a variable has. An array whose size is refused counts as one of 1,024.
abbrev pub elements : Size → ℕ
elements Scalar = 1
elements (Array n) = n
elements _ = 1024

-- An array, also one whose size is refused.
abbrev pub is_array : Size → Bool
is_array Scalar = false
is_array _ = true

-- The names that a definition declares.
abbrev pub names_by : DefinitionTree → List Token
names_by (declaration d) = map (λ n. n.name) d.names
names_by (event_flags names) = names
names_by _ = []

-- A name without a size.
abbrev pub bare : Token → Declared
bare t = record { name = t; size = None }

-- A declared name with its size, where a test tells which names are hidden.
abbrev pub declared_name : (List ℕ → Bool) → DeclaratorTree → Declared
declared_name h n = record { name = n.name; size = Some (size_of h n.sizes) }

-- The same of several names.
abbrev pub declared_names : (List ℕ → Bool) → List DeclaratorTree → Scope
declared_names h names = map (declared_name h) names

-- What a definition declares.
abbrev pub declared_by : (List ℕ → Bool) → DefinitionTree → Scope
declared_by h (declaration d) = declared_names h d.names
declared_by h (event_flags names) = map bare names
declared_by h _ = []

-- The names of some definitions, without their sizes.
abbrev pub bare_names : List DefinitionTree → Scope
bare_names defs = map bare (flat_map names_by defs)

-- The scope of some definitions within others. In its sizes its own names hide the predefined ones too.
abbrev pub scope_of : List Scope → List DefinitionTree → Scope
scope_of outer defs = flat_map (declared_by (is_hidden (bare_names defs ∷ outer))) defs

-- A declaration of another name.
abbrev pub IsOther : List ℕ → Declared → Type 0
IsOther name d = d.name.text.now ≡ name → ⊥

-- Binding, as a relation. Within these scopes, innermost first, the name means the declaration d: d stands in one of
-- them, is the first there of its name, and no scope further in declares the name.
pub record Means (scopes : List Scope) (name : List ℕ) (d : Declared) : Type 0 where
  pub inner : List Scope
  pub outer : List Scope
  pub before : Scope
  pub after : Scope
  pub stands : scopes ≡ inner ++ (before ++ d ∷ after) ∷ outer
  pub named : d.name.text.now ≡ name
  pub first : AllByRecursion (IsOther name) before
  pub innermost : AllByRecursion (AllByRecursion (IsOther name)) inner
