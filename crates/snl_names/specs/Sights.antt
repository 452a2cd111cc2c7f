-- What is in sight at a place.
use Rattle.std.specs.Prelude.{List, [], ◌∷◌, map, Some, length, is_some}
use Rattle.snl_text.specs.declared.tokens.Token.{Token}
use Rattle.snl_syntax.specs.Definitions.{DefinitionTree, function}
use Rattle.snl_syntax.specs.Functions.{ParameterTree, FunctionTree}
use Rattle.snl_names.specs.declared.calls.CallKind.{CallKind}
use Rattle.snl_names.specs.declared.calls.Heading.{Heading}
use Rattle.snl_names.specs.declared.sites.Size.TheVariants.{Scalar}
use Rattle.snl_names.specs.Calls.{call_kind}
use Rattle.snl_names.specs.Scopes.{Scope}

-- What is in sight: the scopes round the place, innermost first, and the functions that may be called there, in the order of the source.
pub record Sight : Type 0 where
  pub scopes : List Scope
  pub functions : List Heading

-- With these scopes and these functions.
abbrev pub with_functions : List Scope → List Heading → Sight
with_functions scopes functions = record { scopes = scopes; functions = functions }

-- Within one scope more.
abbrev pub within : Scope → Sight → Sight
within scope s = record s { scopes = scope ∷ s.scopes }

-- What a call of a name calls.
abbrev pub called : Sight → Token → CallKind
called s f = call_kind s.functions f.text.now

-- What calls see of a function.
abbrev pub heading_of : FunctionTree → Heading
heading_of f = record { name = f.name; parameters = length f.parameters.each; has_value = is_some f.type_name }

-- That of a definition, if it is a function.
abbrev pub headings_by : DefinitionTree → List Heading
headings_by (function f) = heading_of f ∷ []
headings_by _ = []

-- What parameters declare: variables without a size.
abbrev pub parameters_of : List ParameterTree → Scope
parameters_of ps = map (λ p. record { name = p.name; size = Some Scalar }) ps

-- The same of a function.
abbrev pub parameter_scope : FunctionTree → Scope
parameter_scope f = parameters_of f.parameters.each
