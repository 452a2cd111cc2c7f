-- The variables that the copy of a state set holds, and those of functions, which all state sets share.
use Rattle.std.specs.Prelude.{ℕ, ℤ, ◌==◌, List, [], ◌∷◌, ◌++◌, map, slice_get, Option, None, Some, if◌then◌else◌}
use Rattle.std.specs.List.{flat_map}
use Rattle.snl_text.specs.declared.tokens.Token.{Token}
use Rattle.snl_syntax.specs.Statements.{StatementTree, StatementList, BlockTree, nested, if_then, if_else, while_loop, for_loop, no_statements, statement, block}
use Rattle.snl_syntax.specs.Declarations.{TypeTree, InitialiserTree, DeclaratorTree, DeclarationTree}
use Rattle.snl_syntax.specs.Definitions.{DefinitionTree, declaration, function}
use Rattle.snl_syntax.specs.Functions.{ParameterTree, FunctionTree}
use Rattle.snl_names.specs.declared.sites.Size.TheVariants.{Scalar}
use Rattle.snl_names.specs.Sights.{parameter_scope}
use Rattle.snl_syntax.specs.Programs.{ClauseTree, StateTree, StateSetTree, ProgramTree}
use Rattle.snl_names.specs.declared.sites.Size.{Size}
use Rattle.snl_names.specs.Programs.{program_scopes}
use Rattle.snl_names.specs.Scopes.{Scope, scope_of, is_hidden, size_of}
use Rattle.snl_names.specs.Types.{range_of, range_or_long}

-- A variable: its name with the place of its declaration, the numbers of its type, its size, and what it begins with.
pub record CopyVariable : Type 0 where
  pub name : Token
  pub range : ℤ × ℤ
  pub size : Size
  pub initial : Option InitialiserTree

-- The variable of a declared name of this type.
abbrev pub held_for : List Scope → TypeTree → DeclaratorTree → CopyVariable
held_for s type d = record { name = d.name; range = range_or_long (range_of type); size = size_of (is_hidden s) d.sizes; initial = d.initial }

-- The variables of a declaration.
abbrev pub by_declaration : List Scope → DeclarationTree → List CopyVariable
by_declaration s d = map (held_for s d.type_name) d.names

-- The variables of a definition: only declarations have some.
abbrev pub by_definition : List Scope → DefinitionTree → List CopyVariable
by_definition s (declaration d) = by_declaration s d
by_definition s _ = []

-- The variables of definitions, within their own scope.
abbrev pub by_definitions : List Scope → List DefinitionTree → List CopyVariable
by_definitions outer defs = flat_map (by_definition (scope_of outer defs ∷ outer)) defs

-- The variables of the blocks in a statement.
abbrev mutual
  pub by_statement : List Scope → StatementTree → List CopyVariable
  by_statement s (nested b) = by_block s b
  by_statement s (if_then e a) = by_statement s a
  by_statement s (if_else e a b) = by_statement s a ++ by_statement s b
  by_statement s (while_loop t e a) = by_statement s a
  by_statement s (for_loop t h a) = by_statement s a
  by_statement s _ = []

  -- statements, one after the other
  pub by_statements : List Scope → StatementList → List CopyVariable
  by_statements s no_statements = []
  by_statements s (statement a rest) = by_statement s a ++ by_statements s rest

  -- a block is a scope of its own
  pub by_block : List Scope → BlockTree → List CopyVariable
  by_block s (block ds all) =
      flat_map (by_declaration (scope_of s (map declaration ds) ∷ s)) ds ++ by_statements (scope_of s (map declaration ds) ∷ s) all

-- The variables of a block that may be missing.
abbrev pub by_maybe : List Scope → Option BlockTree → List CopyVariable
by_maybe s None = []
by_maybe s (Some b) = by_block s b

-- The variable of a parameter.
abbrev pub held_parameter : ParameterTree → CopyVariable
held_parameter p = record { name = p.name; range = range_or_long (range_of p.type_name); size = Scalar; initial = None }

-- The variables of a function: its parameters, and those of its body.
abbrev pub by_function : List Scope → FunctionTree → List CopyVariable
by_function s f = map held_parameter f.parameters.each ++ by_block (parameter_scope f ∷ s) f.body

-- The function that a definition is, if it is one.
abbrev pub function_by : DefinitionTree → List FunctionTree
function_by (function f) = f ∷ []
function_by _ = []

-- The functions of a program, in the order of the source.
abbrev pub functions_of : ProgramTree → List FunctionTree
functions_of p = flat_map function_by p.definitions

-- The variables that all state sets share: those of the functions.
abbrev pub shared_variables : ProgramTree → List CopyVariable
shared_variables p = flat_map (by_function (program_scopes p)) (functions_of p)

-- The variables of a clause are those of its block.
abbrev pub by_clause : List Scope → ClauseTree → List CopyVariable
by_clause s c = by_block s c.block

-- The variables of the blocks of a state, within its own scope.
abbrev pub by_blocks : List Scope → Option BlockTree → List ClauseTree → Option BlockTree → List CopyVariable
by_blocks s entry clauses exit = by_maybe s entry ++ flat_map (by_clause s) clauses ++ by_maybe s exit

-- The variables of a state: of its definitions, then of its blocks.
abbrev pub by_state : List Scope → StateTree → List CopyVariable
by_state outer s =
    by_definitions outer s.definitions ++ by_maybe (scope_of outer s.definitions ∷ outer) s.entry
    ++ flat_map (by_clause (scope_of outer s.definitions ∷ outer)) s.clauses
    ++ by_maybe (scope_of outer s.definitions ∷ outer) s.exit

-- The variables of a state set: of its definitions, then of its states.
abbrev pub by_state_set : List Scope → StateSetTree → List CopyVariable
by_state_set outer g = by_definitions outer g.definitions ++ flat_map (by_state (scope_of outer g.definitions ∷ outer)) g.states

-- The same of a state set, if there is one.
abbrev pub by_numbered : List Scope → Option StateSetTree → List CopyVariable
by_numbered outer None = []
by_numbered outer (Some g) = by_state_set outer g

-- A block of the program, for the first state set alone.
abbrev pub for_first : ℕ → List Scope → Option BlockTree → List CopyVariable
for_first set s b = if set == 0 then by_maybe s b else []

-- The variables of the program's blocks and of one state set, within the program's scope.
abbrev pub by_parts : List Scope → ℕ → Option BlockTree → List StateSetTree → Option BlockTree → List CopyVariable
by_parts s set entry sets exit = for_first set s entry ++ by_numbered s (slice_get sets set) ++ for_first set s exit

-- All variables that the copy of a state set holds, in the order of the source: those of the program's definitions, and
-- of the state set's own with its states and blocks. The first copy holds those of the program's own two blocks too.
abbrev pub variables_of : ProgramTree → ℕ → List CopyVariable
variables_of p set =
    by_definitions [] p.definitions ++ for_first set (program_scopes p) p.entry
    ++ by_numbered (program_scopes p) (slice_get p.state_sets set) ++ for_first set (program_scopes p) p.exit
