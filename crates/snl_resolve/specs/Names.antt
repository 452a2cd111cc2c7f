-- The names that a program uses, each with the scopes round it, innermost first.
use Rattle.std.specs.Prelude.{ℕ, ◌-◌, ◌==◌, List, [], ◌∷◌, ◌++◌, map, Option, None, Some, if◌then◌else◌}
use Rattle.std.specs.List.{flat_map}
use Rattle.snl_text.specs.declared.tokens.Pos.{Pos}
use Rattle.snl_text.specs.declared.tokens.Token.{Token}
use Rattle.snl_syntax.specs.Expressions.{ExprTree, TermList, ArgumentList, constant, parenthesized, named, element, call, postfix, prefix, chain, conditional, assignment, no_terms, term, no_arguments, value, text}
use Rattle.snl_syntax.specs.Declarations.{ValueList, no_values, last_value, value_before, InitialiserTree, single, listed, DeclaratorTree, DeclarationTree}
use Rattle.snl_syntax.specs.Statements.{StatementTree, StatementList, BlockTree, Header, nested, empty, expression, break_loop, continue_loop, change_state, return_with, if_then, if_else, while_loop, for_loop, no_statements, statement, block}
use Rattle.snl_syntax.specs.Definitions.{PlaceTree, FlagTree, DefinitionTree, declaration, assign, monitor, sync, sync_queue, event_flags, setting, function}
use Rattle.snl_syntax.specs.Programs.{ClauseTree, StateTree, StateSetTree, ProgramTree}
use Rattle.snl_names.specs.Builtins.{builtin_of}
use Rattle.snl_names.specs.Calls.{word_at, is_word, unless}
use Rattle.snl_names.specs.Scopes.{Scope, scope_of, meaning}
use Rattle.snl_names.specs.Sights.{parameter_scope}
use Rattle.snl_names.specs.Programs.{program_scopes}
use Rattle.snl_names.specs.Uses.{declared_pos}

-- A name, with the scopes round it.
abbrev pub Placed : Type 0
Placed = List Scope × Token

-- The names of variables and event flags in an expression; that of a called function is none.
abbrev mutual
  pub in_expression : List Scope → ExprTree → List Placed
  in_expression s (constant t) = []
  in_expression s (parenthesized e) = in_expression s e
  in_expression s (named x) = (s, x) ∷ []
  in_expression s (element x b e) = (s, x) ∷ in_expression s e
  in_expression s (call f all) = in_arguments s (word_at (builtin_of f.text.now)) all
  in_expression s (postfix e op) = in_expression s e
  in_expression s (prefix op e) = in_expression s e
  in_expression s (chain e rest) = in_expression s e ++ in_terms s rest
  in_expression s (conditional c a b) = in_expression s c ++ in_expression s a ++ in_expression s b
  in_expression s (assignment e op f) = in_expression s e ++ in_expression s f

  -- operators with their operands
  pub in_terms : List Scope → TermList → List Placed
  in_terms s no_terms = []
  in_terms s (term op e rest) = in_expression s e ++ in_terms s rest

  -- arguments, so many up to the one that may be the word `ASYNC`; that word and a string have no names
  pub in_arguments : List Scope → ℕ → ArgumentList → List Placed
  in_arguments s k no_arguments = []
  in_arguments s k (value e rest) = unless (is_word k e) (in_expression s e) ++ in_arguments s (k - 1) rest
  in_arguments s k (text t rest) = in_arguments s (k - 1) rest

-- The names in what may be missing.
abbrev pub if_there : {A B : Type 0} → (A → List B) → Option A → List B
if_there f None = []
if_there f (Some x) = f x

-- In the values of a list in braces.
abbrev pub in_values : List Scope → ValueList → List Placed
in_values s no_values = []
in_values s (last_value e) = in_expression s e
in_values s (value_before e rest) = in_expression s e ++ in_values s rest

-- In an initialiser.
abbrev pub in_initialiser : List Scope → InitialiserTree → List Placed
in_initialiser s (single e) = in_expression s e
in_initialiser s (listed values) = in_values s values

-- In the sizes and the initialiser of a declared name.
abbrev pub in_declarator : List Scope → DeclaratorTree → List Placed
in_declarator s d = flat_map (in_expression s) d.sizes ++ if_there (in_initialiser s) d.initial

-- In a declaration. Its own names are declared there, and not used.
abbrev pub in_declaration : List Scope → DeclarationTree → List Placed
in_declaration s d = flat_map (in_declarator s) d.names

-- Between the parentheses of a `for`.
abbrev pub in_header : List Scope → Header → List Placed
in_header s h = if_there (in_expression s) h.start ++ if_there (in_expression s) h.condition ++ if_there (in_expression s) h.step

abbrev mutual
  pub in_statement : List Scope → StatementTree → List Placed
  in_statement s (nested b) = in_block s b
  in_statement s empty = []
  in_statement s (expression e) = in_expression s e
  in_statement s (break_loop t) = []
  in_statement s (continue_loop t) = []
  in_statement s (change_state t x) = []
  in_statement s (return_with t e) = if_there (in_expression s) e
  in_statement s (if_then e a) = in_expression s e ++ in_statement s a
  in_statement s (if_else e a b) = in_expression s e ++ in_statement s a ++ in_statement s b
  in_statement s (while_loop t e a) = in_expression s e ++ in_statement s a
  in_statement s (for_loop t h a) = in_header s h ++ in_statement s a

  -- statements, one after the other
  pub in_statements : List Scope → StatementList → List Placed
  in_statements s no_statements = []
  in_statements s (statement a rest) = in_statement s a ++ in_statements s rest

  -- what a block declares stands round all that is in it
  pub in_block : List Scope → BlockTree → List Placed
  in_block s (block ds all) =
      flat_map (in_declaration (scope_of s (map declaration ds) ∷ s)) ds ++ in_statements (scope_of s (map declaration ds) ∷ s) all

-- The name that a definition speaks of, and those in its subscript.
abbrev pub in_place : List Scope → PlaceTree → List Placed
in_place s p = (s, p.name) ∷ if_there (in_expression s) p.subscript

-- The event flag of a `sync` or `syncQ`.
abbrev pub in_flag : List Scope → FlagTree → List Placed
in_flag s f = (s, f.name) ∷ []

-- In a definition.
abbrev pub in_definition : List Scope → DefinitionTree → List Placed
in_definition s (declaration d) = in_declaration s d
in_definition s (assign a) = in_place s a.place
in_definition s (monitor p) = in_place s p
in_definition s (sync y) = in_place s y.place ++ in_flag s y.flag
in_definition s (sync_queue q) = in_place s q.place ++ if_there (in_flag s) q.flag
in_definition s (event_flags names) = []
in_definition s (setting o) = []
in_definition s (function f) = []

-- In a definition of the program: the parameters of a function stand round its body.
abbrev pub in_program_part : List Scope → DefinitionTree → List Placed
in_program_part s (function f) = in_block (parameter_scope f ∷ s) f.body
in_program_part s d = in_definition s d

-- The same of definitions, whose own scope stands round them too.
abbrev pub in_definitions : List Scope → List DefinitionTree → List Placed
in_definitions outer defs = flat_map (in_definition (scope_of outer defs ∷ outer)) defs

-- In a clause: its condition, then its block. The states that it names are none of these.
abbrev pub in_clause : List Scope → ClauseTree → List Placed
in_clause s c = if_there (in_expression s) c.condition ++ in_block s c.block

-- In a state, whose own definitions stand round all that is in it.
abbrev pub in_state : List Scope → StateTree → List Placed
in_state outer s =
    in_definitions outer s.definitions ++ if_there (in_block (scope_of outer s.definitions ∷ outer)) s.entry
    ++ flat_map (in_clause (scope_of outer s.definitions ∷ outer)) s.clauses
    ++ if_there (in_block (scope_of outer s.definitions ∷ outer)) s.exit

-- In a state set, whose own definitions stand round its states.
abbrev pub in_state_set : List Scope → StateSetTree → List Placed
in_state_set outer g = in_definitions outer g.definitions ++ flat_map (in_state (scope_of outer g.definitions ∷ outer)) g.states

-- All of a program, in the order of the source.
abbrev pub names_of : ProgramTree → List Placed
names_of p =
    flat_map (in_program_part (program_scopes p)) p.definitions ++ if_there (in_block (program_scopes p)) p.entry
    ++ flat_map (in_state_set (program_scopes p)) p.state_sets ++ if_there (in_block (program_scopes p)) p.exit

-- What the first of some names at an offset means, by the place of the declaration.
abbrev pub meant_at : ℕ → List Placed → Option Pos
meant_at offset [] = None
meant_at offset (n ∷ rest) = if n.1.pos.offset == offset then declared_pos (meaning n.0 n.1) else meant_at offset rest
