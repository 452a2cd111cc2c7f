-- What code does with variables, which functions it calls and where it leads, by the names in it.
use Rattle.std.specs.Prelude.{List, [], ◌∷◌, ◌++◌, map, Option, None, Some, if◌then◌else◌}
use Rattle.std.specs.List.{flat_map}
use Rattle.snl_text.specs.declared.tokens.Token.{Token}
use Rattle.snl_text.specs.declared.kinds.Kind.{Kind}
use Rattle.snl_syntax.specs.Expressions.{ExprTree, TermList, ArgumentList, constant, parenthesized, named, element, call, postfix, prefix, chain, conditional, assignment, no_terms, term, no_arguments, value, text}
use Rattle.snl_syntax.specs.Statements.{StatementTree, StatementList, BlockTree, Header, nested, expression, change_state, return_with, if_then, if_else, while_loop, for_loop, no_statements, statement, block}
use Rattle.snl_syntax.specs.Declarations.{ValueList, InitialiserTree, DeclaratorTree, DeclarationTree, no_values, last_value, value_before, single, listed}
use Rattle.snl_syntax.specs.Functions.{FunctionTree}
use Rattle.snl_syntax.specs.Programs.{TargetTree, to_state, to_exit, ClauseTree, StateTree, StateSetTree}
use Rattle.snl_names.specs.declared.builtins.Builtin.{Builtin}
use Rattle.snl_names.specs.declared.builtins.Builtin.TheVariants.{Ask}
use Rattle.snl_names.specs.declared.builtins.Query.TheVariants.{PvGet, PvGetQ}
use Rattle.snl_names.specs.Builtins.{builtin_of}
use Rattle.snl_names.specs.Purposes.{is_step}
use Rattle.snl_copies.specs.declared.touches.Role.{Role}
use Rattle.snl_copies.specs.declared.touches.Role.TheVariants.{Value, Target, Handle}
use Rattle.snl_copies.specs.declared.touches.Touch.{Touch}
use Rattle.snl_copies.specs.declared.touches.Touch.TheVariants.{Reads, Writes, Begins, Calls, Leads}

-- ---- names in expressions

-- By what it stands for a name reads its variable, writes it, or does neither.
abbrev pub at_name : Role → Token → List Touch
at_name Value x = Reads x ∷ []
at_name Target x = Writes x ∷ []
at_name Handle x = []

-- What the arguments of a call are: `pvGet` and `pvGetQ` store into theirs, the other calls that ask something take a
-- channel, a queue or an event flag, and the rest take values, as the program's own functions do.
abbrev pub role_in : Option Builtin → Role
role_in (Some (Ask PvGet)) = Target
role_in (Some (Ask PvGetQ)) = Target
role_in (Some (Ask query)) = Handle
role_in b = Value

-- A function that is not built in is one of the program's.
abbrev pub at_call : Option Builtin → Token → List Touch
at_call None f = Calls f ∷ []
at_call (Some b) f = []

-- What stands behind a prefix operator: `++` and `--` store.
abbrev pub role_under : Kind → Role
role_under k = if is_step k then Target else Value

-- In an expression that stands for this.
abbrev mutual
  pub in_expression : Role → ExprTree → List Touch
  in_expression r (constant t) = []
  in_expression r (parenthesized e) = in_expression r e
  in_expression r (named x) = at_name r x
  in_expression r (element x b e) = at_name r x ++ in_expression Value e
  in_expression r (call f all) = at_call (builtin_of f.text.now) f ++ in_arguments (role_in (builtin_of f.text.now)) all
  in_expression r (postfix e op) = in_expression Target e
  in_expression r (prefix op e) = in_expression (role_under op.kind) e
  in_expression r (chain e rest) = in_expression Value e ++ in_terms rest
  in_expression r (conditional c a b) = in_expression Value c ++ in_expression Value a ++ in_expression Value b
  in_expression r (assignment e op f) = in_expression Target e ++ in_expression Value f

  -- operators with their operands
  pub in_terms : TermList → List Touch
  in_terms no_terms = []
  in_terms (term op e rest) = in_expression Value e ++ in_terms rest

  -- the arguments of a call
  pub in_arguments : Role → ArgumentList → List Touch
  in_arguments r no_arguments = []
  in_arguments r (value e rest) = in_expression r e ++ in_arguments r rest
  in_arguments r (text t rest) = in_arguments r rest

-- Of what may be missing.
abbrev pub if_there : {A : Type 0} → (A → List Touch) → Option A → List Touch
if_there f None = []
if_there f (Some x) = f x

-- An expression that gives a value.
abbrev pub in_value : ExprTree → List Touch
in_value e = in_expression Value e

-- ---- statements

-- The values of a list in braces.
abbrev pub in_values : ValueList → List Touch
in_values no_values = []
in_values (last_value e) = in_value e
in_values (value_before e rest) = in_value e ++ in_values rest

-- An initialiser.
abbrev pub in_initialiser : InitialiserTree → List Touch
in_initialiser (single e) = in_value e
in_initialiser (listed values) = in_values values

-- A variable of a block begins each time that the block is entered. Its sizes are constants.
abbrev pub in_declarator : DeclaratorTree → List Touch
in_declarator d = Begins d.name ∷ if_there in_initialiser d.initial

-- A declaration of a block.
abbrev pub in_declaration : DeclarationTree → List Touch
in_declaration d = flat_map in_declarator d.names

-- Between the parentheses of a `for`.
abbrev pub in_header : Header → List Touch
in_header h = if_there in_value h.start ++ if_there in_value h.condition ++ if_there in_value h.step

-- In a statement, also where it is never done.
abbrev mutual
  pub in_statement : StatementTree → List Touch
  in_statement (nested b) = in_block b
  in_statement (expression e) = in_value e
  in_statement (change_state t x) = Leads x ∷ []
  in_statement (return_with t e) = if_there in_value e
  in_statement (if_then e a) = in_value e ++ in_statement a
  in_statement (if_else e a b) = in_value e ++ in_statement a ++ in_statement b
  in_statement (while_loop t e a) = in_value e ++ in_statement a
  in_statement (for_loop t h a) = in_header h ++ in_statement a
  in_statement _ = []

  -- statements, one after the other
  pub in_statements : StatementList → List Touch
  in_statements no_statements = []
  in_statements (statement a rest) = in_statement a ++ in_statements rest

  -- a block
  pub in_block : BlockTree → List Touch
  in_block (block declared all) = flat_map in_declaration declared ++ in_statements all

-- ---- functions, clauses and states

-- A function: a call begins its parameters, and does its body.
abbrev pub in_function : FunctionTree → List Touch
in_function f = map (λ p. Begins p.name) f.parameters.each ++ in_block f.body

-- Where a clause leads. An `exit` names no state.
abbrev pub at_target : TargetTree → List Touch
at_target (to_state x) = Leads x ∷ []
at_target to_exit = []

-- A clause: its condition, its block, its target.
abbrev pub in_clause : ClauseTree → List Touch
in_clause c = if_there in_value c.condition ++ in_block c.block ++ at_target c.target

-- A state. Its definitions have constants alone.
abbrev pub in_state : StateTree → List Touch
in_state s = if_there in_block s.entry ++ flat_map in_clause s.clauses ++ if_there in_block s.exit

-- A state set: its states.
abbrev pub in_state_set : StateSetTree → List Touch
in_state_set g = flat_map in_state g.states
