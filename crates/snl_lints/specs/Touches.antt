-- What a program does, in the order of the source: with its variables, name by name, and what it computes of constants. A name means the
-- declaration that `declared` gives for its offset.
use Rattle.std.specs.Prelude.{ℕ, ℤ, Bool, true, false, ◌&&◌, ◌||◌, List, [], ◌∷◌, ◌++◌, map, Option, None, Some, is_some, nat_lt, length, if◌then◌else◌}
use Rattle.std.specs.List.{flat_map, list_any}
use Rattle.snl_text.specs.declared.tokens.Pos.{Pos}
use Rattle.snl_text.specs.declared.tokens.Token.{Token}
use Rattle.snl_text.specs.declared.kinds.Kind.{Kind}
use Rattle.snl_text.specs.declared.kinds.Kind.TheVariants as kind
use Rattle.snl_syntax.specs.Kinds.{is}
use Rattle.snl_syntax.specs.Expressions.{ExprTree, TermList, ArgumentList, constant, parenthesized, named, element, call, postfix, prefix, chain, conditional, assignment, no_terms, term, no_arguments, value, text}
use Rattle.snl_syntax.specs.Statements.{StatementTree, StatementList, BlockTree, Header, nested, expression, return_with, if_then, if_else, while_loop, for_loop, no_statements, statement, block}
use Rattle.snl_syntax.specs.Declarations.{TypeTree, ValueList, InitialiserTree, DeclaratorTree, DeclarationTree, no_values, last_value, value_before, single, listed}
use Rattle.snl_syntax.specs.Definitions.{NamesTree, one_name, name_list, ChannelsTree, FlagTree, DefinitionTree, declaration, assign, monitor, sync, sync_queue, function}
use Rattle.snl_syntax.specs.Functions.{ParameterTree, FunctionTree}
use Rattle.snl_syntax.specs.Programs.{TargetTree, to_state, to_exit, ClauseTree, StateTree, StateSetTree, ProgramTree}
use Rattle.snl_names.specs.declared.builtins.Builtin.{Builtin}
use Rattle.snl_names.specs.declared.builtins.Builtin.TheVariants.{PvPut, Ask}
use Rattle.snl_names.specs.declared.constants.Constant.{Constant}
use Rattle.snl_names.specs.declared.constants.Constant.TheVariants.{Worth}
use Rattle.snl_names.specs.declared.sites.Size.TheVariants.{Scalar}
use Rattle.snl_names.specs.Builtins.{builtin_of}
use Rattle.snl_names.specs.Calls.{has_async}
use Rattle.snl_names.specs.Constants.{joined}
use Rattle.snl_names.specs.Options.{sign_in_force}
use Rattle.snl_names.specs.Purposes.{is_step}
use Rattle.snl_names.specs.Scopes.{is_spelled}
use Rattle.snl_names.specs.Types.{range_of}
use Rattle.snl_lints.specs.declared.touches.ValueDomain.{ValueDomain}
use Rattle.snl_lints.specs.declared.touches.Role.{Role}
use Rattle.snl_lints.specs.declared.touches.Role.TheVariants.{Value, Condition, Target, Put, Asked}
use Rattle.snl_lints.specs.declared.touches.Touch.{Touch}
use Rattle.snl_lints.specs.declared.touches.Touch.TheVariants.{Declares, Assigns, Monitors, Flags, Reads, Sets, Puts, Asks, Equals, Comma, Returns, Holds, Names, Faults, Lacks, Stores, Picks}
use Rattle.snl_lints.specs.Constants.{worth_of, faults_between, faults_before, faults_assigned, size_of, lacks_initial}

-- ---- names and signs in expressions

-- By what it stands for a name reads its variable, sets it, puts it or asks of it.
abbrev pub at_name : Role → Token → List Touch
at_name Value x = Reads x ∷ []
at_name Condition x = Reads x ∷ []
at_name Target x = Sets x ∷ []
at_name (Put async) x = Puts x async ∷ []
at_name (Asked query) x = Asks query x ∷ []

-- The word `ASYNC` stands behind the first argument.
abbrev pub is_async_put : ArgumentList → Bool
is_async_put (value e rest) = has_async rest
is_async_put all = false

-- What the arguments of a call are: `pvPut` puts, the functions that ask take a channel, a queue or an event flag, and the rest take
-- values, as the program's own functions do.
abbrev pub role_in : Option Builtin → ArgumentList → Role
role_in (Some PvPut) all = Put (is_async_put all)
role_in (Some (Ask query)) all = Asked query
role_in b all = Value

-- What stands behind a prefix operator: `++` and `--` set.
abbrev pub role_under : Kind → Role
role_under k = if is_step k then Target else Value

-- A condition in parentheses of its own is a value: whoever writes them means what stands there.
abbrev pub in_parentheses : Role → Role
in_parentheses Condition = Value
in_parentheses r = r

-- A condition that is an assignment, at its operator.
abbrev pub at_assignment : Role → Token → List Touch
at_assignment Condition op = Equals op ∷ []
at_assignment r op = []

-- A comma.
abbrev pub when_comma : Token → List Touch
when_comma op = if is kind.Comma op.kind then Comma op ∷ [] else []

-- The first operator of a chain, if it is a comma: all others are commas too then.
abbrev pub first_comma : TermList → List Touch
first_comma no_terms = []
first_comma (term op e rest) = when_comma op

-- A condition that is `a, b`, at its first comma.
abbrev pub at_comma : Role → TermList → List Touch
at_comma Condition all = first_comma all
at_comma r all = []

-- ---- constants in expressions

-- At an operator, where it faults.
abbrev pub when_faulting : Bool → Token → List Touch
when_faulting test op = if test then Faults op ∷ [] else []

-- A constant subscript of a name.
abbrev pub at_subscript : Token → Constant → List Touch
at_subscript x (Worth z) = Picks x z ∷ []
at_subscript x c = []

-- The variable that an assignment sets, by its name.
abbrev pub target_name : ExprTree → Option Token
target_name (parenthesized e) = target_name e
target_name (named x) = Some x
target_name (element x b e) = Some x
target_name e = None

-- A number that is given to a variable.
abbrev pub stored_in : Option Token → ℤ → List Touch
stored_in None z = []
stored_in (Some x) z = Stores x z ∷ []

-- A constant that `=` gives to a variable.
abbrev pub at_stored : ExprTree → Kind → Constant → List Touch
at_stored e kind.Equal (Worth z) = stored_in (target_name e) z
at_stored e k c = []

-- ---- expressions

-- In an expression that stands for this.
abbrev mutual
  pub in_expression : (ℕ → Option Pos) → Role → ExprTree → List Touch
  in_expression declared r (constant t) = []
  in_expression declared r (parenthesized e) = in_expression declared (in_parentheses r) e
  in_expression declared r (named x) = at_name r x
  in_expression declared r (element x b e) = at_name r x ++ at_subscript x (worth_of declared e) ++ in_expression declared Value e
  in_expression declared r (call f all) = in_arguments declared (role_in (builtin_of f.text.now) all) all
  in_expression declared r (postfix e op) = in_expression declared Target e
  in_expression declared r (prefix op e) = when_faulting (faults_before op.kind (worth_of declared e)) op ++ in_expression declared (role_under op.kind) e
  in_expression declared r (chain e rest) = in_expression declared Value e ++ (at_comma r rest ++ in_terms declared (worth_of declared e) rest)
  in_expression declared r (conditional c a b) = in_expression declared Value c ++ in_expression declared Value a ++ in_expression declared Value b
  in_expression declared r (assignment e op f) =
      at_stored e op.kind (worth_of declared f) ++ in_expression declared Target e
      ++ when_faulting (faults_assigned op.kind (worth_of declared f)) op ++ at_assignment r op ++ in_expression declared Value f

  -- operators with their operands, after what stands to the left of them
  pub in_terms : (ℕ → Option Pos) → Constant → TermList → List Touch
  in_terms declared left no_terms = []
  in_terms declared left (term op e rest) =
      when_faulting (faults_between op.kind left (worth_of declared e)) op ++ in_expression declared Value e
      ++ in_terms declared (joined op.kind left (worth_of declared e)) rest

  -- the arguments of a call; the word `ASYNC` is no name of a variable, so that what it touches means nothing
  pub in_arguments : (ℕ → Option Pos) → Role → ArgumentList → List Touch
  in_arguments declared r no_arguments = []
  in_arguments declared r (value e rest) = in_expression declared r e ++ in_arguments declared r rest
  in_arguments declared r (text t rest) = in_arguments declared r rest

-- Of what may be missing.
abbrev pub if_there : {A : Type 0} → (A → List Touch) → Option A → List Touch
if_there f None = []
if_there f (Some x) = f x

-- An expression that gives a value.
abbrev pub in_value : (ℕ → Option Pos) → ExprTree → List Touch
in_value declared e = in_expression declared Value e

-- An expression that decides.
abbrev pub in_condition : (ℕ → Option Pos) → ExprTree → List Touch
in_condition declared e = in_expression declared Condition e

-- ---- declarations and statements

-- The values of a list in braces.
abbrev pub in_values : (ℕ → Option Pos) → ValueList → List Touch
in_values declared no_values = []
in_values declared (last_value e) = in_value declared e
in_values declared (value_before e rest) = in_value declared e ++ in_values declared rest

-- An initialiser.
abbrev pub in_initialiser : (ℕ → Option Pos) → InitialiserTree → List Touch
in_initialiser declared (single e) = in_value declared e
in_initialiser declared (listed values) = in_values declared values

-- What a variable of this type can hold that has these sizes.
abbrev pub held_of : (ℕ → Option Pos) → TypeTree → List ExprTree → ValueDomain
held_of declared type sizes = record { range = range_of type; size = size_of declared sizes }

-- A variable whose type lacks what it begins with.
abbrev pub when_lacking : Bool → Token → List Touch
when_lacking test x = if test then Lacks x ∷ [] else []

-- A declared name of this type. Its sizes are constants.
abbrev pub in_declarator : (ℕ → Option Pos) → TypeTree → DeclaratorTree → List Touch
in_declarator declared type d =
    Declares d.name ∷ Holds d.name (held_of declared type d.sizes) ∷ when_lacking (lacks_initial declared (range_of type) d.initial) d.name
    ++ if_there (in_initialiser declared) d.initial

-- A declaration.
abbrev pub in_declaration : (ℕ → Option Pos) → DeclarationTree → List Touch
in_declaration declared d = flat_map (in_declarator declared d.type_name) d.names

-- Between the parentheses of a `for`.
abbrev pub in_header : (ℕ → Option Pos) → Header → List Touch
in_header declared h = if_there (in_value declared) h.start ++ if_there (in_condition declared) h.condition ++ if_there (in_value declared) h.step

-- In a statement, also where it is never done.
abbrev mutual
  pub in_statement : (ℕ → Option Pos) → StatementTree → List Touch
  in_statement declared (nested b) = in_block declared b
  in_statement declared (expression e) = in_value declared e
  in_statement declared (return_with t e) = if_there (in_value declared) e
  in_statement declared (if_then e a) = in_condition declared e ++ in_statement declared a
  in_statement declared (if_else e a b) = in_condition declared e ++ in_statement declared a ++ in_statement declared b
  in_statement declared (while_loop t e a) = in_condition declared e ++ in_statement declared a
  in_statement declared (for_loop t h a) = in_header declared h ++ in_statement declared a
  in_statement declared _ = []

  -- statements, one after the other
  pub in_statements : (ℕ → Option Pos) → StatementList → List Touch
  in_statements declared no_statements = []
  in_statements declared (statement a rest) = in_statement declared a ++ in_statements declared rest

  -- a block
  pub in_block : (ℕ → Option Pos) → BlockTree → List Touch
  in_block declared (block ds all) = flat_map (in_declaration declared) ds ++ in_statements declared all

-- ---- definitions

-- A `syncQ` of a variable, where it names an event flag.
abbrev pub at_queue : Token → Option FlagTree → List Touch
at_queue x None = []
at_queue x (Some flag) = Flags x ∷ []

-- A name of a channel, which has something between its quotes.
abbrev pub is_channel : Token → Bool
is_channel t = nat_lt 2 (length t.text.now)

-- One or more names, of which some is that of a channel.
abbrev pub names_channel : NamesTree → Bool
names_channel (one_name t) = is_channel t
names_channel (name_list ts) = list_any is_channel ts

-- What an `assign` says behind its place, where that names some channel.
abbrev pub has_channel : Option ChannelsTree → Bool
has_channel None = false
has_channel (Some c) = names_channel c.names

-- An `assign` of a variable to some channel.
abbrev pub at_assign : Bool → Token → List Touch
at_assign true x = Assigns x ∷ []
at_assign false x = []

-- The names of channels in an `assign`.
abbrev pub at_names : NamesTree → List Touch
at_names (one_name t) = Names t ∷ []
at_names (name_list ts) = map Names ts

-- The same where there may be none.
abbrev pub at_channels : Option ChannelsTree → List Touch
at_channels None = []
at_channels (Some c) = at_names c.names

-- What the variable of a parameter can hold.
abbrev pub held_for : ParameterTree → ValueDomain
held_for p = record { range = range_of p.type_name; size = Scalar }

-- A parameter of a function.
abbrev pub at_parameter : ParameterTree → Touch
at_parameter p = Holds p.name (held_for p)

-- A function: its parameters, and its body.
abbrev pub in_function : (ℕ → Option Pos) → FunctionTree → List Touch
in_function declared f = map at_parameter f.parameters.each ++ in_block declared f.body

-- A definition, or a function. Subscripts are constants.
abbrev pub in_definition : (ℕ → Option Pos) → DefinitionTree → List Touch
in_definition declared (declaration d) = in_declaration declared d
in_definition declared (assign a) = at_assign (has_channel a.channels) a.place.name ++ at_channels a.channels
in_definition declared (monitor p) = Monitors p.name ∷ []
in_definition declared (sync y) = Flags y.place.name ∷ []
in_definition declared (sync_queue q) = at_queue q.place.name q.flag
in_definition declared (function f) = in_function declared f
in_definition declared d = []

-- ---- clauses and states

-- A state has an `entry` block and does not do it on a way back from itself, or an `exit` block likewise: `-e` (101) and `-x` (120)
-- have them done.
abbrev pub leaves_out : StateTree → Bool
leaves_out s = (is_some s.entry && sign_in_force 101 s.definitions) || (is_some s.exit && sign_in_force 120 s.definitions)

-- Where a clause leads: a way back to its own state is told where that leaves a block out.
abbrev pub at_target : Bool → Token → TargetTree → List Touch
at_target leaving own (to_state x) = if leaving && is_spelled own.text.now x then Returns x ∷ [] else []
at_target leaving own to_exit = []

-- A clause of a state with this name: its condition, its block, its target.
abbrev pub in_clause : (ℕ → Option Pos) → Bool → Token → ClauseTree → List Touch
in_clause declared leaving own c = if_there (in_condition declared) c.condition ++ in_block declared c.block ++ at_target leaving own c.target

-- A state.
abbrev pub in_state : (ℕ → Option Pos) → StateTree → List Touch
in_state declared s =
    flat_map (in_definition declared) s.definitions ++ if_there (in_block declared) s.entry
    ++ flat_map (in_clause declared (leaves_out s) s.name) s.clauses ++ if_there (in_block declared) s.exit

-- A state set.
abbrev pub in_state_set : (ℕ → Option Pos) → StateSetTree → List Touch
in_state_set declared g = flat_map (in_definition declared) g.definitions ++ flat_map (in_state declared) g.states

-- A program.
abbrev pub touches : (ℕ → Option Pos) → ProgramTree → List Touch
touches declared p =
    flat_map (in_definition declared) p.definitions ++ if_there (in_block declared) p.entry
    ++ flat_map (in_state_set declared) p.state_sets ++ if_there (in_block declared) p.exit
