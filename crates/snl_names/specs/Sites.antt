-- The sites of expressions, declarations and statements: the places that a rule may speak of, each with what is known
-- there.
use Rattle.std.specs.Prelude.{ℕ, ◌-◌, Bool, true, false, List, [], ◌∷◌, ◌++◌, map, Option, Some, None, is_some, is_none, if◌then◌else◌}
use Rattle.std.specs.List.{flat_map}
use Rattle.snl_text.specs.declared.tokens.Token.{Token}
use Rattle.snl_syntax.specs.Expressions.{ExprTree, TermList, ArgumentList, constant, parenthesized, named, element, call, postfix, prefix, chain, conditional, assignment, no_terms, term, no_arguments, value, text}
use Rattle.snl_syntax.specs.Statements.{StatementTree, StatementList, BlockTree, Header, nested, empty, expression, break_loop, continue_loop, change_state, return_with, if_then, if_else, while_loop, for_loop, no_statements, statement, block}
use Rattle.snl_syntax.specs.Declarations.{TypeTree, ValueList, InitialiserTree, DeclaratorTree, DeclarationTree, no_values, last_value, value_before, single, listed}
use Rattle.snl_syntax.specs.Definitions.{declaration}
use Rattle.snl_names.specs.declared.scopes.Declared.{Declared}
use Rattle.snl_names.specs.declared.sites.Purpose.{Purpose}
use Rattle.snl_names.specs.declared.sites.Purpose.TheVariants.{Read, Dropped}
use Rattle.snl_names.specs.declared.sites.Room.{Room}
use Rattle.snl_names.specs.declared.sites.Room.TheVariants as room
use Rattle.snl_names.specs.declared.sites.Site.{Site}
use Rattle.snl_names.specs.declared.sites.Site.TheVariants.{Declaration, Typed, Declarator, Use, LoopExit, StateChange, Target, Return}
use Rattle.snl_names.specs.Builtins.{builtin_of}
use Rattle.snl_names.specs.Calls.{is_fitting, count_of, word_at, is_word, unless}
use Rattle.snl_names.specs.Sights.{Sight, called, within}
use Rattle.snl_names.specs.Numbered.{number_of}
use Rattle.snl_names.specs.Purposes.{inner, in_parentheses, target, argument, at_constant, at_call, at_change, at_format, is_step}
use Rattle.snl_names.specs.Scopes.{Scope, scope_of, first_of, meaning, size_of, elements, is_hidden}
use Rattle.snl_names.specs.Types.{range_of, is_good_initialiser}

-- ---- expressions

-- In an expression: w tells whether it stands in a clause's condition, s are the scopes round it, p says what it is
-- for. An operator or a call stands before its parts, and the parts stand in the order of the source.
abbrev mutual
  pub in_expression : Bool → Sight → Purpose → ExprTree → List Site
  in_expression w s p (constant t) = at_constant p t t.kind
  in_expression w s p (parenthesized e) = in_expression w s (in_parentheses p) e
  in_expression w s p (named x) = Use p x (meaning s.scopes x) false ∷ []
  in_expression w s p (element x b e) = Use p x (meaning s.scopes x) true ∷ in_expression w s (inner p) e
  in_expression w s p (call f all) =
      at_call p w f (called s f) (is_fitting (called s f) all)
      ∷ in_arguments w s (argument p (called s f) (is_fitting (called s f) all)) (word_at (builtin_of f.text.now)) all
  in_expression w s p (postfix e op) = at_change p e op ∷ in_expression w s (target p) e
  in_expression w s p (prefix op e) =
      if is_step op.kind then at_change p e op ∷ in_expression w s (target p) e else in_expression w s (inner p) e
  in_expression w s p (chain e rest) = in_expression w s (inner p) e ++ in_terms w s (inner p) rest
  in_expression w s p (conditional c a b) = in_expression w s (inner p) c ++ in_expression w s (inner p) a ++ in_expression w s (inner p) b
  in_expression w s p (assignment e op f) = at_change p e op ∷ (in_expression w s (target p) e ++ in_expression w s (inner p) f)

  -- operators with their operands
  pub in_terms : Bool → Sight → Purpose → TermList → List Site
  in_terms w s p no_terms = []
  in_terms w s p (term op e rest) = in_expression w s p e ++ in_terms w s p rest

  -- arguments, so many up to the one that may be the word `ASYNC`; the format of a string is compared with how many stand after it
  pub in_arguments : Bool → Sight → Purpose → ℕ → ArgumentList → List Site
  in_arguments w s p k no_arguments = []
  in_arguments w s p k (value e rest) = unless (is_word k e) (in_expression w s p e) ++ in_arguments w s p (k - 1) rest
  in_arguments w s p k (text t rest) = at_format p t (count_of rest) ∷ in_arguments w s p (k - 1) rest

-- An expression that gives a value, outside of conditions.
abbrev pub in_value : Sight → ExprTree → List Site
in_value s e = in_expression false s Read e

-- The sites in what may be missing.
abbrev pub maybe : {A : Type 0} → (A → List Site) → Option A → List Site
maybe f None = []
maybe f (Some x) = f x

-- ---- declarations

-- A declared name without a size.
abbrev pub is_flag : Declared → Bool
is_flag d = is_none d.size

-- How many words of a store the variable takes.
abbrev pub words_of : Declared → ℕ
words_of d = elim d.size [ None ↦ 0 | Some size ↦ elements size ]

-- The names that a scope declares, after those before them.
abbrev pub declares : Scope → Scope → List Site
declares before [] = []
declares before (d ∷ ds) = Declaration d.name (is_flag d) (is_some (first_of d.name.text.now before)) (words_of d) ∷ declares (before ++ d ∷ []) ds

-- In the values of a list in braces.
abbrev pub in_values : Sight → ValueList → List Site
in_values s no_values = []
in_values s (last_value e) = in_value s e
in_values s (value_before e rest) = in_value s e ++ in_values s rest

-- In an initialiser.
abbrev pub in_initialiser : Sight → InitialiserTree → List Site
in_initialiser s (single e) = in_value s e
in_initialiser s (listed values) = in_values s values

-- A declared name of this type, in a block or not.
abbrev pub at_declarator : Sight → Bool → TypeTree → DeclaratorTree → Site
at_declarator s in_block type d =
    Declarator d.name (size_of (is_hidden s.scopes) d.sizes) (is_good_initialiser (is_hidden s.scopes) in_block type (size_of (is_hidden s.scopes) d.sizes) d.initial)

-- The same with its sizes and its initialiser.
abbrev pub in_declarator : Sight → Bool → TypeTree → DeclaratorTree → List Site
in_declarator s in_block type d = at_declarator s in_block type d ∷ (flat_map (in_value s) d.sizes ++ maybe (in_initialiser s) d.initial)

-- A type, which may be supported or not.
abbrev pub at_type : TypeTree → Site
at_type t = Typed t.word t.second (is_some (range_of t))

-- A declaration, in a block or not: its type, then its names.
abbrev pub in_declaration : Sight → Bool → DeclarationTree → List Site
in_declaration s in_block d = at_type d.type_name ∷ flat_map (in_declarator s in_block d.type_name) d.names

-- ---- statements

-- Between the parentheses of a `for`.
abbrev pub in_header : Sight → Header → List Site
in_header s h = maybe (in_value s) h.start ++ maybe (in_value s) h.condition ++ maybe (in_value s) h.step

-- In a clause's block a state may be changed,
abbrev pub is_clause : Room → Bool
is_clause room.Clause = true
is_clause _ = false

-- and in a function it may return, with a value where it has one.
abbrev pub may_return : Room → Option ExprTree → Bool
may_return (room.Function true) (Some e) = true
may_return (room.Function false) None = true
may_return _ _ = false

-- In a statement: c tells where it stands, g are the names of its state set's states, s the
-- scopes round it, l tells whether it stands in a loop.
abbrev mutual
  pub in_statement : Room → List Token → Sight → Bool → StatementTree → List Site
  in_statement c g s l (nested b) = in_block c g s l b
  in_statement c g s l empty = []
  in_statement c g s l (expression e) = in_expression false s Dropped e
  in_statement c g s l (break_loop t) = LoopExit t l ∷ []
  in_statement c g s l (continue_loop t) = LoopExit t l ∷ []
  in_statement c g s l (change_state t x) = StateChange t (is_clause c) ∷ Target x (number_of g x.text.now) (is_clause c) ∷ []
  in_statement c g s l (return_with t e) = Return t (may_return c e) ∷ maybe (in_value s) e
  in_statement c g s l (if_then e a) = in_value s e ++ in_statement c g s l a
  in_statement c g s l (if_else e a b) = in_value s e ++ in_statement c g s l a ++ in_statement c g s l b
  in_statement c g s l (while_loop t e a) = in_value s e ++ in_statement c g s true a
  in_statement c g s l (for_loop t h a) = in_header s h ++ in_statement c g s true a

  -- statements, one after the other
  pub in_statements : Room → List Token → Sight → Bool → StatementList → List Site
  in_statements c g s l no_statements = []
  in_statements c g s l (statement a rest) = in_statement c g s l a ++ in_statements c g s l rest

  -- a block is a scope of its own
  pub in_block : Room → List Token → Sight → Bool → BlockTree → List Site
  in_block c g s l (block ds all) =
      declares [] (scope_of s.scopes (map declaration ds)) ++ flat_map (in_declaration (within (scope_of s.scopes (map declaration ds)) s) true) ds
      ++ in_statements c g (within (scope_of s.scopes (map declaration ds)) s) l all
