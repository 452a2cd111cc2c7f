-- The names that the sites of a program use are those of the program, each with its meaning in the scopes round it.
use Rattle.std.proofs.Common.{◌≡◌, ℕ, suc, ◌-◌, Bool, true, false, ◌||◌, cond, List, [], ◌∷◌, ◌++◌, map, Option, Some, None, refl, sym, ap, ◌∙◌, append_assoc, append-nil}
use Rattle.std.specs.Prelude.{is_some}
use Rattle.std.specs.List.{flat_map}
use Rattle.snl_text.specs.declared.tokens.Token.{Token}
use Rattle.snl_text.specs.declared.kinds.Kind.{Kind}
use Rattle.snl_text.specs.declared.kinds.Kind.TheVariants as kind
use Rattle.snl_syntax.specs.Expressions.{ExprTree, TermList, ArgumentList, constant, parenthesized, named, element, call, postfix, prefix, chain, conditional, assignment, no_terms, term, no_arguments, value, text}
use Rattle.snl_syntax.specs.Declarations.{ValueList, no_values, last_value, value_before, InitialiserTree, single, listed, TypeTree, DeclaratorTree, DeclarationTree}
use Rattle.snl_syntax.specs.Statements.{StatementTree, StatementList, BlockTree, Header, nested, empty, expression, break_loop, continue_loop, change_state, return_with, if_then, if_else, while_loop, for_loop, no_statements, statement, block}
use Rattle.snl_syntax.specs.Definitions.{PlaceTree, FlagTree, DefinitionTree, declaration, assign, monitor, sync, sync_queue, event_flags, setting, function}
use Rattle.snl_syntax.specs.Functions.{ParameterTree, FunctionTree}
use Rattle.snl_syntax.specs.Programs.{TargetTree, to_state, to_exit, ClauseTree, StateTree, StateSetTree, ProgramTree}
use Rattle.snl_names.specs.declared.sites.Purpose.{Purpose}
use Rattle.snl_names.specs.declared.sites.Sort.{Sort}
use Rattle.snl_names.specs.declared.sites.Sort.TheVariants as sorts
use Rattle.snl_names.specs.declared.sites.Site.{Site}
use Rattle.snl_names.specs.Builtins.{builtin_of}
use Rattle.snl_names.specs.Calls.{is_fitting, word_at, is_word, unless}
use Rattle.snl_names.specs.Sights.{Sight, called, within, headings_by, parameter_scope}
use Rattle.snl_names.specs.declared.calls.Heading.{Heading}
use Rattle.snl_names.specs.declared.sites.Room.{Room}
use Rattle.snl_names.specs.declared.sites.Room.TheVariants as room
use Rattle.snl_names.specs.Purposes.{inner, in_parentheses, target, argument, at_constant, at_change, is_step}
use Rattle.snl_names.specs.Scopes.{Scope, scope_of, meaning}
use Rattle.snl_names.specs.Parts.{listed_names}
use Rattle.snl_names.specs.Uses.{use_at, declared_by, declared_in}
use Rattle.snl_names.specs.Sites as s
use Rattle.snl_names.specs.Programs as p
use Rattle.snl_resolve.specs.Names as n
use Rattle.snl_resolve.specs.Names.{Placed, if_there, meant_at}

-- the names that a site uses: one, or none. They are compared by the list of names with scopes that would give them.
pub record Fits (sites : List Site) (names : List Placed) : Type 0 where
  pub at : (offset : ℕ) (rest : List Site) (more : List Placed) → declared_in offset rest ≡ meant_at offset more → declared_in offset (sites ++ rest) ≡ meant_at offset (names ++ more)

-- nothing
none : Fits [] []
none = record { at = λ offset rest more e. e }

-- a site that uses no name
skip : (x : Site) (sites : List Site) (names : List Placed) → use_at x ≡ None → Fits sites names → Fits (x ∷ sites) names
skip x sites names e f = record { at = λ offset rest more g. ap (λ u. declared_by offset u (declared_in offset (sites ++ rest))) e ∙ f.at offset rest more g }

-- a site that uses a name
take_name : (x : Site) (scopes : List Scope) (t : Token) (sites : List Site) (names : List Placed) → use_at x ≡ Some (t, meaning scopes t) → Fits sites names → Fits (x ∷ sites) ((scopes, t) ∷ names)
take_name x scopes t sites names e f =
    record {
      at = λ offset rest more g.
          ap (λ u. declared_by offset u (declared_in offset (sites ++ rest))) e
          ∙ ap (λ o. declared_by offset (Some (t, meaning scopes t)) o) (f.at offset rest more g);
    }

-- two parts
both : (a b : List Site) (m k : List Placed) → Fits a m → Fits b k → Fits (a ++ b) (m ++ k)
both a b m k f g =
    record {
      at = λ offset rest more e.
          ap (declared_in offset) (append_assoc a b rest) ∙ f.at offset (b ++ rest) (k ++ more) (g.at offset rest more e)
          ∙ ap (meant_at offset) (sym (append_assoc m k more));
    }

-- a row
each : {A : Type 0} (f : A → List Site) (g : A → List Placed) → ((x : A) → Fits (f x) (g x)) → (l : List A) → Fits (flat_map f l) (flat_map g l)
each f g h [] = none
each f g h (x ∷ l) = both (f x) (flat_map f l) (g x) (flat_map g l) (h x) (each f g h l)

-- what may be missing
optional : {A : Type 0} (f : A → List Site) (g : A → List Placed) → ((x : A) → Fits (f x) (g x)) → (o : Option A) → Fits (s.maybe f o) (if_there g o)
optional f g h None = none
optional f g h (Some x) = h x

-- a constant names nothing
at_constants : (q : Purpose) (t : Token) (k : Kind) → Fits (at_constant q t k) []
at_constants q t kind.Decimal = skip _ [] [] refl none
at_constants q t _ = none

-- `++` and `--`, or another prefix operator
stepped : (b : Bool) (x : Site) (ls rs : List Site) (names : List Placed) → use_at x ≡ None → Fits ls names → Fits rs names → Fits (cond b (x ∷ ls) rs) names
stepped true x ls rs names e f g = skip x ls names e f
stepped false x ls rs names e f g = g

-- the word `ASYNC`, or another argument
not_the_word : (b : Bool) (ls : List Site) (names : List Placed) → Fits ls names → Fits (unless b ls) (unless b names)
not_the_word true ls names f = none
not_the_word false ls names f = f

-- expressions, their terms and arguments
mutual
  expressions : (w : Bool) (c : Sight) (q : Purpose) (e : ExprTree) → Fits (s.in_expression w c q e) (n.in_expression c.scopes e)
  expressions w c q (constant t) = at_constants q t t.kind
  expressions w c q (parenthesized e) = expressions w c (in_parentheses q) e
  expressions w c q (named x) = take_name _ c.scopes x [] [] refl none
  expressions w c q (element x b e) = take_name _ c.scopes x _ _ refl (expressions w c (inner q) e)
  expressions w c q (call f all) = skip _ _ _ refl (arguments w c (argument q (called c f) (is_fitting (called c f) all)) (word_at (builtin_of f.text.now)) all)
  expressions w c q (postfix e op) = skip _ _ _ refl (expressions w c (target q) e)
  expressions w c q (prefix op e) = stepped (is_step op.kind) (at_change q e op) _ _ _ refl (expressions w c (target q) e) (expressions w c (inner q) e)
  expressions w c q (chain e rest) = both _ _ _ _ (expressions w c (inner q) e) (terms w c (inner q) rest)
  expressions w c q (conditional e a b) = both _ _ _ _ (both _ _ _ _ (expressions w c (inner q) e) (expressions w c (inner q) a)) (expressions w c (inner q) b)
  expressions w c q (assignment e op f) = skip _ _ _ refl (both _ _ _ _ (expressions w c (target q) e) (expressions w c (inner q) f))

  -- those of the terms of a chain
  terms : (w : Bool) (c : Sight) (q : Purpose) (l : TermList) → Fits (s.in_terms w c q l) (n.in_terms c.scopes l)
  terms w c q no_terms = none
  terms w c q (term op e rest) = both _ _ _ _ (expressions w c q e) (terms w c q rest)

  -- those of arguments
  arguments : (w : Bool) (c : Sight) (q : Purpose) (k : ℕ) (l : ArgumentList) → Fits (s.in_arguments w c q k l) (n.in_arguments c.scopes k l)
  arguments w c q k no_arguments = none
  arguments w c q k (value e rest) = both _ _ _ _ (not_the_word (is_word k e) _ _ (expressions w c q e)) (arguments w c q (k - 1) rest)
  arguments w c q k (text t rest) = skip _ _ _ refl (arguments w c q (k - 1) rest)

-- an expression that gives a value
read : (c : Sight) (e : ExprTree) → Fits (s.in_value c e) (n.in_expression c.scopes e)
read c e = expressions false c _ e

-- the names that a scope declares are no uses
declared_names : (before ds : Scope) → Fits (s.declares before ds) []
declared_names before [] = none
declared_names before (d ∷ ds) = skip _ _ _ refl (declared_names (before ++ d ∷ []) ds)

-- the values of a list
values : (c : Sight) (l : ValueList) → Fits (s.in_values c l) (n.in_values c.scopes l)
values c no_values = none
values c (last_value e) = read c e
values c (value_before e rest) = both _ _ _ _ (read c e) (values c rest)

-- an initialiser
initialisers : (c : Sight) (i : InitialiserTree) → Fits (s.in_initialiser c i) (n.in_initialiser c.scopes i)
initialisers c (single e) = read c e
initialisers c (listed l) = values c l

-- a declared name
declarators : (c : Sight) (in_block : Bool) (type : TypeTree) (d : DeclaratorTree) → Fits (s.in_declarator c in_block type d) (n.in_declarator c.scopes d)
declarators c in_block type d = skip _ _ _ refl (both _ _ _ _ (each _ _ (read c) d.sizes) (optional _ _ (initialisers c) d.initial))

-- a declaration
declarations : (c : Sight) (in_block : Bool) (d : DeclarationTree) → Fits (s.in_declaration c in_block d) (n.in_declaration c.scopes d)
declarations c in_block d = skip _ _ _ refl (each _ _ (declarators c in_block d.type_name) d.names)

-- what stands between the parentheses of a `for`
headers : (c : Sight) (h : Header) → Fits (s.in_header c h) (n.in_header c.scopes h)
headers c h = both _ _ _ _ (both _ _ _ _ (optional _ _ (read c) h.start) (optional _ _ (read c) h.condition)) (optional _ _ (read c) h.step)

-- statements and blocks
mutual
  statements : (k : Room) (g : List Token) (c : Sight) (l : Bool) (a : StatementTree) → Fits (s.in_statement k g c l a) (n.in_statement c.scopes a)
  statements k g c l (nested b) = blocks k g c l b
  statements k g c l empty = none
  statements k g c l (expression e) = expressions false c _ e
  statements k g c l (break_loop t) = skip _ _ _ refl none
  statements k g c l (continue_loop t) = skip _ _ _ refl none
  statements k g c l (change_state t x) = skip _ _ _ refl (skip _ _ _ refl none)
  statements k g c l (return_with t e) = skip _ _ _ refl (optional _ _ (read c) e)
  statements k g c l (if_then e a) = both _ _ _ _ (read c e) (statements k g c l a)
  statements k g c l (if_else e a b) = both _ _ _ _ (both _ _ _ _ (read c e) (statements k g c l a)) (statements k g c l b)
  statements k g c l (while_loop t e a) = both _ _ _ _ (read c e) (statements k g c true a)
  statements k g c l (for_loop t h a) = both _ _ _ _ (headers c h) (statements k g c true a)

  -- those of statements
  statement_lists : (k : Room) (g : List Token) (c : Sight) (l : Bool) (a : StatementList) → Fits (s.in_statements k g c l a) (n.in_statements c.scopes a)
  statement_lists k g c l no_statements = none
  statement_lists k g c l (statement a rest) = both _ _ _ _ (statements k g c l a) (statement_lists k g c l rest)

  -- those of a block
  blocks : (k : Room) (g : List Token) (c : Sight) (l : Bool) (b : BlockTree) → Fits (s.in_block k g c l b) (n.in_block c.scopes b)
  blocks k g c l (block ds all) =
      both _ _ _ _ (both _ _ [] _ (declared_names [] (scope_of c.scopes (map declaration ds))) (each _ _ (declarations (within (scope_of c.scopes (map declaration ds)) c) true) ds))
      (statement_lists k g (within (scope_of c.scopes (map declaration ds)) c) l all)

-- the place of a definition
places : (sort : Sort) (word : Token) (c : Sight) (a : PlaceTree) (list : Option ℕ) → Fits (p.defined sort word c a list) (n.in_place c.scopes a)
places sort word c a list = take_name _ c.scopes a.name _ _ refl (optional _ _ (read c) a.subscript)

-- an event flag
flags : (c : Sight) (f : FlagTree) → Fits (p.in_flag c f) (n.in_flag c.scopes f)
flags c f = take_name _ c.scopes f.name [] [] refl none

-- the size of a queue names nothing
queue_sizes : (o : Option Token) → Fits (s.maybe p.in_size o) []
queue_sizes None = none
queue_sizes (Some t) = skip _ _ _ refl none

-- the same where nothing more is named
alone : (a : List Site) (m : List Placed) (b : List Site) → Fits a m → Fits b [] → Fits (a ++ b) m
alone a m b f g =
    record { at = λ offset rest more e. ap (declared_in offset) (append_assoc a b rest) ∙ f.at offset (b ++ rest) more (g.at offset rest more e) }

-- a definition
definitions : (in_state : Bool) (c : Sight) (d : DefinitionTree) → Fits (p.in_definition in_state c d) (n.in_definition c.scopes d)
definitions in_state c (declaration d) = declarations c false d
definitions in_state c (assign a) = places sorts.Assign a.word c a.place (listed_names a.channels)
definitions in_state c (monitor a) = places sorts.Monitor a.name c a None
definitions in_state c (sync y) = both _ _ _ _ (places sorts.Sync y.place.name c y.place None) (flags c y.flag)
definitions in_state c (sync_queue q) =
    alone _ _ _ (both _ _ _ _ (places _ q.word c q.place None) (optional _ _ (flags c) q.flag)) (queue_sizes q.size)
definitions in_state c (event_flags names) = none
definitions in_state c (setting o) = skip _ _ _ refl none
definitions in_state c (function f) = none

-- definitions in their scope
all_definitions : (in_state : Bool) (c : Sight) (ds : List DefinitionTree) → Fits (p.in_definitions in_state c ds) (n.in_definitions c.scopes ds)
all_definitions in_state c ds = both _ _ [] _ (declared_names [] (scope_of c.scopes ds)) (each _ _ (definitions in_state (within (scope_of c.scopes ds) c)) ds)

-- a target names no variable
targets : (g : List Token) (t : TargetTree) → Fits (p.in_target g t) []
targets g (to_state x) = skip _ _ _ refl none
targets g to_exit = none

-- a clause
clauses : (c : Sight) (g : List Token) (blocked : Bool) (a : ClauseTree) → Fits (p.in_clause c g blocked a) (n.in_clause c.scopes a)
clauses c g blocked a =
    skip _ _ _ refl (alone _ _ _ (both _ _ _ _ (optional _ _ (expressions true c _) a.condition) (blocks room.Clause g c false a.block)) (targets g a.target))

-- the clauses of a state
clause_rows : (c : Sight) (g : List Token) (blocked : Bool) (l : List ClauseTree) → Fits (p.in_clauses c g blocked l) (flat_map (n.in_clause c.scopes) l)
clause_rows c g blocked [] = none
clause_rows c g blocked (a ∷ l) = both _ _ _ _ (clauses c g blocked a) (clause_rows c g (blocked || p.is_always_true c a) l)

-- a block that may be missing
plain : (c : Sight) (g : List Token) (o : Option BlockTree) → Fits (s.maybe (p.in_plain_block c g) o) (if_there (n.in_block c.scopes) o)
plain c g o = optional _ _ (blocks room.Elsewhere g c false) o

-- a state
states : (c : Sight) (g : List Token) (a : StateTree) → Fits (p.in_state c g a) (n.in_state c.scopes a)
states c g a =
    both _ _ _ _ (both _ _ _ _ (both _ _ _ _ (all_definitions true c a.definitions) (plain (within (scope_of c.scopes a.definitions) c) g a.entry))
    (clause_rows (within (scope_of c.scopes a.definitions) c) g false a.clauses)) (plain (within (scope_of c.scopes a.definitions) c) g a.exit)

-- the states from a number on
state_rows : (c : Sight) (g : List Token) (k : ℕ) (l : List StateTree) → Fits (p.in_states c g k l) (flat_map (n.in_state c.scopes) l)
state_rows c g k [] = none
state_rows c g k (a ∷ l) = both _ _ _ _ (skip _ _ _ refl (states c g a)) (state_rows c g (suc k) l)

-- a state set
state_sets : (c : Sight) (a : StateSetTree) → Fits (p.in_state_set c a) (n.in_state_set c.scopes a)
state_sets c a = both _ _ _ _ (all_definitions false c a.definitions) (state_rows (within (scope_of c.scopes a.definitions) c) _ 0 a.states)

-- the state sets from a number on
set_rows : (c : Sight) (g : List Token) (k : ℕ) (l : List StateSetTree) → Fits (p.in_state_sets c g k l) (flat_map (n.in_state_set c.scopes) l)
set_rows c g k [] = none
set_rows c g k (a ∷ l) = both _ _ _ _ (skip _ _ _ refl (state_sets c a)) (set_rows c g (suc k) l)

-- types name nothing
types : (l : List ParameterTree) → Fits (map (λ x. s.at_type x.type_name) l) []
types [] = none
types (x ∷ l) = skip _ _ _ refl (types l)

-- nor does one that may be missing
type_names : (o : Option TypeTree) → Fits (s.maybe p.in_type o) []
type_names None = none
type_names (Some t) = skip _ _ _ refl none

-- a function
functions : (c : Sight) (f : FunctionTree) → Fits (p.in_function c f) (n.in_block (parameter_scope f ∷ c.scopes) f.body)
functions c f =
    skip _ _ _ refl (both _ _ [] _ (both _ _ [] [] (both _ _ [] [] (type_names f.type_name) (declared_names [] (parameter_scope f))) (types f.parameters.each))
    (blocks (room.Function (is_some f.type_name)) [] (within (parameter_scope f) c) false f.body))

-- a definition of the program
program_part : (c : Sight) (d : DefinitionTree) → Fits (p.in_program_part c d) (n.in_program_part c.scopes d)
program_part c (function f) = functions c f
program_part c (declaration d) = definitions false c (declaration d)
program_part c (assign a) = definitions false c (assign a)
program_part c (monitor a) = definitions false c (monitor a)
program_part c (sync y) = definitions false c (sync y)
program_part c (sync_queue q) = definitions false c (sync_queue q)
program_part c (event_flags names) = definitions false c (event_flags names)
program_part c (setting o) = definitions false c (setting o)

-- all of them, each with the functions above it
program_parts : (c : List Scope) (above : List Heading) (ds : List DefinitionTree) → Fits (p.in_program_parts c above ds) (flat_map (n.in_program_part c) ds)
program_parts c above [] = none
program_parts c above (d ∷ ds) = both _ _ _ _ (program_part (record { scopes = c; functions = above }) d) (program_parts c (above ++ headings_by d) ds)

-- a program
programs : (a : ProgramTree) → Fits (p.sites a) (n.names_of a)
programs a =
    both _ _ _ _ (both _ _ _ _ (both _ _ _ _ (both _ _ [] _ (declared_names [] (scope_of [] a.definitions)) (program_parts (p.program_scopes a) [] a.definitions))
    (plain (p.program_sight a) [] a.entry)) (set_rows (p.program_sight a) _ 0 a.state_sets)) (plain (p.program_sight a) [] a.exit)

-- what a program's sites say of an offset is what the first name there means
pub declared_is_meant : (a : ProgramTree) (offset : ℕ) → declared_in offset (p.sites a) ≡ meant_at offset (n.names_of a)
declared_is_meant a offset =
    ap (declared_in offset) (sym (append-nil (p.sites a))) ∙ (programs a).at offset [] [] refl ∙ ap (meant_at offset) (append-nil (n.names_of a))
