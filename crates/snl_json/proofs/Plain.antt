-- Rows have no floats, and nest no deeper than JSON is read.
use Rattle.std.proofs.Common.{◌≡◌, ◌≤◌, ◌++◌, ◌||◌, ℕ, suc, Bool, false, List, [], ◌∷◌, refl, arith, map}
use Rattle.std.specs.Prelude.{Option, Some, None, max}
use Rattle.serde_json.specs.Data.{Data, string, array, depth, items_depth}
use Rattle.serde_json.specs.Read.{max_depth}
use Rattle.serde_json.specs.View.{items_of}
use Rattle.serde_json.specs.Written.{has_float, items_have_float}
use Rattle.snl_text.specs.declared.tokens.Token.{Token}
use Rattle.snl_json.specs.declared.rows.Part.{Part}
use Rattle.snl_json.specs.declared.rows.Part.TheVariants as part
use Rattle.snl_json.specs.Rows.{part_data, token_data, parts_listed, with_row, with_maybe, with_things, with_list, with_tokens, with_words}
use Rattle.snl_json.specs.Expressions.{with_expression, with_terms, with_arguments}
use Rattle.snl_json.specs.Declarations.{with_type, with_values, with_initialiser, with_declarator, with_declaration}
use Rattle.snl_json.specs.Statements.{with_header, with_statement, with_statements, with_block}
use Rattle.snl_json.specs.Functions.{with_parameter, with_parameters, with_function}
use Rattle.snl_json.specs.Definitions.{with_place, with_names, with_channels, with_assign, with_flag, with_sync, with_queue, with_definition}
use Rattle.snl_json.specs.Programs.{with_target, with_clause, with_state, with_state_set, with_program, program_data}
use Rattle.snl_syntax.specs.Expressions.{ExprTree, TermList, ArgumentList, constant, parenthesized, named, element, call, postfix, prefix, chain, conditional, assignment, no_terms, term, no_arguments, value, text}
use Rattle.snl_syntax.specs.Declarations.{TypeTree, ValueList, no_values, last_value, value_before, InitialiserTree, single, listed, DeclaratorTree, DeclarationTree}
use Rattle.snl_syntax.specs.Statements.{Header, StatementTree, StatementList, BlockTree, nested, empty, expression, break_loop, continue_loop, change_state, return_with, if_then, if_else, while_loop, for_loop, no_statements, statement, block}
use Rattle.snl_syntax.specs.Functions.{ParameterTree, ParametersTree, FunctionTree}
use Rattle.snl_syntax.specs.Definitions.{PlaceTree, NamesTree, one_name, name_list, ChannelsTree, AssignTree, FlagTree, SyncTree, QueueTree, DefinitionTree, declaration, assign, monitor, sync, sync_queue, event_flags, setting, function}
use Rattle.snl_syntax.specs.Programs.{TargetTree, to_state, to_exit, ClauseTree, StateTree, StateSetTree, ProgramTree}

-- data without floats that nest at most so deep
abbrev IsPlain : ℕ → Data → Type 0
IsPlain n d = (has_float d ≡ false) × (depth d ≤ n)

-- all of some
abbrev ArePlain : ℕ → List Data → Type 0
ArePlain n [] = Unit {0}
ArePlain n (d ∷ ds) = IsPlain n d × ArePlain n ds

-- those of two lists
both : (n : ℕ) (xs ys : List Data) → ArePlain n xs → ArePlain n ys → ArePlain n (xs ++ ys)
both n [] ys p q = q
both n (x ∷ xs) ys p q = (p.0, both n xs ys p.1 q)

-- a list of them has no floats
floats : (n : ℕ) (xs : List Data) → ArePlain n xs → items_have_float (items_of xs) ≡ false
floats n [] p = refl
floats n (x ∷ xs) p = λ j. p.0.0 j || floats n xs p.1 j

-- and nests no deeper
depths : (n : ℕ) (xs : List Data) → ArePlain n xs → items_depth (items_of xs) ≤ n
depths n [] p = omega arith
depths n (x ∷ xs) p = let here = p.0.1 in let rest = depths n xs p.1 in omega (arith, here, rest)

-- a list as data
listed_plain : (n : ℕ) (xs : List Data) → ArePlain n xs → IsPlain (suc n) (array (items_of xs))
listed_plain n xs p = let deep = depths n xs p in (floats n xs p, omega (arith, deep))

-- a part of a row
part_plain : (p : Part) → IsPlain 1 (part_data p)
unfolding part_data token_data
part_plain (part.Tree n) = (refl, omega arith)
part_plain part.Missing = (refl, omega arith)
part_plain (part.Flag b) = (refl, omega arith)
part_plain (part.Word t) = (refl, omega arith)

-- parts
parts_plain : (ps : List Part) → ArePlain 1 (parts_listed ps)
parts_plain [] = tt
parts_plain (p ∷ ps) = (part_plain p, parts_plain ps)

-- rows
abbrev Rows : List Data → Type 0
Rows rows = ArePlain 2 rows

-- what keeps them so
abbrev Keeps : (List Data → List Data) → Type 0
Keeps go = (rows : List Data) → Rows rows → Rows (go rows)

-- a row more
row_keeps : (form : List ℕ) (ps : List Part) → Keeps (with_row form ps)
unfolding with_row
row_keeps form ps rows p =
    let begun : IsPlain 1 (string form) = (refl, omega arith) in
    let parts : ArePlain 1 (string form ∷ parts_listed ps) = (begun, parts_plain ps) in
    let row : ArePlain 2 (array (items_of (string form ∷ parts_listed ps)) ∷ []) = (listed_plain 1 (string form ∷ parts_listed ps) parts, tt) in
    both 2 rows (array (items_of (string form ∷ parts_listed ps)) ∷ []) p row

-- something that may be missing
maybe_keeps : {A : Type 0} (put : A → List Data → List Data) → ((x : A) → Keeps (put x)) → (o : Option A) → Keeps (with_maybe put o)
maybe_keeps put k None rows p = p
maybe_keeps put k (Some x) rows p = k x rows p

-- things in front of a list
things_keep : {A : Type 0} (put : A → List Data → List Data) → ((x : A) → Keeps (put x)) → (xs : List A) → Keeps (with_things put xs)
things_keep put k [] rows p = p
things_keep put k (x ∷ xs) rows p = row_keeps _ _ _ (k x _ (things_keep put k xs rows p))

-- a list
list_keeps : {A : Type 0} (put : A → List Data → List Data) → ((x : A) → Keeps (put x)) → (xs : List A) → Keeps (with_list put xs)
list_keeps put k xs rows p = things_keep put k xs _ (row_keeps _ _ rows p)

-- tokens in front of a list
tokens_keep : (ts : List Token) → Keeps (with_tokens ts)
tokens_keep [] rows p = p
tokens_keep (t ∷ ts) rows p = row_keeps _ _ _ (tokens_keep ts rows p)

-- a list of tokens
words_keep : (ts : List Token) → Keeps (with_words ts)
words_keep ts rows p = tokens_keep ts _ (row_keeps _ _ rows p)

mutual
  -- an expression
  expression_keeps : (e : ExprTree) → Keeps (with_expression e)
  expression_keeps (constant t) rows p = row_keeps _ _ rows p
  expression_keeps (parenthesized e) rows p = row_keeps _ _ _ (expression_keeps e rows p)
  expression_keeps (named t) rows p = row_keeps _ _ rows p
  expression_keeps (element x b e) rows p = row_keeps _ _ _ (expression_keeps e rows p)
  expression_keeps (call f all) rows p = row_keeps _ _ _ (arguments_keep all _ (row_keeps _ _ rows p))
  expression_keeps (postfix e op) rows p = row_keeps _ _ _ (expression_keeps e rows p)
  expression_keeps (prefix op e) rows p = row_keeps _ _ _ (expression_keeps e rows p)
  expression_keeps (chain e rest) rows p = row_keeps _ _ _ (terms_keep rest _ (row_keeps _ _ _ (expression_keeps e rows p)))
  expression_keeps (conditional c a b) rows p = row_keeps _ _ _ (expression_keeps b _ (expression_keeps a _ (expression_keeps c rows p)))
  expression_keeps (assignment e op f) rows p = row_keeps _ _ _ (expression_keeps f _ (expression_keeps e rows p))

  -- terms
  terms_keep : (ts : TermList) → Keeps (with_terms ts)
  terms_keep no_terms rows p = p
  terms_keep (term op e rest) rows p = row_keeps _ _ _ (expression_keeps e _ (terms_keep rest rows p))

  -- arguments
  arguments_keep : (all : ArgumentList) → Keeps (with_arguments all)
  arguments_keep no_arguments rows p = p
  arguments_keep (value e rest) rows p = row_keeps _ _ _ (expression_keeps e _ (arguments_keep rest rows p))
  arguments_keep (text t rest) rows p = row_keeps _ _ _ (arguments_keep rest rows p)

-- values
values_keep : (vs : ValueList) → Keeps (with_values vs)
values_keep no_values rows p = row_keeps _ _ rows p
values_keep (last_value e) rows p = row_keeps _ _ _ (expression_keeps e rows p)
values_keep (value_before e rest) rows p = row_keeps _ _ _ (expression_keeps e _ (values_keep rest rows p))

-- an initialiser
initialiser_keeps : (i : InitialiserTree) → Keeps (with_initialiser i)
initialiser_keeps (single e) rows p = row_keeps _ _ _ (expression_keeps e rows p)
initialiser_keeps (listed all) rows p = row_keeps _ _ _ (values_keep all rows p)

-- a declared name
declarator_keeps : (d : DeclaratorTree) → Keeps (with_declarator d)
declarator_keeps d rows p = row_keeps _ _ _ (maybe_keeps with_initialiser initialiser_keeps d.initial _ (list_keeps with_expression expression_keeps d.sizes rows p))

-- a declaration
declaration_keeps : (d : DeclarationTree) → Keeps (with_declaration d)
declaration_keeps d rows p = row_keeps _ _ _ (list_keeps with_declarator declarator_keeps d.names _ (row_keeps _ _ rows p))

-- the parts of a `for`
header_keeps : (h : Header) → Keeps (with_header h)
header_keeps h rows p =
    row_keeps _ _ _ (maybe_keeps with_expression expression_keeps h.step _ (maybe_keeps with_expression expression_keeps h.condition _ (maybe_keeps with_expression expression_keeps h.start rows p)))

mutual
  -- a statement
  statement_keeps : (s : StatementTree) → Keeps (with_statement s)
  statement_keeps (nested b) rows p = row_keeps _ _ _ (block_keeps b rows p)
  statement_keeps empty rows p = row_keeps _ _ rows p
  statement_keeps (expression e) rows p = row_keeps _ _ _ (expression_keeps e rows p)
  statement_keeps (break_loop t) rows p = row_keeps _ _ rows p
  statement_keeps (continue_loop t) rows p = row_keeps _ _ rows p
  statement_keeps (change_state t x) rows p = row_keeps _ _ rows p
  statement_keeps (return_with t e) rows p = row_keeps _ _ _ (maybe_keeps with_expression expression_keeps e rows p)
  statement_keeps (if_then c s) rows p = row_keeps _ _ _ (statement_keeps s _ (expression_keeps c rows p))
  statement_keeps (if_else c s e) rows p = row_keeps _ _ _ (statement_keeps e _ (statement_keeps s _ (expression_keeps c rows p)))
  statement_keeps (while_loop t c s) rows p = row_keeps _ _ _ (statement_keeps s _ (expression_keeps c rows p))
  statement_keeps (for_loop t parts s) rows p = row_keeps _ _ _ (statement_keeps s _ (header_keeps parts rows p))

  -- statements
  statements_keep : (all : StatementList) → Keeps (with_statements all)
  statements_keep no_statements rows p = p
  statements_keep (statement s rest) rows p = row_keeps _ _ _ (statement_keeps s _ (statements_keep rest rows p))

  -- a block
  block_keeps : (b : BlockTree) → Keeps (with_block b)
  block_keeps (block ds all) rows p = row_keeps _ _ _ (statements_keep all _ (row_keeps _ _ _ (list_keeps with_declaration declaration_keeps ds rows p)))

-- the words of a type
type_keeps : (t : TypeTree) → Keeps (with_type t)
type_keeps t rows p = row_keeps _ _ rows p

-- the name of an event flag
flag_keeps : (f : FlagTree) → Keeps (with_flag f)
flag_keeps f rows p = row_keeps _ _ rows p

-- a parameter
parameter_keeps : (q : ParameterTree) → Keeps (with_parameter q)
parameter_keeps q rows p = row_keeps _ _ _ (row_keeps _ _ rows p)

-- a function
function_keeps : (f : FunctionTree) → Keeps (with_function f)
function_keeps f rows p =
    row_keeps _ _ _ (block_keeps f.body _ (row_keeps _ _ _ (list_keeps with_parameter parameter_keeps f.parameters.each _ (maybe_keeps with_type type_keeps f.type_name rows p))))

-- a place
place_keeps : (x : PlaceTree) → Keeps (with_place x)
place_keeps x rows p = row_keeps _ _ _ (maybe_keeps with_expression expression_keeps x.subscript rows p)

-- names of channels
names_keep : (n : NamesTree) → Keeps (with_names n)
names_keep (one_name t) rows p = row_keeps _ _ rows p
names_keep (name_list ts) rows p = row_keeps _ _ _ (words_keep ts rows p)

-- what a variable is assigned to
channels_keep : (c : ChannelsTree) → Keeps (with_channels c)
channels_keep c rows p = row_keeps _ _ _ (names_keep c.names rows p)

-- a definition
definition_keeps : (d : DefinitionTree) → Keeps (with_definition d)
definition_keeps (declaration d) rows p = row_keeps _ _ _ (declaration_keeps d rows p)
definition_keeps (assign a) rows p = row_keeps _ _ _ (row_keeps _ _ _ (maybe_keeps with_channels channels_keep a.channels _ (place_keeps a.place rows p)))
definition_keeps (monitor x) rows p = row_keeps _ _ _ (place_keeps x rows p)
definition_keeps (sync s) rows p = row_keeps _ _ _ (row_keeps _ _ _ (row_keeps _ _ _ (place_keeps s.place rows p)))
definition_keeps (sync_queue q) rows p = row_keeps _ _ _ (row_keeps _ _ _ (maybe_keeps with_flag flag_keeps q.flag _ (place_keeps q.place rows p)))
definition_keeps (event_flags names) rows p = row_keeps _ _ _ (words_keep names rows p)
definition_keeps (setting s) rows p = row_keeps _ _ _ (row_keeps _ _ rows p)
definition_keeps (function f) rows p = row_keeps _ _ _ (function_keeps f rows p)

-- where a clause leads
target_keeps : (t : TargetTree) → Keeps (with_target t)
target_keeps (to_state x) rows p = row_keeps _ _ rows p
target_keeps to_exit rows p = row_keeps _ _ rows p

-- a clause
clause_keeps : (c : ClauseTree) → Keeps (with_clause c)
clause_keeps c rows p = row_keeps _ _ _ (target_keeps c.target _ (block_keeps c.block _ (maybe_keeps with_expression expression_keeps c.condition rows p)))

-- a state
state_keeps : (s : StateTree) → Keeps (with_state s)
state_keeps s rows p =
    row_keeps _ _ _ (maybe_keeps with_block block_keeps s.exit _ (list_keeps with_clause clause_keeps s.clauses _ (maybe_keeps with_block block_keeps s.entry _
    (list_keeps with_definition definition_keeps s.definitions rows p))))

-- a state set
set_keeps : (s : StateSetTree) → Keeps (with_state_set s)
set_keeps s rows p = row_keeps _ _ _ (list_keeps with_state state_keeps s.states _ (list_keeps with_definition definition_keeps s.definitions rows p))

-- a program
program_keeps : (p : ProgramTree) → Keeps (with_program p)
program_keeps s rows p =
    row_keeps _ _ _ (maybe_keeps with_block block_keeps s.exit _ (list_keeps with_state_set set_keeps s.state_sets _ (maybe_keeps with_block block_keeps s.entry _
    (list_keeps with_definition definition_keeps s.definitions rows p))))

-- the rows of a program have no float
pub no_float : (p : ProgramTree) → has_float (program_data p) ≡ false
unfolding program_data
no_float p = (listed_plain 2 _ (program_keeps p [] tt)).0

-- and nest no deeper than JSON is read
pub shallow : (p : ProgramTree) → depth (program_data p) ≤ max_depth
unfolding program_data
shallow p = let deep = (listed_plain 2 _ (program_keeps p [] tt)).1 in omega (arith, deep)
