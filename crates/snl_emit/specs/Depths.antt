-- How many operands code needs at once.
use Rattle.std.specs.Prelude.{ℕ, suc, ◌+◌, List, [], ◌∷◌, ◌++◌, Option, None, Some, max}
use Rattle.snl_text.specs.declared.kinds.Kind.{Kind}
use Rattle.snl_syntax.specs.Expressions.{ExprTree, TermList, ArgumentList, constant, parenthesized, named, element, call, postfix, prefix, chain, conditional, assignment, no_terms, term, no_arguments, value, text}
use Rattle.snl_syntax.specs.Declarations.{DeclaratorTree}
use Rattle.snl_syntax.specs.Statements.{StatementTree, StatementList, BlockTree, nested, empty, expression, break_loop, continue_loop, change_state, return_with, if_then, if_else, while_loop, for_loop, no_statements, statement, block}
use Rattle.snl_names.specs.declared.builtins.Builtin.{Builtin}
use Rattle.snl_names.specs.declared.builtins.Builtin.TheVariants.{Delay, Printf, PvPut, Ask}
use Rattle.snl_names.specs.Builtins.{builtin_of}
use Rattle.snl_meaning.specs.declared.operators.Joint.{Joint}
use Rattle.snl_meaning.specs.declared.operators.Joint.TheVariants.{Operation}
use Rattle.snl_meaning.specs.declared.operators.Unary.{Unary}
use Rattle.snl_meaning.specs.declared.operators.Unary.TheVariants.{ByOne, OfValue}
use Rattle.snl_meaning.specs.Effect.{values_of, names_of}
use Rattle.snl_meaning.specs.Functions.{Routine}
use Rattle.snl_meaning.specs.Names.{Outline, outline_named}
use Rattle.snl_meaning.specs.Value.{joint_of, compound_of, sign_of}

-- ---- the parts

-- How much room an operator needs beside its operand.
abbrev pub joint_depth : Joint → ℕ → ℕ
joint_depth (Operation op) depth = depth + 1
joint_depth _ depth = depth

-- What an assignment holds while its right side is computed, beside a subscript.
abbrev pub held_depth : Option Kind → ℕ
held_depth None = 0
held_depth (Some op) = 1

-- How much room a sign needs.
abbrev pub signed_depth : Unary → ℕ → ℕ → ℕ
signed_depth (ByOne op) stepping operand = stepping
signed_depth (OfValue op) stepping operand = operand

-- How much room a call of a function needs: for its arguments, and then for its body. One that is not there needs 1.
abbrev pub routine_depth : Option Outline → ℕ → ℕ
routine_depth None values = 1
routine_depth (Some o) values = max 1 (max values o.depth)

-- How much room a call needs. One that asks needs as much as `pvPut` does.
abbrev pub called_depth : Option Builtin → (print wait put routine : ℕ) → ℕ
called_depth None print wait put routine = routine
called_depth (Some Delay) print wait put routine = wait
called_depth (Some Printf) print wait put routine = print
called_depth (Some PvPut) print wait put routine = put
called_depth (Some (Ask query)) print wait put routine = put

-- ---- expressions

-- The greatest number of operands at once, where these functions may be called. It does not look at what other names mean. A
-- constant, a variable and a call without an expression need 1; an operator holds what is left of it while its operand is
-- computed.
abbrev mutual
  -- an expression
  pub expression_depth : List Outline → ExprTree → ℕ
  expression_depth fs (constant t) = 1
  expression_depth fs (parenthesized e) = expression_depth fs e
  expression_depth fs (named x) = 1
  expression_depth fs (element x b e) = expression_depth fs e
  expression_depth fs (call f all) =
      called_depth (builtin_of f.text.now) (print_depth fs all) (wait_depth fs all) (put_depth fs all) (routine_depth (outline_named fs f.text.now) (arguments_depth fs 0 all))
  expression_depth fs (postfix e op) = signed_depth (sign_of op.kind) (target_depth fs e 2 3) (expression_depth fs e)
  expression_depth fs (prefix op e) = signed_depth (sign_of op.kind) (target_depth fs e 2 3) (expression_depth fs e)
  expression_depth fs (chain e rest) = max (expression_depth fs e) (terms_depth fs rest)
  expression_depth fs (conditional c a b) = max (expression_depth fs c) (max (expression_depth fs a) (expression_depth fs b))
  expression_depth fs (assignment e op r) =
      target_depth fs e (expression_depth fs r + held_depth (compound_of op.kind)) (expression_depth fs r + held_depth (compound_of op.kind) + 1)

  -- the operators and operands of one level
  pub terms_depth : List Outline → TermList → ℕ
  terms_depth fs no_terms = 0
  terms_depth fs (term op e rest) = max (joint_depth (joint_of op.kind) (expression_depth fs e)) (terms_depth fs rest)

  -- of a target: what is done there to a variable, or to an element after its subscript
  pub target_depth : List Outline → ExprTree → ℕ → ℕ → ℕ
  target_depth fs (parenthesized e) alone indexed = target_depth fs e alone indexed
  target_depth fs (element x b e) alone indexed = max (expression_depth fs e) indexed
  target_depth fs _ alone indexed = alone

  -- `printf`
  pub print_depth : List Outline → ArgumentList → ℕ
  print_depth fs (text t rest) = max 1 (arguments_depth fs 0 rest)
  print_depth fs _ = 1

  -- after so many values
  pub arguments_depth : List Outline → ℕ → ArgumentList → ℕ
  arguments_depth fs k no_arguments = 0
  arguments_depth fs k (text t rest) = arguments_depth fs k rest
  arguments_depth fs k (value e rest) = max (expression_depth fs e + k) (arguments_depth fs (suc k) rest)

  -- `delay`
  pub wait_depth : List Outline → ArgumentList → ℕ
  wait_depth fs (value e rest) = expression_depth fs e
  wait_depth fs _ = 1

  -- `pvPut`, and calls that ask
  pub put_depth : List Outline → ArgumentList → ℕ
  put_depth fs (value e rest) = target_depth fs e 1 1
  put_depth fs _ = 1

-- The depth of an expression that may be missing.
abbrev pub maybe_depth : List Outline → Option ExprTree → ℕ
maybe_depth fs None = 0
maybe_depth fs (Some e) = expression_depth fs e

-- ---- blocks

-- The greatest depth of some values.
abbrev pub values_depth : List Outline → List ExprTree → ℕ
values_depth fs [] = 0
values_depth fs (e ∷ es) = max (expression_depth fs e) (values_depth fs es)

-- The greatest depth in what some variables are declared with: their sizes, and what they begin with.
abbrev pub entered_depth : List Outline → List DeclaratorTree → ℕ
entered_depth fs [] = 0
entered_depth fs (d ∷ ds) = max (max (values_depth fs d.sizes) (values_depth fs (values_of d.initial))) (entered_depth fs ds)

abbrev mutual
  -- a statement
  pub statement_depth : List Outline → StatementTree → ℕ
  statement_depth fs (nested b) = block_depth fs b
  statement_depth fs empty = 0
  statement_depth fs (expression e) = expression_depth fs e
  statement_depth fs (break_loop t) = 0
  statement_depth fs (continue_loop t) = 0
  statement_depth fs (change_state t x) = 0
  statement_depth fs (return_with t e) = maybe_depth fs e
  statement_depth fs (if_then c s) = max (expression_depth fs c) (statement_depth fs s)
  statement_depth fs (if_else c s e) = max (expression_depth fs c) (max (statement_depth fs s) (statement_depth fs e))
  statement_depth fs (while_loop t c s) = max (expression_depth fs c) (statement_depth fs s)
  statement_depth fs (for_loop t parts s) =
      max (max (maybe_depth fs parts.start) (maybe_depth fs parts.condition)) (max (maybe_depth fs parts.step) (statement_depth fs s))

  -- statements
  pub statements_depth : List Outline → StatementList → ℕ
  statements_depth fs no_statements = 0
  statements_depth fs (statement s rest) = max (statement_depth fs s) (statements_depth fs rest)

  -- a block, with what its variables are declared with
  pub block_depth : List Outline → BlockTree → ℕ
  block_depth fs (block ds all) = max (entered_depth fs (names_of ds)) (statements_depth fs all)

-- ---- functions

-- The greatest depth of some functions.
abbrev pub deepest : List Outline → ℕ
deepest [] = 0
deepest (o ∷ os) = max o.depth (deepest os)

-- What code knows of a function below others: a call of it needs room for its body.
abbrev pub outline_of : List Outline → Routine → Outline
outline_of above r = record { name = r.name.text.now; depth = block_depth above r.body }

-- The same of functions, each below those before it.
abbrev pub outlines_after : List Outline → List Routine → List Outline
outlines_after above [] = above
outlines_after above (r ∷ rs) = outlines_after (above ++ outline_of above r ∷ []) rs
