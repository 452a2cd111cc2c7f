-- The size of expressions, declarations and statements: a number read off the source, than which their code is no longer. A constant
-- expression that does not fault counts 2: its push and, where a variable begins with it, its store. Each other definition, statement, block,
-- operator, call, subscript, name and constant counts 8 and its parts.
use Rattle.std.specs.Prelude.{ℕ, ◌+◌, List, Option, None, Some, sum_by}
use Rattle.snl_syntax.specs.Expressions.{ExprTree, TermList, ArgumentList, constant, parenthesized, named, element, call, postfix, prefix, chain, conditional, assignment, no_terms, term, no_arguments, value, text}
use Rattle.snl_syntax.specs.Declarations.{DeclaratorTree, DeclarationTree}
use Rattle.snl_syntax.specs.Statements.{StatementTree, StatementList, BlockTree, nested, empty, expression, break_loop, continue_loop, change_state, return_with, if_then, if_else, while_loop, for_loop, no_statements, statement, block}
use Rattle.snl_names.specs.declared.constants.Constant.{Constant}
use Rattle.snl_names.specs.declared.constants.Constant.TheVariants.{Worth}
use Rattle.snl_names.specs.declared.sites.Site.{Site}
use Rattle.snl_names.specs.Constants.{of_token, joined}
use Rattle.snl_meaning.specs.Effect.{values_of}
use Rattle.snl_emit.specs.Worth.{of_use, worth_of, worth_or}

-- 2 for what is constant and does not fault.
abbrev pub sized : Constant → ℕ → ℕ
sized c size = worth_or c (λ z. 2) size

-- The size of a part that may be missing.
abbrev pub maybe_size : {A : Type 0} → (A → ℕ) → Option A → ℕ
maybe_size size None = 0
maybe_size size (Some a) = size a

-- ---- expressions

abbrev mutual
  -- an expression
  pub expression_size : List Site → ExprTree → ℕ
  expression_size sites (constant t) = sized (of_token t.kind t.text.now) 8
  expression_size sites (parenthesized e) = expression_size sites e
  expression_size sites (named x) = sized (of_use sites x) 8
  expression_size sites (element x b e) = 8 + (8 + expression_size sites e)
  expression_size sites (call f all) = 8 + (8 + arguments_size sites all)
  expression_size sites (postfix e op) = 8 + expression_size sites e
  expression_size sites (prefix op e) = sized (worth_of sites (prefix op e)) (8 + expression_size sites e)
  expression_size sites (chain e rest) = lead_size sites rest (worth_of sites e) (expression_size sites e)
  expression_size sites (conditional c a b) =
      sized (worth_of sites (conditional c a b)) (8 + (expression_size sites c + (expression_size sites a + expression_size sites b)))
  expression_size sites (assignment e op r) = 8 + (expression_size sites e + expression_size sites r)

  -- the operators and operands of one level, after what stands left of them, which is worth so much and has this size
  pub lead_size : List Site → TermList → Constant → ℕ → ℕ
  lead_size sites no_terms left size = size
  lead_size sites (term op e rest) left size =
      worth_or (joined op.kind left (worth_of sites e)) (λ z. lead_size sites rest (Worth z) 2) (size + (8 + (expression_size sites e + terms_size sites rest)))

  -- those behind the front that is constant
  pub terms_size : List Site → TermList → ℕ
  terms_size sites no_terms = 0
  terms_size sites (term op e rest) = 8 + (expression_size sites e + terms_size sites rest)

  -- the arguments of a call
  pub arguments_size : List Site → ArgumentList → ℕ
  arguments_size sites no_arguments = 0
  arguments_size sites (text t rest) = 8 + arguments_size sites rest
  arguments_size sites (value e rest) = expression_size sites e + arguments_size sites rest

-- A subscript, or the size of an array.
abbrev pub subscript_size : List Site → ExprTree → ℕ
subscript_size sites e = 8 + expression_size sites e

-- ---- declarations

-- A declared name, with the sizes of an array and with what it begins with.
abbrev pub declarator_size : List Site → DeclaratorTree → ℕ
declarator_size sites d = 8 + (sum_by (subscript_size sites) d.sizes + sum_by (expression_size sites) (values_of d.initial))

-- A declaration.
abbrev pub declaration_size : List Site → DeclarationTree → ℕ
declaration_size sites d = 8 + sum_by (declarator_size sites) d.names

-- ---- statements

abbrev mutual
  -- a statement
  pub statement_size : List Site → StatementTree → ℕ
  statement_size sites (nested b) = block_size sites b
  statement_size sites empty = 8
  statement_size sites (expression e) = 8 + expression_size sites e
  statement_size sites (break_loop t) = 8
  statement_size sites (continue_loop t) = 8
  statement_size sites (change_state t x) = 8 + 8
  statement_size sites (return_with t e) = 8 + maybe_size (expression_size sites) e
  statement_size sites (if_then c s) = 8 + (expression_size sites c + statement_size sites s)
  statement_size sites (if_else c s e) = 8 + (expression_size sites c + (statement_size sites s + statement_size sites e))
  statement_size sites (while_loop t c s) = 8 + (expression_size sites c + statement_size sites s)
  statement_size sites (for_loop t parts s) =
      8 + (maybe_size (expression_size sites) parts.start + (maybe_size (expression_size sites) parts.condition
      + (maybe_size (expression_size sites) parts.step + statement_size sites s)))

  -- statements in a row
  pub statements_size : List Site → StatementList → ℕ
  statements_size sites no_statements = 0
  statements_size sites (statement s rest) = statement_size sites s + statements_size sites rest

  -- a block
  pub block_size : List Site → BlockTree → ℕ
  block_size sites (block ds all) = 8 + (sum_by (declaration_size sites) ds + statements_size sites all)
