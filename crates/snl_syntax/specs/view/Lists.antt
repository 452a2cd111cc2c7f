-- The lists of the plain trees, made of lists of their parts.
use Rattle.std.specs.Prelude.{List, [], ◌∷◌, ◌⊎◌}
use Rattle.std.proofs.Common.{inl, inr}
use Rattle.snl_text.specs.declared.tokens.Token.{Token}
use Rattle.snl_syntax.specs.Expressions.{ExprTree, TermList, ArgumentList, no_terms, term, value, text}
use Rattle.snl_syntax.specs.Statements.{StatementTree, StatementList, no_statements, statement}

-- operators with their operands
abbrev pub term_list : List (Token × ExprTree) → TermList
term_list [] = no_terms
term_list (x ∷ xs) = term x.0 x.1 (term_list xs)

-- a string or an expression before other arguments
abbrev pub with_argument : Token ⊎ ExprTree → ArgumentList → ArgumentList
with_argument (inl t) rest = text t rest
with_argument (inr e) rest = value e rest

-- statements
abbrev pub statement_list : List StatementTree → StatementList
statement_list [] = no_statements
statement_list (s ∷ all) = statement s (statement_list all)
