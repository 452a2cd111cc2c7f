-- The plain tree of a declared one.
use Rattle.std.specs.Prelude.{List, [], ◌∷◌, map, Box, Vec, ◌⊎◌}
use Rattle.std.proofs.Common.{inl, inr, Global}
use Rattle.snl_text.specs.declared.tokens.Token.{Token}
use Rattle.snl_syntax.specs.declared.expressions.Term.{Term}
use Rattle.snl_syntax.specs.declared.expressions.Expr.{Expr, Constant, Parenthesized', Named, Element', Call', Postfix', Prefix', Chain', Conditional', Assignment', Row_of-Term, end_of-Term, more_of-Term, Row_of-Argument, end_of-Argument, more_of-Argument}
use Rattle.snl_syntax.specs.declared.expressions.Argument.{Argument, Value', Text}
use Rattle.snl_syntax.specs.view.Lists.{with_argument}
use Rattle.snl_syntax.specs.Expressions.{ExprTree, TermList, ArgumentList, constant, parenthesized, named, element, call, postfix, prefix, chain, conditional, assignment, no_terms, term, no_arguments, value, text}

abbrev mutual
  pub view : Expr → ExprTree
  view (Constant t) = constant t
  view (Parenthesized' p e) = parenthesized (view e)
  view (Named t) = named t
  view (Element' t b p e) = element t b (view e)
  view (Call' t shape all) = call t (view_arguments all)
  view (Postfix' p e t) = postfix (view e) t
  view (Prefix' t p e) = prefix t (view e)
  view (Chain' p e shape rest) = chain (view e) (view_terms rest)
  view (Conditional' p c q a r b) = conditional (view c) (view a) (view b)
  view (Assignment' p e t q f) = assignment (view e) t (view f)

  pub view_terms : {m : _} → Row_of-Term m → TermList
  view_terms end_of-Term = no_terms
  view_terms (more_of-Term op p e rest) = term op (view e) (view_terms rest)

  pub view_arguments : {m : _} → Row_of-Argument m → ArgumentList
  view_arguments end_of-Argument = no_arguments
  view_arguments (more_of-Argument (Value' p e) rest) = value (view e) (view_arguments rest)
  view_arguments (more_of-Argument (Text t) rest) = text t (view_arguments rest)

-- the tree that a box holds
abbrev pub boxed : Box Expr Global → ExprTree
boxed b = view b.value

-- operators with their operands, in the place of a row of the declared ones
abbrev pub pair_of : Term → Token × ExprTree
pair_of t = (t.operator, view t.operand.value)

abbrev pub pairs : Vec Term Global → List (Token × ExprTree)
pairs v = map pair_of v.items

abbrev pub argument_of : Argument → Token ⊎ ExprTree
argument_of (Value' p e) = inr (view e)
argument_of (Text t) = inl t

-- arguments before others
abbrev pub list_before : List Argument → ArgumentList → ArgumentList
list_before [] rest = rest
list_before (a ∷ all) rest = with_argument (argument_of a) (list_before all rest)

abbrev pub arguments_of : Vec Argument Global → ArgumentList
arguments_of v = list_before v.items no_arguments
