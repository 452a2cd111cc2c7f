-- What expressions are worth in every run, by the sites of their program: those say which names have a declaration.
use Rattle.std.specs.Prelude.{ℤ, List, Option, None, Some}
use Rattle.snl_text.specs.declared.tokens.Pos.{Pos}
use Rattle.snl_text.specs.declared.tokens.Token.{Token}
use Rattle.snl_syntax.specs.Expressions.{ExprTree, TermList, constant, parenthesized, named, element, call, postfix, prefix, chain, conditional, assignment, no_terms, term}
use Rattle.snl_names.specs.declared.sites.Site.{Site}
use Rattle.snl_names.specs.declared.constants.Constant.{Constant}
use Rattle.snl_names.specs.declared.constants.Constant.TheVariants.{Varies, Faults, Worth}
use Rattle.snl_names.specs.Constants.{predefined, worth, of_token, joined, chosen, prefixed}
use Rattle.snl_names.specs.Uses.{declared_in}

-- A number that a name is predefined to be, unless the name has a declaration.
abbrev pub unless_declared : Option Pos → Option ℤ → Constant
unless_declared (Some d) number = Varies
unless_declared None number = worth number

-- A name: it is constant where it is predefined and its own declaration does not hide that.
abbrev pub of_use : List Site → Token → Constant
of_use sites x = unless_declared (declared_in x.pos.offset sites) (predefined x.text.now)

-- What an expression is worth in every run.
abbrev mutual
  pub worth_of : List Site → ExprTree → Constant
  worth_of sites (constant t) = of_token t.kind t.text.now
  worth_of sites (parenthesized e) = worth_of sites e
  worth_of sites (named x) = of_use sites x
  worth_of sites (element x b e) = Varies
  worth_of sites (call f all) = Varies
  worth_of sites (postfix e op) = Varies
  worth_of sites (prefix op e) = prefixed op.kind (worth_of sites e)
  worth_of sites (chain e rest) = worth_chain sites rest (worth_of sites e)
  worth_of sites (conditional c a b) = chosen (worth_of sites c) (worth_of sites a) (worth_of sites b)
  worth_of sites (assignment e op r) = Varies

  -- operators and operands after what stands left of them
  pub worth_chain : List Site → TermList → Constant → Constant
  worth_chain sites no_terms left = left
  worth_chain sites (term op e rest) left = worth_chain sites rest (joined op.kind left (worth_of sites e))

-- What is made of the number of a constant expression; where there is none, or it faults, something else.
abbrev pub worth_or : {A : Type 0} → Constant → (ℤ → A) → A → A
worth_or (Worth z) made other = made z
worth_or Varies made other = other
worth_or Faults made other = other

-- The number that an expression is in every run.
abbrev pub constant_number : List Site → ExprTree → Option ℤ
constant_number sites e = worth_or (worth_of sites e) Some None
