-- The trees of expressions: their spelling, and when they are well formed.
use Rattle.std.specs.Prelude.{◌≡◌, ℕ, ◌≤◌, ◌<◌, true, List, [], ◌∷◌, ◌++◌, ◌⊎◌}
use Rattle.std.proofs.Common.{zero, suc}
use Rattle.snl_text.specs.declared.tokens.Token.{Token}
use Rattle.snl_text.specs.declared.kinds.Kind.TheVariants.{Name, Text, OpenParenthesis, CloseParenthesis, OpenBracket, CloseBracket, Comma, Colon, Question}
use Rattle.snl_syntax.specs.Kinds.{is_constant, is_prefix, looseness}
use Rattle.snl_syntax.specs.Slots.{Slot, The, Sign}

-- An expression without the pointers of the declared one. The operators of one level and their operands
-- are one list, so the depth of a tree is that of its nesting and not the length of a sum.
mutual
  pub data ExprTree : Type 0 where
    constant : Token → ExprTree
    parenthesized : ExprTree → ExprTree
    named : Token → ExprTree
    element : Token → Token → ExprTree → ExprTree
    call : Token → ArgumentList → ExprTree
    postfix : ExprTree → Token → ExprTree
    prefix : Token → ExprTree → ExprTree
    chain : ExprTree → TermList → ExprTree
    conditional : ExprTree → ExprTree → ExprTree → ExprTree
    assignment : ExprTree → Token → ExprTree → ExprTree

  -- operators, each with the operand after it
  pub data TermList : Type 0 where
    no_terms : TermList
    term : Token → ExprTree → TermList → TermList

  pub data ArgumentList : Type 0 where
    no_arguments : ArgumentList
    value : ExprTree → ArgumentList → ArgumentList
    text : Token → ArgumentList → ArgumentList

-- The spelling, one line a form:
--   expr    : asg ( ',' asg )*
--   asg     : cond | unary asgop asg
--   cond    : binary [ '?' expr ':' cond ]
--   binary  : operands with the operators of one level between them
--   unary   : ( '+' | '-' | '!' | '~' | '++' | '--' ) unary | postfix
--   postfix : prim [ '++' | '--' ]
--   prim    : WHOLE | DECIMAL | CHARACTER | '(' expr ')' | NAME [ '[' expr ']' ] | NAME '(' [ arg ( ',' arg )* ] ')'
--   arg     : asg | STRING
abbrev mutual
  pub slots : ExprTree → List Slot
  slots (constant t) = The t ∷ []
  slots (parenthesized e) = Sign OpenParenthesis ∷ (slots e ++ Sign CloseParenthesis ∷ [])
  slots (named x) = The x ∷ []
  slots (element x b e) = The x ∷ The b ∷ (slots e ++ Sign CloseBracket ∷ [])
  slots (call f all) = The f ∷ Sign OpenParenthesis ∷ (argument_slots all ++ Sign CloseParenthesis ∷ [])
  slots (postfix e op) = slots e ++ The op ∷ []
  slots (prefix op e) = The op ∷ slots e
  slots (chain e rest) = slots e ++ term_slots rest
  slots (conditional c a b) = slots c ++ Sign Question ∷ (slots a ++ Sign Colon ∷ slots b)
  slots (assignment e op f) = slots e ++ The op ∷ slots f

  pub term_slots : TermList → List Slot
  term_slots no_terms = []
  term_slots (term op e rest) = The op ∷ (slots e ++ term_slots rest)

  pub argument_slots : ArgumentList → List Slot
  argument_slots no_arguments = []
  argument_slots (value e rest) = slots e ++ more_slots rest
  argument_slots (text t rest) = The t ∷ more_slots rest

  -- arguments after another one
  pub more_slots : ArgumentList → List Slot
  more_slots no_arguments = []
  more_slots (value e rest) = Sign Comma ∷ (slots e ++ more_slots rest)
  more_slots (text t rest) = Sign Comma ∷ The t ∷ more_slots rest

-- How loosely the first operator of a list binds; 16 where there is none.
abbrev pub terms_rank : TermList → ℕ
terms_rank no_terms = 16
terms_rank (term op e rest) = looseness op.kind

-- The levels of expressions, by how loosely they hold together; the binary operators are 3 to 12.
abbrev pub primary : ℕ
primary = 0

abbrev pub stepped : ℕ
stepped = 1

abbrev pub unary : ℕ
unary = 2

abbrev pub binary : ℕ
binary = 12

abbrev pub condition : ℕ
condition = 13

abbrev pub assigned : ℕ
assigned = 14

abbrev pub any : ℕ
any = 15

-- How loosely an expression holds together: names, constants, calls and all in parentheses most tightly, then
-- `++` and `--` after, prefix operators, the binary ones, the conditional, assignments, and the comma.
abbrev pub rank : ExprTree → ℕ
rank (constant t) = primary
rank (parenthesized e) = primary
rank (named x) = primary
rank (element x b e) = primary
rank (call f all) = primary
rank (postfix e op) = stepped
rank (prefix op e) = unary
rank (chain e rest) = terms_rank rest
rank (conditional c a b) = condition
rank (assignment e op f) = assigned

-- It holds together at least as tightly as a level.
abbrev pub Holds : ℕ → ExprTree → Type 0
Holds level e = rank e ≤ level

-- The operators of a chain: a level of the binary ones, or the comma.
abbrev pub IsLevel : ℕ → Type 0
IsLevel r = ((3 ≤ r) × (r ≤ 12)) ⊎ (r ≡ 15)

-- One deeper, where depth is left.
abbrev pub Under : ℕ → (ℕ → Type 0) → Type 0
Under zero P = ⊥
Under (suc n) P = P n

-- Well formed, and nested at most so deep: each kind of token where it belongs, and each operand of a
-- form that holds together tightly enough for it. What opens a nested part is a parenthesis, a bracket, a
-- prefix operator, a `?` and an assignment operator.
abbrev mutual
  pub IsWell : ExprTree → ℕ → Type 0
  IsWell (constant t) n = is_constant t.kind ≡ true
  IsWell (parenthesized e) n = Under n (λ m. Holds any e × IsWell e m)
  IsWell (named x) n = x.kind ≡ Name
  IsWell (element x b e) n = (x.kind ≡ Name) × (b.kind ≡ OpenBracket) × Under n (λ m. Holds any e × IsWell e m)
  IsWell (call f all) n = (f.kind ≡ Name) × Under n (λ m. AreWell all m)
  IsWell (postfix e op) n = Holds primary e × IsWell e n × (looseness op.kind ≡ stepped)
  IsWell (prefix op e) n = (is_prefix op.kind ≡ true) × Under n (λ m. Holds unary e × IsWell e m)
  IsWell (chain e rest) n = IsLevel (terms_rank rest) × (rank e < terms_rank rest) × IsWell e n × HasTerms rest (terms_rank rest) n
  IsWell (conditional c a b) n = Holds binary c × IsWell c n × Under n (λ m. Holds any a × IsWell a m × Holds condition b × IsWell b m)
  IsWell (assignment e op f) n = Holds unary e × IsWell e n × (looseness op.kind ≡ assigned) × Under n (λ m. Holds assigned f × IsWell f m)

  -- operators of one level, each with an operand that is tighter
  pub HasTerms : TermList → ℕ → ℕ → Type 0
  HasTerms no_terms r n = Unit {0}
  HasTerms (term op e rest) r n = (looseness op.kind ≡ r) × (rank e < r) × IsWell e n × HasTerms rest r n

  -- assignments and strings
  pub AreWell : ArgumentList → ℕ → Type 0
  AreWell no_arguments n = Unit {0}
  AreWell (value e rest) n = Holds assigned e × IsWell e n × AreWell rest n
  AreWell (text t rest) n = (t.kind ≡ Text) × AreWell rest n

-- An expression that may stand where a level is asked for, nested at most n deep.
abbrev pub Fits : ℕ → ExprTree → ℕ → Type 0
Fits level e n = Holds level e × IsWell e n

-- An expression, nested at most n deep.
abbrev pub IsExpr : ℕ → ExprTree → Type 0
IsExpr n e = Fits any e n
