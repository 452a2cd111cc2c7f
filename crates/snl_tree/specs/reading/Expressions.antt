-- How expressions are read, one definition for each function of the code. The depth that is left decides
-- what may be nested: with none, the readers of nested parts are missing.
use Rattle.std.specs.Prelude.{ℕ, ◌+◌, ◌-◌, if◌then◌else◌, Bool, true, false, Ok, Err, not, ◌&&◌, ◌==◌, List, [], ◌∷◌, Option, Some, None, ◌⊎◌}
use Rattle.std.proofs.Common.{inl, inr, zero, suc}
use Rattle.snl_text.specs.declared.tokens.Token.{Token}
use Rattle.snl_text.specs.declared.kinds.Kind.{Kind}
use Rattle.snl_text.specs.declared.kinds.Kind.TheVariants.{Name, Text, OpenParenthesis, CloseParenthesis, OpenBracket, CloseBracket, Comma, Colon, Question}
use Rattle.snl_syntax.specs.Kinds.{is, is_constant, is_prefix, looseness}
use Rattle.snl_tree.specs.reading.Readers.{Read, Reader, ◌>>=◌, Stuck, Deep, starts, one, sign, both, either, choice, nothing, many, under, made}
use Rattle.snl_syntax.specs.view.Lists.{with_argument, term_list}
use Rattle.snl_syntax.specs.Expressions.{ExprTree, ArgumentList, constant, parenthesized, named, element, call, postfix, prefix, chain, conditional, assignment, no_arguments}

-- The readers of nested parts.
pub record Inside : Type 0 where
  pub unary : Reader ExprTree
  pub conditional : Reader ExprTree
  pub assignment : Reader ExprTree
  pub expression : Reader ExprTree

-- '(' expr ')'
unfoldable pub parenthesized_at : Option Inside → Reader ExprTree
parenthesized_at i = made (λ x. parenthesized x.1.0)
    (under (is OpenParenthesis) i (sign OpenParenthesis) (λ d. both d.expression (λ _. sign CloseParenthesis)))

-- asg | STRING
abbrev pub Argument : Type 0
Argument = Token ⊎ ExprTree

unfoldable pub argument_at : Inside → Reader Argument
argument_at d = either (is Text) (one (is Text)) d.assignment

abbrev pub argument_list : List (Unit {0} × Argument) → ArgumentList
argument_list [] = no_arguments
argument_list (x ∷ xs) = with_argument x.1 (argument_list xs)

abbrev pub all_arguments : (Argument × List (Unit {0} × Argument)) ⊎ Unit {0} → ArgumentList
all_arguments (inl x) = with_argument x.0 (argument_list x.1)
all_arguments (inr _) = no_arguments

abbrev pub is_no_close : Kind → Bool
is_no_close k = not (is CloseParenthesis k)

unfoldable pub more_arguments_at : Inside → Reader (List (Unit {0} × Argument))
more_arguments_at d = many (is Comma) (both (sign Comma) (λ _. argument_at d))

-- [ arg ( ',' arg )* ]
unfoldable pub arguments_at : Inside → Reader ArgumentList
arguments_at d = made all_arguments (either is_no_close (both (argument_at d) (λ _. more_arguments_at d)) nothing)

abbrev pub named_tree : Token → (Token × (ExprTree × Unit {0})) ⊎ ((Unit {0} × (ArgumentList × Unit {0})) ⊎ Unit {0}) → ExprTree
named_tree x (inl e) = element x e.0 e.1.0
named_tree x (inr (inl all)) = call x all.1.0
named_tree x (inr (inr _)) = named x

-- NAME [ '[' expr ']' ] | NAME '(' arguments ')'
unfoldable pub named_at : Option Inside → Reader ExprTree
named_at i = made (λ x. named_tree x.0 x.1) (both (one (is Name)) (λ _.
    either (is OpenBracket) (under (is OpenBracket) i (one (is OpenBracket)) (λ d. both d.expression (λ _. sign CloseBracket)))
    (either (is OpenParenthesis) (under (is OpenParenthesis) i (sign OpenParenthesis) (λ d. both (arguments_at d) (λ _. sign CloseParenthesis)))
    nothing)))

unfoldable pub primary_at : Option Inside → Reader ExprTree
primary_at i = choice is_constant (made constant (one is_constant)) (choice (is OpenParenthesis) (parenthesized_at i) (named_at i))

-- `++` and `--`
abbrev pub is_step : Kind → Bool
is_step k = looseness k == 1

abbrev pub postfix_tree : ExprTree → Token ⊎ Unit {0} → ExprTree
postfix_tree e (inl op) = postfix e op
postfix_tree e (inr _) = e

-- prim [ '++' | '--' ]
unfoldable pub postfix_at : Option Inside → Reader ExprTree
postfix_at i = made (λ x. postfix_tree x.0 x.1) (both (primary_at i) (λ _. either is_step (one is_step) nothing))

-- a prefix operator and a unary
unfoldable pub prefixed_at : Option Inside → Reader ExprTree
prefixed_at i = made (λ x. prefix x.0 x.1) (under is_prefix i (one is_prefix) (λ d. d.unary))

unfoldable pub unary_at : Option Inside → Reader ExprTree
unary_at i = choice is_prefix (prefixed_at i) (postfix_at i)

-- an operator that binds so loosely
abbrev pub is_operator : ℕ → Kind → Bool
is_operator r k = looseness k == r

abbrev pub chain_tree : ExprTree → List (Token × ExprTree) → ExprTree
chain_tree e [] = e
chain_tree e (x ∷ xs) = chain e (term_list (x ∷ xs))

-- the operators of one level, and the operands after them
unfoldable pub terms_at : ℕ → Reader ExprTree → Reader (List (Token × ExprTree))
terms_at r operand = many (is_operator r) (both (one (is_operator r)) (λ _. operand))

-- operands with the operators of one level between them
unfoldable pub chain_at : ℕ → Reader ExprTree → Reader ExprTree
chain_at r operand = made (λ x. chain_tree x.0 x.1) (both operand (λ _. terms_at r operand))

-- so many levels of binary operators above the unary
unfoldable pub binary_at : Option Inside → ℕ → Reader ExprTree
binary_at i zero = unary_at i
binary_at i (suc k) = chain_at (suc (suc (suc k))) (binary_at i k)

abbrev pub conditional_tree : ExprTree → (Unit {0} × (ExprTree × (Unit {0} × ExprTree))) ⊎ Unit {0} → ExprTree
conditional_tree c (inl x) = conditional c x.1.0 x.1.1.1
conditional_tree c (inr _) = c

-- binary [ '?' expr ':' cond ]
unfoldable pub conditional_at : Option Inside → Reader ExprTree
conditional_at i = made (λ x. conditional_tree x.0 x.1) (both (binary_at i 10) (λ _.
    either (is Question) (under (is Question) i (sign Question) (λ d. both d.expression (λ _. both (sign Colon) (λ _. d.conditional)))) nothing))

-- A unary expression: no operators of a level, no conditional, no assignment.
abbrev pub is_unary : ExprTree → Bool
is_unary (chain e rest) = false
is_unary (conditional c a b) = false
is_unary (assignment e op f) = false
is_unary _ = true

-- an assignment operator after a unary
abbrev pub is_assignment : ExprTree → Kind → Bool
is_assignment e k = is_unary e && is_operator 14 k

abbrev pub assignment_tree : ExprTree → (Token × ExprTree) ⊎ Unit {0} → ExprTree
assignment_tree e (inl x) = assignment e x.0 x.1
assignment_tree e (inr _) = e

-- cond | unary asgop asg
unfoldable pub assignment_at : Option Inside → Reader ExprTree
assignment_at i = made (λ x. assignment_tree x.0 x.1) (both (conditional_at i) (λ e.
    either (is_assignment e) (under (is_assignment e) i (one (is_assignment e)) (λ d. d.assignment)) nothing))

-- asg ( ',' asg )*
unfoldable pub expression_at : Option Inside → Reader ExprTree
expression_at i = chain_at 15 (assignment_at i)

-- The readers of nested parts, with so much depth left for what is nested in those.
abbrev pub readers : Option Inside → Inside
readers i = record { unary = unary_at i; conditional = conditional_at i; assignment = assignment_at i; expression = expression_at i }

-- What is nested in an expression with so much depth left.
abbrev pub inside : ℕ → Option Inside
inside zero = None
inside (suc n) = Some (readers (inside n))

-- What holds together so tightly, by its number from 2 to 15.
unfoldable pub level_at : Option Inside → ℕ → Reader ExprTree
level_at i r = if r == 13 then conditional_at i else (if r == 14 then assignment_at i else (if r == 15 then expression_at i else binary_at i (r - 2)))

-- The sign that opens a nested part, where depth is left.
abbrev pub opened : {A : Type 0} → ℕ → (Kind → Bool) → Reader A → Reader A
opened zero test opener ts = elim (starts test ts) [ true ↦ Err (Deep ts) | false ↦ Err (Stuck ts) ]
opened (suc n) test opener ts = opener ts

-- How loosely the first token holds what stands before it; at the end as one that can't go on.
abbrev pub here : List Token → ℕ
here [] = 16
here (t ∷ ts) = looseness t.kind

-- the operators of a level after a tree, and their operands
unfoldable pub chained : ℕ → ℕ → ExprTree → List Token → Read ExprTree
chained n r e ts = terms_at r (level_at (inside n) (r - 1)) ts >>= λ x. Ok (chain_tree e x.0, x.1)

-- the same for so many levels, each looser than the one before
unfoldable pub climbed : ℕ → ℕ → ℕ → ExprTree → List Token → Read ExprTree
climbed n tightness zero e ts = Ok (e, ts)
climbed n tightness (suc k) e ts = climbed n tightness k e ts >>= λ x. chained n (suc (tightness + k)) x.0 x.1

-- a subscript after a name
unfoldable pub element_rest : ℕ → Token → List Token → Read ExprTree
element_rest n t ts = opened n (is OpenBracket) (one (is OpenBracket)) ts >>= λ x. level_at (inside (n - 1)) 15 x.1 >>= λ y. sign CloseBracket y.1 >>= λ z. Ok (element t x.0 y.0, z.1)

-- the arguments of a call after its name
unfoldable pub call_rest : ℕ → Token → List Token → Read ExprTree
call_rest n t ts = opened n (is OpenParenthesis) (sign OpenParenthesis) ts >>= λ x. arguments_at (readers (inside (n - 1))) x.1 >>= λ y. sign CloseParenthesis y.1 >>= λ z. Ok (call t y.0, z.1)

-- what stands after a name
unfoldable pub named_rest : ℕ → Token → List Token → Read ExprTree
named_rest n t ts = elim (starts (is OpenBracket) ts) [
  | true ↦ element_rest n t ts
  | false ↦ elim (starts (is OpenParenthesis) ts) [ true ↦ call_rest n t ts | false ↦ Ok (named t, ts) ]
]

-- `++` or `--` after an expression
unfoldable pub stepped : ExprTree → List Token → Read ExprTree
stepped e ts = elim (starts is_step ts) [ true ↦ (one is_step ts >>= λ x. Ok (postfix e x.0, x.1)) | false ↦ Ok (e, ts) ]

-- what stands after a condition
unfoldable pub conditional_rest : ℕ → ExprTree → List Token → Read ExprTree
conditional_rest n c ts = elim (starts (is Question) ts) [
  | true ↦ (opened n (is Question) (sign Question) ts >>= λ q. level_at (inside (n - 1)) 15 q.1 >>= λ a. sign Colon a.1 >>= λ s. conditional_at (inside (n - 1)) s.1 >>= λ b. Ok (conditional c a.0 b.0, b.1))
  | false ↦ Ok (c, ts)
]

-- what stands after a target
unfoldable pub assigned_rest : ℕ → ExprTree → List Token → Read ExprTree
assigned_rest n e ts = elim (is_unary e && starts (is_operator 14) ts) [
  | true ↦ (opened n (is_operator 14) (one (is_operator 14)) ts >>= λ x. assignment_at (inside (n - 1)) x.1 >>= λ y. Ok (assignment e x.0 y.0, y.1))
  | false ↦ Ok (e, ts)
]

-- arguments after others
unfoldable pub more_after : Inside → (ArgumentList → ArgumentList) → List Token → Read ArgumentList
more_after d before ts = more_arguments_at d ts >>= λ x. Ok (before (argument_list x.0), x.1)

-- an operator of a level and its operand
unfoldable pub term_at : ℕ → ℕ → Reader (Token × ExprTree)
term_at n r = both (one (is_operator r)) (λ _. level_at (inside n) (r - 1))
