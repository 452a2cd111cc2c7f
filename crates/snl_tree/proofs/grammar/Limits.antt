-- What is read where more depth is left.
use Rattle.std.proofs.Common.{◌≡◌, ℕ, zero, suc, ◌≤◌, ◌+◌, List, Option, Some, None, Bool, length, lit≤, subst, arith}
use Rattle.snl_text.specs.declared.tokens.Token.{Token}
use Rattle.snl_text.specs.declared.kinds.Kind.{Kind}
use Rattle.snl_text.specs.declared.kinds.Kind.TheVariants.{Name, Text, OpenParenthesis, CloseParenthesis, OpenBracket, CloseBracket, Comma, Colon, Question}
use Rattle.snl_syntax.specs.Kinds.{is, is_constant, is_prefix}
use Rattle.snl_tree.specs.reading.Readers.{Reader, left, one, sign, both, either, nothing, under, made}
use Rattle.snl_syntax.specs.Expressions.{ExprTree, constant, parenthesized, prefix}
use Rattle.snl_tree.specs.reading.Expressions.{Inside, parenthesized_at, argument_at, all_arguments, is_no_close, more_arguments_at, arguments_at, named_tree, named_at, primary_at, is_step, postfix_tree, postfix_at, prefixed_at, unary_at, is_operator, chain_tree, terms_at, chain_at, binary_at, conditional_tree, conditional_at, is_assignment, assignment_tree, assignment_at, expression_at, readers, inside}
use Rattle.snl_tree.proofs.spelling.Laws.{ends}
use Rattle.snl_tree.proofs.spelling.Growth.{Grows, Opens, grows_one, grows_sign, grows_nothing, grows_made, grows_both, grows_either, grows_choice, grows_many, opens_one, opens_sign, grows_under_none, grows_under_some}
use Rattle.snl_tree.proofs.grammar.Inside.{expr_shape, InsideLaws}
use Rattle.snl_tree.proofs.grammar.Primaries.{closed_shape, reads_closed, listed_shape, reads_listed}
use Rattle.snl_tree.proofs.grammar.Operators.{choices_shape, reads_choices, deeper}

-- the readers of nested parts on the right have more depth left
pub record InsideGrows (low high : Inside) : Type 0 where
  pub unary : Grows low.unary high.unary
  pub conditional : Grows low.conditional high.conditional
  pub assignment : Grows low.assignment high.assignment
  pub expression : Grows low.expression high.expression

-- more depth is left on the right
abbrev Higher : Option Inside → Option Inside → Type 0
Higher None None = ⊥
Higher None (Some d) = (m : ℕ) × InsideLaws m d
Higher (Some l) None = ⊥
Higher (Some l) (Some h) = InsideGrows l h

-- a nested part grows with the depth where its reader does
grows_under : {A B : Type 0} (i j : Option Inside) → Higher i j → (test : Kind → Bool) (opener : Reader A) → Opens test opener → Grows opener opener → (inner : Inside → Reader B)
    → ((m : ℕ) (d : Inside) → InsideLaws m d → (ts : List Token) → length (left (inner d ts)) ≤ length ts)
    → ((l h : Inside) → InsideGrows l h → Grows (inner l) (inner h))
    → Grows (under test i opener inner) (under test j opener inner)
grows_under None None k test opener o g inner e f = absurd k
grows_under None (Some d) k test opener o g inner e f = grows_under_none test opener inner d o g (e k.0 d k.1)
grows_under (Some l) None k test opener o g inner e f = absurd k
grows_under (Some l) (Some h) k test opener o g inner e f = grows_under_some test opener inner l h g (f l h k)

-- an expression with its closing sign grows with the depth
closed_grows : (K : Kind) (l h : Inside) → InsideGrows l h → Grows (both l.expression (λ _. sign K)) (both h.expression (λ _. sign K))
closed_grows K l h g = grows_both l.expression h.expression (λ _. sign K) (λ _. sign K) g.expression (λ _. grows_sign K)

-- the reader of expressions in parentheses grows with the depth
grows_parenthesized : (i j : Option Inside) → Higher i j → Grows (parenthesized_at i) (parenthesized_at j)
unfolding parenthesized_at
grows_parenthesized i j k =
    grows_made (λ x. parenthesized x.1.0) (under (is OpenParenthesis) i (sign OpenParenthesis) (λ d. both d.expression (λ _. sign CloseParenthesis)))
    (under (is OpenParenthesis) j (sign OpenParenthesis) (λ d. both d.expression (λ _. sign CloseParenthesis)))
    (grows_under i j k (is OpenParenthesis) (sign OpenParenthesis) (opens_sign OpenParenthesis) (grows_sign OpenParenthesis) (λ d. both d.expression (λ _. sign CloseParenthesis))
    (λ m d laws. ends (closed_shape CloseParenthesis m) (both d.expression (λ _. sign CloseParenthesis)) (reads_closed CloseParenthesis (lit≤ tt) m d laws)) (closed_grows CloseParenthesis))

-- the reader of arguments grows with the depth
grows_argument : (l h : Inside) → InsideGrows l h → Grows (argument_at l) (argument_at h)
unfolding argument_at
grows_argument l h g = grows_either (is Text) (one (is Text)) (one (is Text)) l.assignment h.assignment (grows_one (is Text)) g.assignment

-- the reader of further arguments grows with the depth
grows_more : (l h : Inside) → InsideGrows l h → Grows (more_arguments_at l) (more_arguments_at h)
unfolding more_arguments_at
grows_more l h g = grows_many (is Comma) (both (sign Comma) (λ _. argument_at l)) (both (sign Comma) (λ _. argument_at h))
    (grows_both (sign Comma) (sign Comma) (λ _. argument_at l) (λ _. argument_at h) (grows_sign Comma) (λ _. grows_argument l h g))

-- the reader of a list of arguments grows with the depth
grows_arguments : (l h : Inside) → InsideGrows l h → Grows (arguments_at l) (arguments_at h)
unfolding arguments_at
grows_arguments l h g =
    grows_made all_arguments (either is_no_close (both (argument_at l) (λ _. more_arguments_at l)) nothing) (either is_no_close (both (argument_at h) (λ _. more_arguments_at h)) nothing)
    (grows_either is_no_close (both (argument_at l) (λ _. more_arguments_at l)) (both (argument_at h) (λ _. more_arguments_at h)) nothing nothing
    (grows_both (argument_at l) (argument_at h) (λ _. more_arguments_at l) (λ _. more_arguments_at h) (grows_argument l h g) (λ _. grows_more l h g)) grows_nothing)

-- arguments with the closing parenthesis grow with the depth
listed_grows : (l h : Inside) → InsideGrows l h → Grows (both (arguments_at l) (λ _. sign CloseParenthesis)) (both (arguments_at h) (λ _. sign CloseParenthesis))
listed_grows l h g = grows_both (arguments_at l) (arguments_at h) (λ _. sign CloseParenthesis) (λ _. sign CloseParenthesis) (grows_arguments l h g) (λ _. grows_sign CloseParenthesis)

-- reads a subscript in brackets
abbrev subscript : Option Inside → Reader (Token × (ExprTree × Unit {0}))
subscript i = under (is OpenBracket) i (one (is OpenBracket)) (λ d. both d.expression (λ _. sign CloseBracket))

-- the reader of subscripts grows with the depth
grows_subscript : (i j : Option Inside) → Higher i j → Grows (subscript i) (subscript j)
grows_subscript i j k = grows_under i j k (is OpenBracket) (one (is OpenBracket)) (opens_one (is OpenBracket)) (grows_one (is OpenBracket)) (λ d. both d.expression (λ _. sign CloseBracket))
    (λ m d laws. ends (closed_shape CloseBracket m) (both d.expression (λ _. sign CloseBracket)) (reads_closed CloseBracket (lit≤ tt) m d laws)) (closed_grows CloseBracket)

-- the reader of names, elements and calls grows with the depth
grows_named : (i j : Option Inside) → Higher i j → Grows (named_at i) (named_at j)
unfolding named_at
grows_named i j k = grows_made (λ x. named_tree x.0 x.1) _ _
    (grows_both (one (is Name)) (one (is Name)) _ _ (grows_one (is Name)) (λ _.
    grows_either (is OpenBracket) (subscript i) (subscript j) _ _ (grows_subscript i j k)
    (grows_either (is OpenParenthesis) (under (is OpenParenthesis) i (sign OpenParenthesis) (λ d. both (arguments_at d) (λ _. sign CloseParenthesis)))
    (under (is OpenParenthesis) j (sign OpenParenthesis) (λ d. both (arguments_at d) (λ _. sign CloseParenthesis))) nothing nothing
    (grows_under i j k (is OpenParenthesis) (sign OpenParenthesis) (opens_sign OpenParenthesis) (grows_sign OpenParenthesis) (λ d. both (arguments_at d) (λ _. sign CloseParenthesis))
    (λ m d laws. ends (listed_shape m) (both (arguments_at d) (λ _. sign CloseParenthesis)) (reads_listed m d laws)) listed_grows)
    grows_nothing)))

-- the reader of primaries grows with the depth
grows_primary : (i j : Option Inside) → Higher i j → Grows (primary_at i) (primary_at j)
unfolding primary_at
grows_primary i j k = grows_choice is_constant (made constant (one is_constant)) (made constant (one is_constant)) _ _ (grows_made constant (one is_constant) (one is_constant) (grows_one is_constant))
    (grows_choice (is OpenParenthesis) (parenthesized_at i) (parenthesized_at j) (named_at i) (named_at j) (grows_parenthesized i j k) (grows_named i j k))

-- the reader of postfix expressions grows with the depth
grows_postfix : (i j : Option Inside) → Higher i j → Grows (postfix_at i) (postfix_at j)
unfolding postfix_at
grows_postfix i j k = grows_made (λ x. postfix_tree x.0 x.1) (both (primary_at i) (λ _. either is_step (one is_step) nothing)) (both (primary_at j) (λ _. either is_step (one is_step) nothing))
    (grows_both (primary_at i) (primary_at j) (λ _. either is_step (one is_step) nothing) (λ _. either is_step (one is_step) nothing) (grows_primary i j k)
    (λ _. grows_either is_step (one is_step) (one is_step) nothing nothing (grows_one is_step) grows_nothing))

-- the reader of expressions with a prefix operator grows with the depth
grows_prefixed : (i j : Option Inside) → Higher i j → Grows (prefixed_at i) (prefixed_at j)
unfolding prefixed_at
grows_prefixed i j k = grows_made (λ x. prefix x.0 x.1) (under is_prefix i (one is_prefix) (λ d. d.unary)) (under is_prefix j (one is_prefix) (λ d. d.unary))
    (grows_under i j k is_prefix (one is_prefix) (opens_one is_prefix) (grows_one is_prefix) (λ d. d.unary) (λ m d laws. ends (expr_shape m 2) d.unary laws.unary) (λ l h g. g.unary))

-- the reader of unary expressions grows with the depth
grows_unary : (i j : Option Inside) → Higher i j → Grows (unary_at i) (unary_at j)
unfolding unary_at
grows_unary i j k = grows_choice is_prefix (prefixed_at i) (prefixed_at j) (postfix_at i) (postfix_at j) (grows_prefixed i j k) (grows_postfix i j k)

-- the reader of operators and operands grows where the one of operands does
grows_terms : (r : ℕ) (low high : Reader ExprTree) → Grows low high → Grows (terms_at r low) (terms_at r high)
unfolding terms_at
grows_terms r low high g = grows_many (is_operator r) (both (one (is_operator r)) (λ _. low)) (both (one (is_operator r)) (λ _. high))
    (grows_both (one (is_operator r)) (one (is_operator r)) (λ _. low) (λ _. high) (grows_one (is_operator r)) (λ _. g))

-- the reader of chains of a level grows where the one of operands does
grows_chain : (r : ℕ) (low high : Reader ExprTree) → Grows low high → Grows (chain_at r low) (chain_at r high)
unfolding chain_at
grows_chain r low high g = grows_made (λ x. chain_tree x.0 x.1) (both low (λ _. terms_at r low)) (both high (λ _. terms_at r high))
    (grows_both low high (λ _. terms_at r low) (λ _. terms_at r high) g (λ _. grows_terms r low high g))

-- the reader of so many levels of binary operators grows with the depth
grows_binary : (i j : Option Inside) → Higher i j → (k : ℕ) → Grows (binary_at i k) (binary_at j k)
unfolding binary_at
grows_binary i j h zero = grows_unary i j h
grows_binary i j h (suc k) = grows_chain (suc (suc (suc k))) (binary_at i k) (binary_at j k) (grows_binary i j h k)

-- reads the question mark and the choices of a conditional
abbrev question : Option Inside → Reader (Unit {0} × (ExprTree × (Unit {0} × ExprTree)))
question i = under (is Question) i (sign Question) (λ d. both d.expression (λ _. both (sign Colon) (λ _. d.conditional)))

-- the choices of a conditional grow with the depth
choices_grow : (l h : Inside) → InsideGrows l h → Grows (both l.expression (λ _. both (sign Colon) (λ _. l.conditional))) (both h.expression (λ _. both (sign Colon) (λ _. h.conditional)))
choices_grow l h g = grows_both l.expression h.expression (λ _. both (sign Colon) (λ _. l.conditional)) (λ _. both (sign Colon) (λ _. h.conditional)) g.expression
    (λ _. grows_both (sign Colon) (sign Colon) (λ _. l.conditional) (λ _. h.conditional) (grows_sign Colon) (λ _. g.conditional))

-- the reader of conditionals grows with the depth
grows_conditional : (i j : Option Inside) → Higher i j → Grows (conditional_at i) (conditional_at j)
unfolding conditional_at
grows_conditional i j k =
    grows_made (λ x. conditional_tree x.0 x.1) (both (binary_at i 10) (λ _. either (is Question) (question i) nothing)) (both (binary_at j 10) (λ _. either (is Question) (question j) nothing))
    (grows_both (binary_at i 10) (binary_at j 10) (λ _. either (is Question) (question i) nothing) (λ _. either (is Question) (question j) nothing) (grows_binary i j k 10)
    (λ _. grows_either (is Question) (question i) (question j) nothing nothing
    (grows_under i j k (is Question) (sign Question) (opens_sign Question) (grows_sign Question) (λ d. both d.expression (λ _. both (sign Colon) (λ _. d.conditional)))
    (λ m d laws. ends (choices_shape m) (both d.expression (λ _. both (sign Colon) (λ _. d.conditional))) (reads_choices m d laws)) choices_grow)
    grows_nothing))

-- the reader of assignments grows with the depth
grows_assignment : (i j : Option Inside) → Higher i j → Grows (assignment_at i) (assignment_at j)
unfolding assignment_at
grows_assignment i j k = grows_made (λ x. assignment_tree x.0 x.1) _ _
    (grows_both (conditional_at i) (conditional_at j) _ _ (grows_conditional i j k)
    (λ e. grows_either (is_assignment e) (under (is_assignment e) i (one (is_assignment e)) (λ d. d.assignment)) (under (is_assignment e) j (one (is_assignment e)) (λ d. d.assignment)) nothing nothing
    (grows_under i j k (is_assignment e) (one (is_assignment e)) (opens_one (is_assignment e)) (grows_one (is_assignment e)) (λ d. d.assignment)
    (λ m d laws. ends (expr_shape m 14) d.assignment laws.assignment) (λ l h g. g.assignment))
    grows_nothing))

-- the reader of whole expressions grows with the depth
pub grows_expression : (i j : Option Inside) → Higher i j → Grows (expression_at i) (expression_at j)
unfolding expression_at
grows_expression i j k = grows_chain 15 (assignment_at i) (assignment_at j) (grows_assignment i j k)

-- more depth is left inside where more is left at first
higher : (n k : ℕ) → Higher (inside n) (inside (suc n + k))
higher zero k = subst (λ z. Higher None (inside z)) (let e : suc k ≡ 1 + k = omega arith in e) (k, deeper (suc k))
higher (suc n) k = subst (λ z. Higher (Some (readers (inside n))) (inside z)) (let e : suc (suc n + k) ≡ suc (suc n) + k = omega arith in e) record {
  unary = grows_unary (inside n) (inside (suc n + k)) (higher n k);
  conditional = grows_conditional (inside n) (inside (suc n + k)) (higher n k);
  assignment = grows_assignment (inside n) (inside (suc n + k)) (higher n k);
  expression = grows_expression (inside n) (inside (suc n + k)) (higher n k);
}

-- the reader of whole expressions gives the same with more depth, or goes on further
pub grows_with_depth : (n k : ℕ) → Grows (expression_at (inside n)) (expression_at (inside (suc n + k)))
grows_with_depth n k = grows_expression (inside n) (inside (suc n + k)) (higher n k)

-- the reader of assignments gives the same with more depth, or goes on further
pub assignment_grows : (n k : ℕ) → Grows (assignment_at (inside n)) (assignment_at (inside (suc n + k)))
assignment_grows n k = grows_assignment (inside n) (inside (suc n + k)) (higher n k)
