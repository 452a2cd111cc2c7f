-- The forms in which the code reads.
use Rattle.std.proofs.Common.{◌≡◌, ℕ, zero, suc, ◌-◌, ◌<◌, ◌≤◌, Bool, true, false, List, [], ◌∷◌, Ok, Err, Result, Option, Some, None, ◌⊎◌, inl, inr, ◌&&◌, refl, sym, ap, ◌∙◌, subst, arith, lit≤, eq-or-lt_of_le}
use Rattle.snl_text.specs.declared.tokens.Token.{Token}
use Rattle.snl_text.specs.declared.kinds.Kind.{Kind}
use Rattle.snl_text.specs.declared.kinds.Kind.TheVariants.{Name, OpenParenthesis, CloseParenthesis, OpenBracket, CloseBracket, Text, Colon, Question}
use Rattle.snl_syntax.specs.Kinds.{is, is_constant, is_prefix}
use Rattle.snl_tree.specs.reading.Readers.{Fault, Stuck, Deep, Read, Reader, starts, one, sign, both, either, nothing, under, made, ◌>>=◌}
use Rattle.snl_syntax.specs.Expressions.{ExprTree, ArgumentList, constant, parenthesized, element, call, prefix, conditional, assignment, no_arguments}
use Rattle.snl_syntax.specs.view.Lists.{with_argument}
use Rattle.snl_tree.specs.reading.Expressions.{Inside, readers, inside, opened, parenthesized_at, expression_at, level_at, named_tree, named_at, arguments_at, argument_at, argument_list, all_arguments, is_no_close, more_arguments_at, prefixed_at, unary_at, postfix_at, postfix_tree, primary_at, is_step, conditional_tree, conditional_at, binary_at, is_unary, is_assignment, is_operator, assignment_tree, assignment_at, chain_tree, terms_at, chain_at, element_rest, call_rest, named_rest, stepped, conditional_rest, assigned_rest}
use Rattle.snl_tree.proofs.grammar.Operators.{level_low}

-- going on twice from what was read is going on once with both steps
pub bind_assoc : {A B C : Type 0} (m : Result A Fault) (f : A → Result B Fault) (g : B → Result C Fault) → ((m >>= f) >>= g) ≡ (m >>= λ x. f x >>= g)
bind_assoc (Ok x) f g = refl
bind_assoc (Err e) f g = refl

-- a nested part is read after the sign that opens it, by the readers of one depth less
pub under_given : {R A B : Type 0} (given : ℕ → Option R) (reader : ℕ → R) → given zero ≡ None → ((n : ℕ) → given (suc n) ≡ Some (reader n))
    → (n : ℕ) (test : Kind → Bool) (opener : Reader A) (inner : R → Reader B) (ts : List Token)
    → under test (given n) opener inner ts ≡ (opened n test opener ts >>= λ x. inner (reader (n - 1)) x.1 >>= λ y. Ok ((x.0, y.0), y.1))
under_given {R} {A} {B} given reader missing there zero test opener inner ts = ap (λ (i : Option R). under test i opener inner ts) missing ∙ none (starts test ts)
  where
    none : (b : Bool) → ◌≡◌ {A = Read (A × B)} (elim b [ true ↦ Err (Deep ts) | false ↦ Err (Stuck ts) ])
        (let r : Read A = elim b [ true ↦ Err (Deep ts) | false ↦ Err (Stuck ts) ] in r >>= λ x. inner (reader (0 - 1)) x.1 >>= λ y. Ok ((x.0, y.0), y.1))
    none true = refl
    none false = refl
under_given {R} {A} {B} given reader missing there (suc n) test opener inner ts =
    let e : suc n - 1 ≡ n = omega arith in
    ap (λ (i : Option R). under test i opener inner ts) (there n)
    ∙ subst (λ m. both opener (λ _. inner (reader n)) ts ≡ (opener ts >>= λ x. inner (reader m) x.1 >>= λ y. Ok ((x.0, y.0), y.1))) (sym e) refl

-- a part nested in an expression is read after the sign that opens it
pub under_opened : {A B : Type 0} (n : ℕ) (test : Kind → Bool) (opener : Reader A) (inner : Inside → Reader B) (ts : List Token)
    → under test (inside n) opener inner ts ≡ (opened n test opener ts >>= λ x. inner (readers (inside (n - 1))) x.1 >>= λ y. Ok ((x.0, y.0), y.1))
under_opened = under_given inside (λ n. readers (inside n)) refl (λ _. refl)

-- going on from what was read gives the same where each next step does
pub bind_same : {A B : Type 0} (m : Result A Fault) (f g : A → Result B Fault) → ((x : A) → f x ≡ g x) → (m >>= f) ≡ (m >>= g)
bind_same (Ok x) f g h = h x
bind_same (Err e) f g h = refl

-- a choice gives the same where both of its forms do
pub elim_same : {A : Type 0} (b : Bool) (x x' y y' : A) → x ≡ x' → y ≡ y' → ◌≡◌ {A = A} (elim b [ true ↦ x | false ↦ y ]) (elim b [ true ↦ x' | false ↦ y' ])
elim_same true x x' y y' h k = h
elim_same false x x' y y' h k = k

-- going on from a choice is going on from each of its forms
pub either_form : {A B C : Type 0} (test : Kind → Bool) (u : Reader A) (v : Reader B) (ts : List Token) (g : (A ⊎ B) × List Token → Result C Fault)
    → (either test u v ts >>= g) ≡ elim (starts test ts) [ true ↦ (u ts >>= λ x. g (inl x.0, x.1)) | false ↦ (v ts >>= λ y. g (inr y.0, y.1)) ]
either_form {A} {B} {C} test u v ts g = go (starts test ts)
  where
    go : (b : Bool) → ◌≡◌ {A = Result C Fault} (let r : Read (A ⊎ B) = elim b [ true ↦ (u ts >>= λ x. Ok (inl x.0, x.1)) | false ↦ (v ts >>= λ y. Ok (inr y.0, y.1)) ] in r >>= g)
        (elim b [ true ↦ (u ts >>= λ x. g (inl x.0, x.1)) | false ↦ (v ts >>= λ y. g (inr y.0, y.1)) ])
    go true = bind_assoc (u ts) (λ x. Ok (inl x.0, x.1)) g
    go false = bind_assoc (v ts) (λ y. Ok (inr y.0, y.1)) g

-- parentheses are read as a sign, an expression and a sign
pub parenthesized_form : (n : ℕ) (ts : List Token) → parenthesized_at (inside n) ts ≡ (opened n (is OpenParenthesis) (sign OpenParenthesis) ts >>= λ x. level_at (inside (n - 1)) 15 x.1 >>= λ y.
    sign CloseParenthesis y.1 >>= λ z. Ok (parenthesized y.0, z.1))
unfolding parenthesized_at level_at
parenthesized_form n ts =
    ap (λ r. r >>= λ x. Ok (parenthesized x.0.1.0, x.1)) (under_opened n (is OpenParenthesis) (sign OpenParenthesis) (λ d. both d.expression (λ _. sign CloseParenthesis)) ts) ∙ simp bind_assoc

-- a subscript is read as a bracket, an expression and a bracket
subscript_form : (n : ℕ) (ts : List Token) (t : Token) → made (λ x. element t x.0 x.1.0) (under (is OpenBracket) (inside n) (one (is OpenBracket))
    (λ d. both d.expression (λ _. sign CloseBracket))) ts ≡ (opened n (is OpenBracket) (one (is OpenBracket)) ts >>= λ x. level_at (inside (n - 1)) 15 x.1 >>= λ y. sign CloseBracket y.1 >>= λ z.
    Ok (element t x.0 y.0, z.1))
unfolding level_at
subscript_form n ts t =
    ap (λ r. r >>= λ x. Ok (element t x.0.0 x.0.1.0, x.1)) (under_opened n (is OpenBracket) (one (is OpenBracket)) (λ d. both d.expression (λ _. sign CloseBracket)) ts) ∙ simp bind_assoc

-- a call's arguments are read as a parenthesis, the arguments and a parenthesis
call_form : (n : ℕ) (ts : List Token) (t : Token) → made (λ x. call t x.1.0) (under (is OpenParenthesis) (inside n) (sign OpenParenthesis)
    (λ d. both (arguments_at d) (λ _. sign CloseParenthesis))) ts ≡ (opened n (is OpenParenthesis) (sign OpenParenthesis) ts >>= λ x. arguments_at (readers (inside (n - 1))) x.1 >>= λ y. sign
    CloseParenthesis y.1 >>= λ z. Ok (call t y.0, z.1))
call_form n ts t =
    ap (λ r. r >>= λ x. Ok (call t x.0.1.0, x.1)) (under_opened n (is OpenParenthesis) (sign OpenParenthesis) (λ d. both (arguments_at d) (λ _. sign CloseParenthesis)) ts) ∙ simp bind_assoc

-- reads arguments in parentheses, or nothing
abbrev calls : ℕ → Reader ((Unit {0} × (ArgumentList × Unit {0})) ⊎ Unit {0})
calls n = either (is OpenParenthesis) (under (is OpenParenthesis) (inside n) (sign OpenParenthesis) (λ d. both (arguments_at d) (λ _. sign CloseParenthesis))) nothing

-- reads a subscript, arguments in parentheses or nothing
abbrev tail : ℕ → Reader ((Token × (ExprTree × Unit {0})) ⊎ ((Unit {0} × (ArgumentList × Unit {0})) ⊎ Unit {0}))
tail n = either (is OpenBracket) (under (is OpenBracket) (inside n) (one (is OpenBracket)) (λ d. both d.expression (λ _. sign CloseBracket))) (calls n)

-- what begins with a name is read as the name and what comes after it
pub named_form : (n : ℕ) (ts : List Token) → named_at (inside n) ts ≡ (one (is Name) ts >>= λ x. named_rest n x.0 x.1)
unfolding named_at named_rest element_rest call_rest
named_form n ts =
    bind_assoc (one (is Name) ts) (λ x. tail n x.1 >>= λ y. Ok ((x.0, y.0), y.1)) (λ x. Ok (named_tree x.0.0 x.0.1, x.1))
    ∙ bind_same (one (is Name) ts) (λ x. (tail n x.1 >>= λ y. Ok ((x.0, y.0), y.1)) >>= λ x. Ok (named_tree x.0.0 x.0.1, x.1)) (λ x. named_rest n x.0 x.1) (λ x.
    bind_assoc (tail n x.1) (λ y. Ok ((x.0, y.0), y.1)) (λ x. Ok (named_tree x.0.0 x.0.1, x.1))
    ∙ either_form (is OpenBracket) (under (is OpenBracket) (inside n) (one (is OpenBracket)) (λ d. both d.expression (λ _. sign CloseBracket))) (calls n) x.1 (λ y. Ok (named_tree x.0 y.0, y.1))
    ∙ elim_same (starts (is OpenBracket) x.1) _ _ _ _ (subscript_form n x.1 x.0)
    (either_form (is OpenParenthesis) (under (is OpenParenthesis) (inside n) (sign OpenParenthesis) (λ d. both (arguments_at d) (λ _. sign CloseParenthesis))) nothing x.1
    (λ y. Ok (named_tree x.0 (inr y.0), y.1))
    ∙ elim_same (starts (is OpenParenthesis) x.1) _ _ _ _ (call_form n x.1 x.0) refl))

-- a list of arguments is read as one argument and further ones, or as nothing
pub arguments_form : (d : Inside) (ts : List Token) → arguments_at d ts ≡ elim (starts is_no_close ts) [
  | true ↦
      (argument_at d ts >>= λ x. more_arguments_at d x.1 >>= λ y. Ok (with_argument x.0 (argument_list y.0), y.1))
  | false ↦ Ok (no_arguments, ts)
]
unfolding arguments_at
arguments_form d ts =
    either_form is_no_close (both (argument_at d) (λ _. more_arguments_at d)) nothing ts (λ x. Ok (all_arguments x.0, x.1))
    ∙ elim_same (starts is_no_close ts) _ _ _ _
    (bind_assoc (argument_at d ts) (λ x. more_arguments_at d x.1 >>= λ y. Ok ((x.0, y.0), y.1)) (λ x. Ok (all_arguments (inl x.0), x.1))
    ∙ bind_same (argument_at d ts) _ _ (λ x. bind_assoc (more_arguments_at d x.1) (λ y. Ok ((x.0, y.0), y.1)) (λ x. Ok (all_arguments (inl x.0), x.1))))
    refl

-- an argument is read as a string where one is there, else as an assignment
pub argument_form : (d : Inside) (ts : List Token) → argument_at d ts ≡ elim (starts (is Text) ts) [
  | true ↦ (one (is Text) ts >>= λ x. Ok (inl x.0, x.1))
  | false ↦
      (d.assignment ts >>= λ x. Ok (inr x.0, x.1))
]
unfolding argument_at
argument_form d ts = refl

-- an expression with a prefix operator is read as the operator and a unary
pub prefixed_form : (n : ℕ) (ts : List Token) → prefixed_at (inside n) ts ≡ (opened n is_prefix (one is_prefix) ts >>= λ x. unary_at (inside (n - 1)) x.1 >>= λ y. Ok (prefix x.0 y.0, y.1))
unfolding prefixed_at
prefixed_form n ts =
    ap (λ r. r >>= λ x. Ok (prefix x.0.0 x.0.1, x.1)) (under_opened n is_prefix (one is_prefix) (λ d. d.unary) ts) ∙ simp bind_assoc

-- a postfix expression is read as a primary, and `++` or `--` or nothing
postfix_form : (n : ℕ) (ts : List Token) → postfix_at (inside n) ts ≡ (primary_at (inside n) ts >>= λ x. stepped x.0 x.1)
unfolding postfix_at stepped
postfix_form n ts =
    bind_assoc (primary_at (inside n) ts) (λ x. either is_step (one is_step) nothing x.1 >>= λ y. Ok ((x.0, y.0), y.1)) (λ x. Ok (postfix_tree x.0.0 x.0.1, x.1))
    ∙ bind_same (primary_at (inside n) ts) _ (λ x. stepped x.0 x.1) (λ x.
    bind_assoc (either is_step (one is_step) nothing x.1) (λ y. Ok ((x.0, y.0), y.1)) (λ x. Ok (postfix_tree x.0.0 x.0.1, x.1))
    ∙ either_form is_step (one is_step) nothing x.1 (λ y. Ok (postfix_tree x.0 y.0, y.1)))

-- a unary is read as a prefix operator and a unary, or as a postfix expression
pub unary_form : (n : ℕ) (ts : List Token) → unary_at (inside n) ts ≡ elim (starts is_prefix ts) [
  | true ↦
      (opened n is_prefix (one is_prefix) ts >>= λ x. unary_at (inside (n - 1)) x.1 >>= λ y. Ok (prefix x.0 y.0, y.1))
  | false ↦ (primary_at (inside n) ts >>= λ x. stepped x.0 x.1)
]
unfolding unary_at
unary_form n ts = elim_same (starts is_prefix ts) _ _ _ _ (prefixed_form n ts) (postfix_form n ts)

-- the choices of a conditional are read sign by sign
question_form : (n : ℕ) (ts : List Token) (c : ExprTree) → made (λ x. conditional c x.1.0 x.1.1.1) (under (is Question) (inside n) (sign Question)
    (λ d. both d.expression (λ _. both (sign Colon) (λ _. d.conditional)))) ts ≡ (opened n (is Question) (sign Question) ts >>= λ q. level_at (inside (n - 1)) 15 q.1 >>= λ a. sign Colon a.1
    >>= λ s. conditional_at (inside (n - 1)) s.1 >>= λ b. Ok (conditional c a.0 b.0, b.1))
unfolding level_at
question_form n ts c =
    ap (λ r. r >>= λ x. Ok (conditional c x.0.1.0 x.0.1.1.1, x.1)) (under_opened n (is Question) (sign Question) (λ d. both d.expression (λ _. both (sign Colon) (λ _. d.conditional))) ts) ∙ simp
    bind_assoc

-- reads the question mark and the choices of a conditional, or nothing
abbrev question_at : ℕ → Reader ((Unit {0} × (ExprTree × (Unit {0} × ExprTree))) ⊎ Unit {0})
question_at n = either (is Question) (under (is Question) (inside n) (sign Question) (λ d. both d.expression (λ _. both (sign Colon) (λ _. d.conditional)))) nothing

-- a conditional is read as a condition and what comes after it
pub conditional_form : (n : ℕ) (ts : List Token) → conditional_at (inside n) ts ≡ (level_at (inside n) 12 ts >>= λ x. conditional_rest n x.0 x.1)
unfolding conditional_at conditional_rest
conditional_form n ts =
    ap (λ (f : Reader ExprTree). made (λ x. conditional_tree x.0 x.1) (both f (λ _. question_at n)) ts) (sym (level_low (inside n) 10 (lit≤ tt)))
    ∙ bind_assoc (level_at (inside n) 12 ts) (λ x. question_at n x.1 >>= λ y. Ok ((x.0, y.0), y.1)) (λ x. Ok (conditional_tree x.0.0 x.0.1, x.1))
    ∙ bind_same (level_at (inside n) 12 ts) _ (λ x. conditional_rest n x.0 x.1) (λ x.
    bind_assoc (question_at n x.1) (λ y. Ok ((x.0, y.0), y.1)) (λ x. Ok (conditional_tree x.0.0 x.0.1, x.1))
    ∙ either_form (is Question) (under (is Question) (inside n) (sign Question) (λ d. both d.expression (λ _. both (sign Colon) (λ _. d.conditional)))) nothing x.1
    (λ y. Ok (conditional_tree x.0 y.0, y.1))
    ∙ elim_same (starts (is Question) x.1) _ _ _ _ (question_form n x.1 x.0) refl)

-- reads an assignment operator that passes a test and the value, or nothing
abbrev value_at : (Kind → Bool) → ℕ → Reader ((Token × ExprTree) ⊎ Unit {0})
value_at test n = either test (under test (inside n) (one test) (λ d. d.assignment)) nothing

-- no tokens begin with one that passes a test that nothing passes
starts_none : (ts : List Token) → starts (λ k. false) ts ≡ false
starts_none [] = refl
starts_none (t ∷ ts) = refl

-- the value of an assignment is read where the target is a unary and an operator is there
value_form : (n : ℕ) (e : ExprTree) (ts : List Token) (b : Bool) → made (assignment_tree e) (value_at (λ k. b && is_operator 14 k) n) ts ≡ elim (b && starts (is_operator 14) ts) [
  | true ↦
      (opened n (is_operator 14) (one (is_operator 14)) ts >>= λ x. assignment_at (inside (n - 1)) x.1 >>= λ y. Ok (assignment e x.0 y.0, y.1))
  | false ↦ Ok (e, ts)
]
value_form n e ts true =
    either_form (is_operator 14) (under (is_operator 14) (inside n) (one (is_operator 14)) (λ d. d.assignment)) nothing ts (λ y. Ok (assignment_tree e y.0, y.1))
    ∙ elim_same (starts (is_operator 14) ts) _ _ _ _
    (ap (λ r. r >>= λ x. Ok (assignment e x.0.0 x.0.1, x.1)) (under_opened n (is_operator 14) (one (is_operator 14)) (λ d. d.assignment) ts) ∙ simp bind_assoc) refl
value_form n e ts false =
    either_form (λ k. false) (under (λ k. false) (inside n) (one (λ k. false)) (λ d. d.assignment)) nothing ts (λ y. Ok (assignment_tree e y.0, y.1))
    ∙ ap (λ (b : Bool). let r : Read ExprTree = elim b [
      | true ↦ (under (λ k. false) (inside n) (one (λ k. false)) (λ d. d.assignment) ts >>= λ x. Ok (assignment e x.0.0 x.0.1, x.1))
      | false ↦
          Ok (e, ts)
    ] in r) (starts_none ts)

-- an assignment is read as a target and what comes after it
pub assignment_form : (n : ℕ) (ts : List Token) → assignment_at (inside n) ts ≡ (conditional_at (inside n) ts >>= λ x. assigned_rest n x.0 x.1)
unfolding assignment_at assigned_rest
assignment_form n ts =
    bind_assoc (conditional_at (inside n) ts) (λ x. value_at (is_assignment x.0) n x.1 >>= λ y. Ok ((x.0, y.0), y.1)) (λ x. Ok (assignment_tree x.0.0 x.0.1, x.1))
    ∙ bind_same (conditional_at (inside n) ts) _ (λ x. assigned_rest n x.0 x.1) (λ x.
    bind_assoc (value_at (is_assignment x.0) n x.1) (λ y. Ok ((x.0, y.0), y.1)) (λ x. Ok (assignment_tree x.0.0 x.0.1, x.1))
    ∙ value_form n x.0 x.1 (is_unary x.0))

-- operands with operators between them

-- a chain is read as an operand, and operators with their operands
chain_form : (r : ℕ) (operand : Reader ExprTree) (ts : List Token) → chain_at r operand ts ≡ (operand ts >>= λ x. terms_at r operand x.1 >>= λ y. Ok (chain_tree x.0 y.0, y.1))
unfolding chain_at
chain_form r operand ts =
    bind_assoc (operand ts) (λ x. terms_at r operand x.1 >>= λ y. Ok ((x.0, y.0), y.1)) (λ x. Ok (chain_tree x.0.0 x.0.1, x.1))
    ∙ bind_same (operand ts) _ _ (λ x. bind_assoc (terms_at r operand x.1) (λ y. Ok ((x.0, y.0), y.1)) (λ x. Ok (chain_tree x.0.0 x.0.1, x.1)))

-- one more level of binary operators is a chain of the level below it
binary_form : (i : Option Inside) (k : ℕ) → binary_at i (suc k) ≡ chain_at (suc (suc (suc k))) (binary_at i k)
unfolding binary_at
binary_form i k = refl

-- a whole expression is a chain of assignments
comma_form : (i : Option Inside) → level_at i 15 ≡ chain_at 15 (level_at i 14)
unfolding level_at expression_at
comma_form i = refl

-- a level of operators is a chain of the level below it
level_chain : (i : Option Inside) (r : ℕ) → 3 ≤ r → r ≤ 15 → (r ≡ 13 → ⊥) → (r ≡ 14 → ⊥) → level_at i r ≡ chain_at r (level_at i (r - 1))
level_chain i r low high a b = elim (eq-or-lt_of_le high) [
  | inl e ↦ subst (λ z. level_at i z ≡ chain_at z (level_at i (z - 1))) (sym e) (comma_form i)
  | inr h ↦
      let k = r - 3 in
      let e : suc (suc (suc k)) ≡ r = omega arith in
      let c : k ≤ 9 = at_most h in
      subst (λ z. level_at i z ≡ chain_at z (level_at i (z - 1))) e
      (level_low i (suc k) (omega arith) ∙ binary_form i k ∙ ap (λ f. chain_at (suc (suc (suc k))) f) (sym
      (ap (λ z. level_at i z) (let d : suc (suc (suc k)) - 1 ≡ suc (suc k) = omega arith in d) ∙ level_low i k (omega arith))))
]
  where
    at_most : r < 15 → r - 3 ≤ 9
    at_most h = elim (eq-or-lt_of_le h) [ inl e ↦ absurd (b (omega arith)) | inr h2 ↦ elim (eq-or-lt_of_le h2) [ inl e ↦ absurd (a (omega arith)) | inr h3 ↦ omega arith ] ]

-- a level of operators is read as an operand, and operators with their operands
pub level_form : (n r : ℕ) (ts : List Token) → 3 ≤ r → r ≤ 15 → (r ≡ 13 → ⊥) → (r ≡ 14 → ⊥)
    → level_at (inside n) r ts ≡ (level_at (inside n) (r - 1) ts >>= λ x. terms_at r (level_at (inside n) (r - 1)) x.1 >>= λ y. Ok (chain_tree x.0 y.0, y.1))
level_form n r ts low high a b = ap (λ f. f ts) (level_chain (inside n) r low high a b) ∙ chain_form r (level_at (inside n) (r - 1)) ts

-- level 14 is read as an assignment
pub level_assignment : (n r : ℕ) → r ≡ 14 → level_at (inside n) r ≡ assignment_at (inside n)
unfolding level_at
level_assignment n r e = ap (λ z. level_at (inside n) z) e

-- level 13 is read as a conditional
pub level_conditional : (n r : ℕ) → r ≡ 13 → level_at (inside n) r ≡ conditional_at (inside n)
unfolding level_at
level_conditional n r e = ap (λ z. level_at (inside n) z) e

-- a whole expression is read as an assignment, and commas with further ones
pub expression_form : (n : ℕ) (ts : List Token) → level_at (inside n) 15 ts ≡ (assignment_at (inside n) ts >>= λ x. terms_at 15 (level_at (inside n) (15 - 1)) x.1 >>= λ y.
    Ok (chain_tree x.0 y.0, y.1))
expression_form n ts =
    level_form n 15 ts (omega arith) (omega arith) (λ e. omega arith) (λ e. omega arith)
    ∙ ap (λ r. r ts >>= λ x. terms_at 15 (level_at (inside n) (15 - 1)) x.1 >>= λ y. Ok (chain_tree x.0 y.0, y.1)) (level_assignment n 14 refl)

-- level 2 is read as a unary
pub level_unary : (n r : ℕ) → r ≡ 2 → level_at (inside n) r ≡ unary_at (inside n)
unfolding level_at binary_at
level_unary n r e = ap (λ z. level_at (inside n) z) e

-- a primary is read as a constant, in parentheses, or from a name on
pub primary_form : (n : ℕ) (ts : List Token) → primary_at (inside n) ts ≡ elim (starts is_constant ts) [
  | true ↦ (one is_constant ts >>= λ x. Ok (constant x.0, x.1))
  | false ↦
      elim (starts (is OpenParenthesis) ts) [ true ↦ parenthesized_at (inside n) ts | false ↦ named_at (inside n) ts ]
]
unfolding primary_at
primary_form n ts = refl
