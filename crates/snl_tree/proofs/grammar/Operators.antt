-- The readers of operators and their operands are right.
use Rattle.std.proofs.Common.{◌≡◌, ℕ, zero, suc, ◌-◌, ◌≤◌, ◌<◌, lit<, lit≤, Bool, true, false, true≢false, List, [], ◌∷◌, ◌++◌, Option, ◌⊎◌, inl, inr, refl, sym, ap, ◌∙◌, subst, arith, le_refl, append-nil, eq-or-lt_of_le, nat_eq, ◌&&◌}
use Rattle.std.proofs.lemmas.Bool.Decides.{nat_tests}
use Rattle.snl_text.specs.declared.tokens.Token.{Token}
use Rattle.snl_text.specs.declared.kinds.Kind.{Kind}
use Rattle.snl_text.specs.declared.kinds.Kind.TheVariants.{Colon, Question}
use Rattle.snl_syntax.specs.Kinds.{is, is_prefix, looseness}
use Rattle.snl_syntax.specs.Slots.{The}
use Rattle.snl_tree.specs.reading.Readers.{Reader, one, sign, both, either, nothing, under}
use Rattle.snl_syntax.specs.Expressions.{ExprTree, TermList, constant, parenthesized, named, element, call, postfix, prefix, chain, conditional, assignment, no_terms, term, rank, terms_rank, slots, term_slots, IsLevel, IsWell, HasTerms}
use Rattle.snl_syntax.specs.view.Lists.{term_list}
use Rattle.snl_tree.specs.reading.Expressions.{Inside, primary_at, is_step, postfix_tree, postfix_at, prefixed_at, unary_at, is_operator, chain_tree, terms_at, chain_at, binary_at, conditional_tree, conditional_at, is_unary, is_assignment, assignment_tree, assignment_at, expression_at, level_at, inside}
use Rattle.snl_tree.proofs.spelling.Laws.{Shape, Reads, Links}
use Rattle.snl_tree.proofs.spelling.Both.{both_shape, reads_both}
use Rattle.snl_tree.proofs.spelling.Choices.{Heads, one_shape, reads_one, sign_shape, reads_sign, nothing_shape, reads_nothing, either_shape, reads_either, reads_choice, reads_made}
use Rattle.snl_tree.proofs.spelling.Lists.{many_shape, reads_many}
use Rattle.snl_tree.proofs.grammar.Shapes.{not_is, avoids_heads, heads_no_prefix}
use Rattle.snl_tree.proofs.grammar.Inside.{expr_shape, InsideLaws, Deeper, under_map, links_any, nest_shape, reads_under}
use Rattle.snl_tree.proofs.grammar.Primaries.{some_expr, reads_primary}

-- two ranks that pass the test for equality are the same
same_rank : (r k : ℕ) → nat_eq k r ≡ true → k ≡ r
same_rank r k e = grind (arith, nat_tests)

-- the same rank passes the test for equality
rank_same : (r k : ℕ) → k ≡ r → nat_eq k r ≡ true
rank_same r k e = grind (arith, nat_tests)

-- a looser rank fails the test for equality
other_rank : (r k : ℕ) → r < k → nat_eq k r ≡ false
other_rank r k e = grind (arith, nat_tests)

-- prim [ '++' | '--' ]

-- `++` or `--` or nothing, before what is looser than they
abbrev step_shape : Shape (Token ⊎ Unit {0})
step_shape = either_shape (one_shape is_step) (nothing_shape (λ k. 1 < looseness k))

-- the reader of `++` or `--`, or nothing, is right
reads_step : Reads step_shape (either is_step (one is_step) nothing)
reads_step = reads_either is_step (one_shape is_step) (nothing_shape (λ k. 1 < looseness k)) (one is_step) nothing (reads_one is_step) (reads_nothing (λ k. 1 < looseness k))
    (λ t g. g) (λ _ _ k f. other_rank 1 (looseness k) f)

-- `++`, `--` and what is looser may follow a primary
step_link : (s : Token ⊎ Unit {0}) → step_shape.good s → Links (λ k. 0 < looseness k) (step_shape.follow s) (step_shape.slots s)
step_link (inl t) g = let e = same_rank 1 (looseness t.kind) g in omega arith
step_link (inr u) g = λ k f. omega arith

-- a primary, and `++` or `--` or nothing
abbrev postfix_parts : ℕ → Shape (ExprTree × (Token ⊎ Unit {0}))
postfix_parts n = both_shape (expr_shape n 0) (λ _. step_shape)

-- a primary with `++` or `--` or nothing is a well-formed postfix expression
postfix_into : (n : ℕ) (e : ExprTree) (s : Token ⊎ Unit {0}) → (postfix_parts n).good (e, s)
    → ((rank (postfix_tree e s) ≤ 1) × IsWell (postfix_tree e s) n) × (slots (postfix_tree e s) ≡ (postfix_parts n).slots (e, s))
postfix_into n e (inl t) g = ((le_refl _, (g.0.0, g.0.1, same_rank 1 (looseness t.kind) g.1)), refl)
postfix_into n e (inr u) g = ((let h = g.0.0 in omega arith, g.0.1), sym (append-nil (slots e)))

-- no chain of operators is as tight as a unary
no_low_chain : (rest : TermList) → IsLevel (terms_rank rest) → terms_rank rest ≤ 2 → ⊥
no_low_chain rest l h = elim l [ inl a ↦ let b = a.0 in omega arith | inr a ↦ omega arith ]

-- each postfix expression is a primary with `++` or `--` or nothing
postfix_of : (n : ℕ) (e : ExprTree) → (rank e ≤ 1) × IsWell e n → (x : ExprTree × (Token ⊎ Unit {0})) × (postfix_parts n).good x × (postfix_tree x.0 x.1 ≡ e)
postfix_of n (constant t) g = ((constant t, inr tt), ((le_refl _, g.1), tt), refl)
postfix_of n (parenthesized e) g = ((parenthesized e, inr tt), ((le_refl _, g.1), tt), refl)
postfix_of n (named x) g = ((named x, inr tt), ((le_refl _, g.1), tt), refl)
postfix_of n (element x b e) g = ((element x b e, inr tt), ((le_refl _, g.1), tt), refl)
postfix_of n (call f all) g = ((call f all, inr tt), ((le_refl _, g.1), tt), refl)
postfix_of n (postfix e op) g = ((e, inl op), ((g.1.0, g.1.1), rank_same 1 (looseness op.kind) g.1.2), refl)
postfix_of n (prefix op e) g = let h = g.0 in absurd (omega arith)
postfix_of n (chain e rest) g = let h = g.0 in absurd (no_low_chain rest g.1.0 (omega arith))
postfix_of n (conditional c a b) g = let h = g.0 in absurd (omega arith)
postfix_of n (assignment e op f) g = let h = g.0 in absurd (omega arith)

-- what is looser than `++` and `--` may follow one or none
postfix_follow : (s : Token ⊎ Unit {0}) (k : Kind) → 1 < looseness k → step_shape.follow s k
postfix_follow (inl t) k f = tt
postfix_follow (inr u) k f = f

-- what is looser than `++` and `--` may follow a primary with one or none
postfix_tree_follow : (e : ExprTree) (s : Token ⊎ Unit {0}) (k : Kind) → 1 < looseness k → step_shape.follow s k
postfix_tree_follow e s k f = postfix_follow s k f

-- the reader of postfix expressions is right
reads_postfix : (n : ℕ) (i : Option Inside) → Deeper n i → Reads (expr_shape n 1) (postfix_at i)
unfolding postfix_at
reads_postfix n i h = reads_made (postfix_parts n) (expr_shape n 1) (λ x. postfix_tree x.0 x.1) (both (primary_at i) (λ _. either is_step (one is_step) nothing))
    (reads_both (expr_shape n 0) (λ _. step_shape) (primary_at i) (λ _. either is_step (one is_step) nothing) (reads_primary n i h) (λ _ _. reads_step)
    (λ _ s _ g. step_link s g) (λ _ _. (inr tt, tt)))
    (λ x g. postfix_into n x.0 x.1 g) (postfix_of n) (λ x g k f. postfix_follow x.1 k f)

-- a prefix operator and a unary

-- an expression with a prefix operator
abbrev IsPrefixed : ExprTree → Type 0
IsPrefixed (prefix op e) = Unit {0}
IsPrefixed _ = ⊥

-- a well-formed expression with a prefix operator
abbrev prefixed_shape : ℕ → Shape ExprTree
prefixed_shape n = record { slots = slots; good = λ e. IsPrefixed e × IsWell e n; follow = λ _ k. 2 < looseness k }

-- a prefix operator and, one deeper, a unary
abbrev prefix_parts : ℕ → Shape (Token × ExprTree)
prefix_parts n = nest_shape (one_shape is_prefix) (expr_shape 0 2).slots (λ m. (expr_shape m 2).good) (expr_shape 0 2).follow n

-- each expression with a prefix operator is the operator and its operand
prefixed_of : (n : ℕ) (e : ExprTree) → IsPrefixed e × IsWell e n → (x : Token × ExprTree) × (prefix_parts n).good x × (prefix x.0 x.1 ≡ e)
prefixed_of n (prefix op e) g = ((op, e), g.1, refl)
prefixed_of n _ g = absurd g.0

-- the reader of expressions with a prefix operator is right
reads_prefixed : (n : ℕ) (i : Option Inside) → Deeper n i → Reads (prefixed_shape n) (prefixed_at i)
unfolding prefixed_at
reads_prefixed n i h = reads_made (prefix_parts n) (prefixed_shape n) (λ x. prefix x.0 x.1) (under is_prefix i (one is_prefix) (λ d. d.unary))
    (reads_under is_prefix (one_shape is_prefix) (one is_prefix) (reads_one is_prefix) (λ _ _. tt) (expr_shape 0 2).slots (λ m. (expr_shape m 2).good) (expr_shape 0 2).follow
    (λ d. d.unary) (λ m d laws. laws.unary) (λ m. some_expr m 2) n i h)
    (λ x g. ((tt, g), refl)) (prefixed_of n) (λ x g k f. f)

-- a unary has a prefix operator, or is a postfix expression
unary_cover : (n : ℕ) (e : ExprTree) → (rank e ≤ 2) × IsWell e n → (IsPrefixed e × IsWell e n) ⊎ ((rank e ≤ 1) × IsWell e n)
unary_cover n (constant t) g = inr (omega arith, g.1)
unary_cover n (parenthesized e) g = inr (omega arith, g.1)
unary_cover n (named x) g = inr (omega arith, g.1)
unary_cover n (element x b e) g = inr (omega arith, g.1)
unary_cover n (call f all) g = inr (omega arith, g.1)
unary_cover n (postfix e op) g = inr (omega arith, g.1)
unary_cover n (prefix op e) g = inl (tt, g.1)
unary_cover n (chain e rest) g = absurd (no_low_chain rest g.1.0 g.0)
unary_cover n (conditional c a b) g = let h = g.0 in absurd (omega arith)
unary_cover n (assignment e op f) g = let h = g.0 in absurd (omega arith)

-- an expression with a prefix operator is a unary
prefixed_into : (n : ℕ) (e : ExprTree) → IsPrefixed e × IsWell e n → (rank e ≤ 2) × IsWell e n
prefixed_into n (prefix op e) g = (le_refl _, g.1)
prefixed_into n _ g = absurd g.0

-- an expression with a prefix operator begins with one
prefixed_heads : (n : ℕ) (e : ExprTree) → IsPrefixed e × IsWell e n → Heads (λ k. is_prefix k ≡ true) (slots e)
prefixed_heads n (prefix op e) g = g.1.0
prefixed_heads n _ g = absurd g.0

-- the reader of unary expressions is right
reads_unary : (n : ℕ) (i : Option Inside) → Deeper n i → Reads (expr_shape n 2) (unary_at i)
unfolding unary_at
reads_unary n i h = reads_choice is_prefix (prefixed_shape n) (expr_shape n 1) (expr_shape n 2) (prefixed_at i) (postfix_at i) (reads_prefixed n i h) (reads_postfix n i h)
    (λ _. refl) (λ _. refl) (prefixed_into n) (λ e g. (let r = g.0 in omega arith, g.1)) (unary_cover n) (λ _ _ _ f. f) (λ _ _ k f. omega arith)
    (prefixed_heads n) (λ e g. avoids_heads is_prefix (λ k. 2 < looseness k) (slots e) (heads_no_prefix e n g.0 g.1))

-- operands with the operators of one level between them

-- an operator of a level, and an operand that is tighter
abbrev term_shape : ℕ → ℕ → Shape (Token × ExprTree)
term_shape n q = both_shape (one_shape (is_operator (suc q))) (λ _. expr_shape n q)

-- operators of a level with their operands, before what is looser
abbrev terms_shape : ℕ → ℕ → Shape (List (Token × ExprTree))
terms_shape n q = many_shape (term_shape n q) (λ k. suc q < looseness k)

-- the reader of operators and operands is right where the one of operands is
reads_terms : (n q : ℕ) (operand : Reader ExprTree) → Reads (expr_shape n q) operand → Reads (terms_shape n q) (terms_at (suc q) operand)
unfolding terms_at
reads_terms n q operand laws = reads_many (is_operator (suc q)) (term_shape n q) (λ k. suc q < looseness k) (both (one (is_operator (suc q))) (λ _. operand))
    (reads_both (one_shape (is_operator (suc q))) (λ _. expr_shape n q) (one (is_operator (suc q))) (λ _. operand) (reads_one (is_operator (suc q))) (λ _ _. laws)
    (λ a b _ _. links_any (λ _. Unit {0}) (λ k. q < looseness k) (slots b) (λ k. tt)) (λ _ _. some_expr n q))
    (λ x g. g.0) (λ k f. other_rank (suc q) (looseness k) f) (λ x g k e. let h = same_rank (suc q) (looseness k) e in omega arith) (λ x g k f. omega arith)

-- operators of a level and what is looser may follow an operand
terms_link : (n q : ℕ) (xs : List (Token × ExprTree)) → (terms_shape n q).good xs → Links (λ k. q < looseness k) (λ k. suc q < looseness k) ((terms_shape n q).slots xs)
terms_link n q [] g = λ k f. omega arith
terms_link n q (x ∷ xs) g = let h = same_rank (suc q) (looseness x.0.kind) g.0.0 in omega arith

-- an operand, and operators with their operands
abbrev chain_parts : ℕ → ℕ → Shape (ExprTree × List (Token × ExprTree))
chain_parts n q = both_shape (expr_shape n q) (λ _. terms_shape n q)

-- operators and operands that are read are well-formed terms
term_list_good : (n q : ℕ) (xs : List (Token × ExprTree)) → (terms_shape n q).good xs → HasTerms (term_list xs) (suc q) n
term_list_good n q [] g = tt
term_list_good n q (x ∷ xs) g = (same_rank (suc q) (looseness x.0.kind) g.0.0, (let h = g.0.1.0 in omega arith), g.0.1.1, term_list_good n q xs g.1)

-- operators and operands that are read are spelled as their terms
term_list_slots : (n q : ℕ) (xs : List (Token × ExprTree)) → term_slots (term_list xs) ≡ (terms_shape n q).slots xs
term_list_slots n q [] = refl
term_list_slots n q (x ∷ xs) = ap (λ z. The x.0 ∷ (slots x.1 ++ z)) (term_list_slots n q xs)

-- each well-formed list of terms is one of operators and operands that can be read
term_list_of : (n q : ℕ) (rest : TermList) → HasTerms rest (suc q) n → (xs : List (Token × ExprTree)) × (terms_shape n q).good xs × (term_list xs ≡ rest)
term_list_of n q no_terms g = ([], tt, refl)
term_list_of n q (term op e rest) g =
    let more = term_list_of n q rest g.3 in
    ((op, e) ∷ more.0, ((rank_same (suc q) (looseness op.kind) g.0, (let h = g.1 in omega arith, g.2)), more.1), ap (λ z. term op e z) more.2)

-- an operand with operators and operands makes a well-formed expression of the level
chain_into : (n q : ℕ) → IsLevel (suc q) → (e : ExprTree) (xs : List (Token × ExprTree)) → (chain_parts n q).good (e, xs)
    → ((rank (chain_tree e xs) ≤ suc q) × IsWell (chain_tree e xs) n) × (slots (chain_tree e xs) ≡ (chain_parts n q).slots (e, xs))
chain_into n q l e [] g = ((let h = g.0.0 in omega arith, g.0.1), sym (append-nil (slots e)))
chain_into n q l e (x ∷ xs) g =
    let h : looseness x.0.kind ≡ suc q = same_rank (suc q) (looseness x.0.kind) g.1.0.0 in
    let all : HasTerms (term_list (x ∷ xs)) (suc q) n = term_list_good n q (x ∷ xs) g.1 in (
      (omega arith, (subst IsLevel (sym h) l, (let r = g.0.0 in omega arith), g.0.1, subst (λ z. HasTerms (term_list (x ∷ xs)) z n) (sym h) all)),
      ap (λ z. slots e ++ z) (term_list_slots n q (x ∷ xs)),
    )

-- an operand with at least one term makes the chain
chain_again : (e : ExprTree) (xs : List (Token × ExprTree)) (op : Token) (f : ExprTree) (rest : TermList) → term_list xs ≡ term op f rest → chain_tree e xs ≡ chain e (term op f rest)
chain_again e [] op f rest h = absurd cc
chain_again e (x ∷ xs) op f rest h = ap (λ z. chain e z) h

-- no level of operators is as tight as a unary, or that of conditionals or of assignments
no_level : (r q : ℕ) → IsLevel (suc q) → r ≡ suc q → (r ≤ 2) ⊎ ((13 ≤ r) × (r ≤ 14)) → ⊥
no_level r q l e c = elim l [
  | inl a ↦ let a0 = a.0 in let a1 = a.1 in elim c [ inl b ↦ omega arith | inr b ↦ let b0 = b.0 in omega arith ]
  | inr a ↦ elim c [ inl b ↦ omega arith | inr b ↦ let b1 = b.1 in omega arith ]
]

-- an expression of exactly the rank of a level is an operand with operators
chain_loose : (n q : ℕ) → IsLevel (suc q) → (e : ExprTree) → rank e ≡ suc q → IsWell e n → (x : ExprTree × List (Token × ExprTree)) × (chain_parts n q).good x × (chain_tree x.0 x.1 ≡ e)
chain_loose n q l (constant t) r g = absurd (no_level 0 q l r (inl (lit≤ tt)))
chain_loose n q l (parenthesized e) r g = absurd (no_level 0 q l r (inl (lit≤ tt)))
chain_loose n q l (named x) r g = absurd (no_level 0 q l r (inl (lit≤ tt)))
chain_loose n q l (element x b e) r g = absurd (no_level 0 q l r (inl (lit≤ tt)))
chain_loose n q l (call f all) r g = absurd (no_level 0 q l r (inl (lit≤ tt)))
chain_loose n q l (postfix e op) r g = absurd (no_level 1 q l r (inl (lit≤ tt)))
chain_loose n q l (prefix op e) r g = absurd (no_level 2 q l r (inl (lit≤ tt)))
chain_loose n q l (chain e no_terms) r g = absurd (elim g.0 [ inl a ↦ let b = a.1 in omega arith | inr a ↦ omega arith ])
chain_loose n q l (chain e (term op f rest)) r g =
    let all : HasTerms (term op f rest) (suc q) n = subst (λ z. HasTerms (term op f rest) z n) r g.3 in
    let more = term_list_of n q (term op f rest) all in
    ((e, more.0), ((let h = g.1 in omega arith, g.2), more.1), chain_again e more.0 op f rest more.2)
chain_loose n q l (conditional c a b) r g = absurd (no_level 13 q l r (inr (lit≤ tt, lit≤ tt)))
chain_loose n q l (assignment e op f) r g = absurd (no_level 14 q l r (inr (lit≤ tt, lit≤ tt)))

-- an expression as tight as a level is an operand with operators of it, or with none
chain_of : (n q : ℕ) → IsLevel (suc q) → (e : ExprTree) → (rank e ≤ suc q) × IsWell e n → (x : ExprTree × List (Token × ExprTree)) × (chain_parts n q).good x × (chain_tree x.0 x.1 ≡ e)
chain_of n q l e g = elim (eq-or-lt_of_le g.0) [
  | inl same ↦ chain_loose n q l e same g.1
  | inr less ↦ ((e, []), ((omega arith, g.1), tt), refl)
]

-- the reader of chains of a level is right where the one of operands is
pub reads_chain : (n q : ℕ) → IsLevel (suc q) → (operand : Reader ExprTree) → Reads (expr_shape n q) operand → Reads (expr_shape n (suc q)) (chain_at (suc q) operand)
unfolding chain_at
reads_chain n q l operand laws = reads_made (chain_parts n q) (expr_shape n (suc q)) (λ x. chain_tree x.0 x.1) (both operand (λ _. terms_at (suc q) operand))
    (reads_both (expr_shape n q) (λ _. terms_shape n q) operand (λ _. terms_at (suc q) operand) laws (λ _ _. reads_terms n q operand laws)
    (λ e xs _ g. terms_link n q xs g) (λ _ _. ([], tt)))
    (λ x g. chain_into n q l x.0 x.1 g) (chain_of n q l) (λ x g k f. f)

-- the reader of so many levels of binary operators is right
reads_binary : (n : ℕ) (i : Option Inside) → Deeper n i → (k : ℕ) → k ≤ 10 → Reads (expr_shape n (suc (suc k))) (binary_at i k)
unfolding binary_at
reads_binary n i h zero b = reads_unary n i h
reads_binary n i h (suc k) b = reads_chain n (suc (suc k)) (inl (omega arith, omega arith)) (binary_at i k) (reads_binary n i h k (omega arith))

-- binary [ '?' expr ':' cond ]

-- the colon and the last part of a conditional
abbrev pub other_shape : ℕ → Shape (Unit {0} × ExprTree)
other_shape m = both_shape (sign_shape Colon) (λ _. expr_shape m 13)

-- the two choices of a conditional, with the colon between them
abbrev pub choices_shape : ℕ → Shape (ExprTree × (Unit {0} × ExprTree))
choices_shape m = both_shape (expr_shape m 15) (λ _. other_shape m)

-- the reader of the choices of a conditional is right
pub reads_choices : (m : ℕ) (d : Inside) → InsideLaws m d → Reads (choices_shape m) (both d.expression (λ _. both (sign Colon) (λ _. d.conditional)))
reads_choices m d laws = reads_both (expr_shape m 15) (λ _. other_shape m) d.expression (λ _. both (sign Colon) (λ _. d.conditional)) laws.expression
    (λ _ _. reads_both (sign_shape Colon) (λ _. expr_shape m 13) (sign Colon) (λ _. d.conditional) (reads_sign Colon) (λ _ _. laws.conditional)
    (λ _ b _ _. links_any (λ _. Unit {0}) (λ k. 13 < looseness k) (slots b) (λ k. tt)) (λ _ _. some_expr m 13))
    (λ _ _ _ _. lit< tt) (λ _ _. ((tt, (some_expr m 13).0), (tt, (some_expr m 13).1)))

-- the question mark and, one deeper, the choices
abbrev question_shape : ℕ → Shape (Unit {0} × (ExprTree × (Unit {0} × ExprTree)))
question_shape n = nest_shape (sign_shape Question) (choices_shape 0).slots (λ m. (choices_shape m).good) (choices_shape 0).follow n

-- the question mark with the choices, or nothing before what is looser
abbrev maybe_question_shape : ℕ → Shape ((Unit {0} × (ExprTree × (Unit {0} × ExprTree))) ⊎ Unit {0})
maybe_question_shape n = either_shape (question_shape n) (nothing_shape (λ k. 13 < looseness k))

-- what is looser than a conditional is no question mark
no_question : (k : Kind) → 13 < looseness k → is Question k ≡ false
no_question k f = not_is Question k (λ e. let a : looseness k ≡ 13 = ap looseness e in absurd (omega arith))

-- the reader of the question mark with the choices, or of nothing, is right
reads_maybe_question : (n : ℕ) (i : Option Inside) → Deeper n i → Reads (maybe_question_shape n) (either (is Question)
    (under (is Question) i (sign Question) (λ d. both d.expression (λ _. both (sign Colon) (λ _. d.conditional)))) nothing)
reads_maybe_question n i h =
    reads_either (is Question) (question_shape n) (nothing_shape (λ k. 13 < looseness k))
    (under (is Question) i (sign Question) (λ d. both d.expression (λ _. both (sign Colon) (λ _. d.conditional)))) nothing
    (reads_under (is Question) (sign_shape Question) (sign Question) (reads_sign Question) (λ _ _. tt) (choices_shape 0).slots (λ m. (choices_shape m).good) (choices_shape 0).follow
    (λ d. both d.expression (λ _. both (sign Colon) (λ _. d.conditional))) reads_choices (λ m. (((some_expr m 15).0, (tt, (some_expr m 13).0)), ((some_expr m 15).1, (tt, (some_expr m 13).1)))) n i h)
    (reads_nothing (λ k. 13 < looseness k)) (λ x g. refl) (λ _ _ k f. no_question k f)

-- a condition, and the question mark with the choices or nothing
abbrev conditional_parts : ℕ → Shape (ExprTree × ((Unit {0} × (ExprTree × (Unit {0} × ExprTree))) ⊎ Unit {0}))
conditional_parts n = both_shape (expr_shape n 12) (λ _. maybe_question_shape n)

-- the question mark and what is looser than a conditional may follow a condition
question_link : (n : ℕ) (x : (Unit {0} × (ExprTree × (Unit {0} × ExprTree))) ⊎ Unit {0}) → Links (λ k. 12 < looseness k) ((maybe_question_shape n).follow x) ((maybe_question_shape n).slots x)
question_link n (inl x) = lit< tt
question_link n (inr u) = λ k f. omega arith

-- what is looser than a conditional may follow the choices, or nothing
question_follow : (n : ℕ) (x : (Unit {0} × (ExprTree × (Unit {0} × ExprTree))) ⊎ Unit {0}) (k : Kind) → 13 < looseness k → (maybe_question_shape n).follow x k
question_follow n (inl x) k f = f
question_follow n (inr u) k f = f

-- the choices of a conditional are well formed
abbrev Choices : ExprTree → ExprTree → ℕ → Type 0
Choices a b m = (rank a ≤ 15) × IsWell a m × (rank b ≤ 13) × IsWell b m

-- a condition with choices or nothing makes a well-formed expression
conditional_into : (n : ℕ) (c : ExprTree) (x : (Unit {0} × (ExprTree × (Unit {0} × ExprTree))) ⊎ Unit {0}) → (conditional_parts n).good (c, x)
    → ((rank (conditional_tree c x) ≤ 13) × IsWell (conditional_tree c x) n) × (slots (conditional_tree c x) ≡ (conditional_parts n).slots (c, x))
conditional_into n c (inl x) g = ((le_refl _, (g.0.0, g.0.1, under_map (λ m. (choices_shape m).good x.1) (Choices x.1.0 x.1.1.1) n (λ m h. (h.0.0, h.0.1, h.1.1.0, h.1.1.1)) g.1.1)), refl)
conditional_into n c (inr u) g = ((let h = g.0.0 in omega arith, g.0.1), sym (append-nil (slots c)))

-- what a conditional is made of
abbrev ConditionalParts : Type 0
ConditionalParts = ExprTree × ((Unit {0} × (ExprTree × (Unit {0} × ExprTree))) ⊎ Unit {0})

-- a binary expression is a condition with nothing after it
conditional_low : (n : ℕ) (e : ExprTree) → (rank e ≤ 12) × IsWell e n → (x : ConditionalParts) × (conditional_parts n).good x × (conditional_tree x.0 x.1 ≡ e)
conditional_low n e g = ((e, inr tt), (g, tt), refl)

-- a chain that is tighter than the comma is one of binary operators
chain_low : (rest : TermList) → IsLevel (terms_rank rest) → terms_rank rest ≤ 14 → terms_rank rest ≤ 12
chain_low rest l h = elim l [ inl a ↦ a.1 | inr a ↦ omega arith ]

-- an expression as tight as a conditional is a condition with choices or nothing
conditional_of : (n : ℕ) (e : ExprTree) → (rank e ≤ 13) × IsWell e n → (x : ConditionalParts) × (conditional_parts n).good x × (conditional_tree x.0 x.1 ≡ e)
conditional_of n (constant t) g = conditional_low n (constant t) (lit≤ tt, g.1)
conditional_of n (parenthesized e) g = conditional_low n (parenthesized e) (lit≤ tt, g.1)
conditional_of n (named x) g = conditional_low n (named x) (lit≤ tt, g.1)
conditional_of n (element x b e) g = conditional_low n (element x b e) (lit≤ tt, g.1)
conditional_of n (call f all) g = conditional_low n (call f all) (lit≤ tt, g.1)
conditional_of n (postfix e op) g = conditional_low n (postfix e op) (lit≤ tt, g.1)
conditional_of n (prefix op e) g = conditional_low n (prefix op e) (lit≤ tt, g.1)
conditional_of n (chain e rest) g = conditional_low n (chain e rest) (chain_low rest g.1.0 (let h = g.0 in omega arith), g.1)
conditional_of n (conditional c a b) g =
    ((c, inl (tt, (a, (tt, b)))), ((g.1.0, g.1.1), (tt, under_map (Choices a b) (λ m. (choices_shape m).good (a, (tt, b))) n (λ m h. ((h.0, h.1), (tt, (h.2, h.3)))) g.1.2)), refl)
conditional_of n (assignment e op f) g = let h = g.0 in absurd (omega arith)

-- the reader of conditionals is right
reads_conditional : (n : ℕ) (i : Option Inside) → Deeper n i → Reads (expr_shape n 13) (conditional_at i)
unfolding conditional_at
reads_conditional n i h =
    reads_made (conditional_parts n) (expr_shape n 13) (λ x. conditional_tree x.0 x.1)
    (both (binary_at i 10) (λ _. either (is Question) (under (is Question) i (sign Question) (λ d. both d.expression (λ _. both (sign Colon) (λ _. d.conditional)))) nothing))
    (reads_both (expr_shape n 12) (λ _. maybe_question_shape n) (binary_at i 10)
    (λ _. either (is Question) (under (is Question) i (sign Question) (λ d. both d.expression (λ _. both (sign Colon) (λ _. d.conditional)))) nothing)
    (reads_binary n i h 10 (lit≤ tt)) (λ _ _. reads_maybe_question n i h) (λ _ x _ _. question_link n x) (λ _ _. (inr tt, tt)))
    (λ x g. conditional_into n x.0 x.1 g) (conditional_of n) (λ x g k f. question_follow n x.1 k f)

-- cond | unary asgop asg

-- where two tests together pass, each passes
and_true : (a b : Bool) → (a && b) ≡ true → (a ≡ true) × (b ≡ true)
and_true true b h = (refl, h)
and_true false b h = absurd (true≢false (sym h))

-- what passes the test for a unary is as tight as one
unary_rank : (e : ExprTree) → is_unary e ≡ true → rank e ≤ 2
unary_rank (constant t) h = lit≤ tt
unary_rank (parenthesized e) h = lit≤ tt
unary_rank (named x) h = lit≤ tt
unary_rank (element x b e) h = lit≤ tt
unary_rank (call f all) h = lit≤ tt
unary_rank (postfix e op) h = lit≤ tt
unary_rank (prefix op e) h = lit≤ tt
unary_rank _ h = absurd (true≢false (sym h))

-- a well-formed expression as tight as a unary passes the test for one
rank_unary : (e : ExprTree) (n : ℕ) → rank e ≤ 2 → IsWell e n → is_unary e ≡ true
rank_unary (chain e rest) n r g = absurd (no_low_chain rest g.0 r)
rank_unary (conditional c a b) n r g = absurd (omega arith)
rank_unary (assignment e op f) n r g = absurd (omega arith)
rank_unary _ n r g = refl

-- what passes the test is an assignment operator after a unary
is_assignment_true : (e : ExprTree) (k : Kind) → is_assignment e k ≡ true → (rank e ≤ 2) × (looseness k ≡ 14)
is_assignment_true e k h = let both = and_true (is_unary e) (is_operator 14 k) h in (unary_rank e both.0, same_rank 14 (looseness k) both.1)

-- an assignment operator after a unary passes the test
true_is_assignment : (e : ExprTree) (n : ℕ) (k : Kind) → rank e ≤ 2 → IsWell e n → looseness k ≡ 14 → is_assignment e k ≡ true
true_is_assignment e n k r g h = ap (λ b. b && is_operator 14 k) (rank_unary e n r g) ∙ rank_same 14 (looseness k) h

-- where the second of two tests fails, both together fail
and_false : (a b : Bool) → b ≡ false → (a && b) ≡ false
and_false true b h = h
and_false false b h = refl

-- what is looser than an assignment is no assignment operator
not_assignment : (e : ExprTree) (k : Kind) → 14 < looseness k → is_assignment e k ≡ false
not_assignment e k h = and_false (is_unary e) (is_operator 14 k) (other_rank 14 (looseness k) h)

-- an assignment operator after a target and, one deeper, the value
abbrev assigned_shape : ExprTree → ℕ → Shape (Token × ExprTree)
assigned_shape e n = nest_shape (one_shape (is_assignment e)) (expr_shape 0 14).slots (λ m. (expr_shape m 14).good) (expr_shape 0 14).follow n

-- an assignment operator with the value, or nothing before what is looser
abbrev maybe_assigned_shape : ExprTree → ℕ → Shape ((Token × ExprTree) ⊎ Unit {0})
maybe_assigned_shape e n = either_shape (assigned_shape e n) (nothing_shape (λ k. 14 < looseness k))

-- the reader of an assignment operator with the value, or of nothing, is right
reads_maybe_assigned : (e : ExprTree) (n : ℕ) (i : Option Inside) → Deeper n i → Reads (maybe_assigned_shape e n) (either (is_assignment e)
    (under (is_assignment e) i (one (is_assignment e)) (λ d. d.assignment)) nothing)
reads_maybe_assigned e n i h =
    reads_either (is_assignment e) (assigned_shape e n) (nothing_shape (λ k. 14 < looseness k)) (under (is_assignment e) i (one (is_assignment e)) (λ d. d.assignment)) nothing
    (reads_under (is_assignment e) (one_shape (is_assignment e)) (one (is_assignment e)) (reads_one (is_assignment e)) (λ _ _. tt) (expr_shape 0 14).slots
    (λ m. (expr_shape m 14).good) (expr_shape 0 14).follow
    (λ d. d.assignment) (λ m d laws. laws.assignment) (λ m. some_expr m 14) n i h)
    (reads_nothing (λ k. 14 < looseness k)) (λ x g. g.0) (λ _ _ k f. not_assignment e k f)

-- a conditional, and an assignment operator with the value or nothing
abbrev assignment_parts : ℕ → Shape (ExprTree × ((Token × ExprTree) ⊎ Unit {0}))
assignment_parts n = both_shape (expr_shape n 13) (λ e. maybe_assigned_shape e n)

-- an assignment operator and what is looser may follow a target
assigned_link : (n : ℕ) (e : ExprTree) (x : (Token × ExprTree) ⊎ Unit {0}) → (maybe_assigned_shape e n).good x
    → Links (λ k. 13 < looseness k) ((maybe_assigned_shape e n).follow x) ((maybe_assigned_shape e n).slots x)
assigned_link n e (inl x) g = let h = (is_assignment_true e x.0.kind g.0).1 in omega arith
assigned_link n e (inr u) g = λ k f. omega arith

-- what is looser than an assignment may follow the value, or nothing
assigned_follow : (n : ℕ) (e : ExprTree) (x : (Token × ExprTree) ⊎ Unit {0}) (k : Kind) → 14 < looseness k → (maybe_assigned_shape e n).follow x k
assigned_follow n e (inl x) k f = f
assigned_follow n e (inr u) k f = f

-- a target with a value, or a conditional with nothing, makes a well-formed expression
assignment_into : (n : ℕ) (e : ExprTree) (x : (Token × ExprTree) ⊎ Unit {0}) → (assignment_parts n).good (e, x)
    → ((rank (assignment_tree e x) ≤ 14) × IsWell (assignment_tree e x) n) × (slots (assignment_tree e x) ≡ (assignment_parts n).slots (e, x))
assignment_into n e (inl x) g = let h = is_assignment_true e x.0.kind g.1.0 in ((le_refl _, (h.0, g.0.1, h.1, g.1.1)), refl)
assignment_into n e (inr u) g = ((let h = g.0.0 in omega arith, g.0.1), sym (append-nil (slots e)))

-- what an assignment is made of
abbrev AssignmentParts : Type 0
AssignmentParts = ExprTree × ((Token × ExprTree) ⊎ Unit {0})

-- a conditional is a target with nothing after it
assignment_low : (n : ℕ) (e : ExprTree) → (rank e ≤ 13) × IsWell e n → (x : AssignmentParts) × (assignment_parts n).good x × (assignment_tree x.0 x.1 ≡ e)
assignment_low n e g = ((e, inr tt), (g, tt), refl)

-- an expression as tight as an assignment is a target with a value, or a conditional
assignment_of : (n : ℕ) (e : ExprTree) → (rank e ≤ 14) × IsWell e n → (x : AssignmentParts) × (assignment_parts n).good x × (assignment_tree x.0 x.1 ≡ e)
assignment_of n (constant t) g = assignment_low n (constant t) (lit≤ tt, g.1)
assignment_of n (parenthesized e) g = assignment_low n (parenthesized e) (lit≤ tt, g.1)
assignment_of n (named x) g = assignment_low n (named x) (lit≤ tt, g.1)
assignment_of n (element x b e) g = assignment_low n (element x b e) (lit≤ tt, g.1)
assignment_of n (call f all) g = assignment_low n (call f all) (lit≤ tt, g.1)
assignment_of n (postfix e op) g = assignment_low n (postfix e op) (lit≤ tt, g.1)
assignment_of n (prefix op e) g = assignment_low n (prefix op e) (lit≤ tt, g.1)
assignment_of n (chain e rest) g = assignment_low n (chain e rest) (let h = chain_low rest g.1.0 g.0 in omega arith, g.1)
assignment_of n (conditional c a b) g = assignment_low n (conditional c a b) (lit≤ tt, g.1)
assignment_of n (assignment e op f) g = ((e, inl (op, f)), (((let h = g.1.0 in omega arith), g.1.1), (true_is_assignment e n op.kind g.1.0 g.1.1 g.1.2, g.1.3)), refl)

-- the reader of assignments is right
reads_assignment : (n : ℕ) (i : Option Inside) → Deeper n i → Reads (expr_shape n 14) (assignment_at i)
unfolding assignment_at
reads_assignment n i h =
    reads_made (assignment_parts n) (expr_shape n 14) (λ x. assignment_tree x.0 x.1)
    (both (conditional_at i) (λ e. either (is_assignment e) (under (is_assignment e) i (one (is_assignment e)) (λ d. d.assignment)) nothing))
    (reads_both (expr_shape n 13) (λ e. maybe_assigned_shape e n) (conditional_at i) (λ e. either (is_assignment e) (under (is_assignment e) i (one (is_assignment e)) (λ d. d.assignment)) nothing)
    (reads_conditional n i h) (λ e _. reads_maybe_assigned e n i h) (λ e x _ g. assigned_link n e x g) (λ _ _. (inr tt, tt)))
    (λ x g. assignment_into n x.0 x.1 g) (assignment_of n) (λ x g k f. assigned_follow n x.0 x.1 k f)

-- asg ( ',' asg )*

-- the reader of whole expressions is right
pub reads_expression : (n : ℕ) (i : Option Inside) → Deeper n i → Reads (expr_shape n 15) (expression_at i)
unfolding expression_at
reads_expression n i h = reads_chain n 14 (inr refl) (assignment_at i) (reads_assignment n i h)

-- what is nested in an expression with so much depth left is read rightly
pub deeper : (n : ℕ) → Deeper n (inside n)
deeper zero = tt
deeper (suc n) = record {
  unary = reads_unary n (inside n) (deeper n);
  conditional = reads_conditional n (inside n) (deeper n);
  assignment = reads_assignment n (inside n) (deeper n);
  expression = reads_expression n (inside n) (deeper n);
}

-- every level

-- the levels from 2 to 12 are those of the unary and of the binary operators
pub level_low : (i : Option Inside) (k : ℕ) → k ≤ 10 → level_at i (suc (suc k)) ≡ binary_at i k
unfolding level_at
level_low i k h =
    let a : nat_eq (suc (suc k)) 13 ≡ false = grind (arith, nat_tests) in
    let b : nat_eq (suc (suc k)) 14 ≡ false = grind (arith, nat_tests) in
    let c : nat_eq (suc (suc k)) 15 ≡ false = grind (arith, nat_tests) in
    let d : suc (suc k) - 2 ≡ k = omega arith in
    rw a (rw b (rw c (ap (λ z. binary_at i z) d)))

-- the reader of each level is right
pub reads_level : (n r : ℕ) → 2 ≤ r → r ≤ 15 → Reads (expr_shape n r) (level_at (inside n) r)
unfolding level_at
reads_level n r low high = elim (eq-or-lt_of_le high) [
  | inl e ↦ subst (λ z. Reads (expr_shape n z) (level_at (inside n) z)) (sym e) (reads_expression n (inside n) (deeper n))
  | inr h ↦ elim (eq-or-lt_of_le h) [
    | inl e ↦ subst (λ z. Reads (expr_shape n z) (level_at (inside n) z)) (let f : 14 ≡ r = omega arith in f) (reads_assignment n (inside n) (deeper n))
    | inr h ↦ elim (eq-or-lt_of_le h) [
      | inl e ↦ subst (λ z. Reads (expr_shape n z) (level_at (inside n) z)) (let f : 13 ≡ r = omega arith in f) (reads_conditional n (inside n) (deeper n))
      | inr h ↦
          let k = r - 2 in
          let e : suc (suc k) ≡ r = omega arith in
          subst (λ z. Reads (expr_shape n z) (level_at (inside n) z)) e
          (subst (λ z. Reads (expr_shape n (suc (suc k))) z) (sym (level_low (inside n) k (omega arith))) (reads_binary n (inside n) (deeper n) k (omega arith)))
    ]
  ]
]
