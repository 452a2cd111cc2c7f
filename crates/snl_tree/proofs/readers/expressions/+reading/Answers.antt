use Rattle.std.proofs.Common.{inl, inr, rules, arith, ◌∙◌, ◌≡◌, ◌≤◌, ◌-◌, ℕ, true, ◌&&◌, List, Ok, sym, ap, subst}
use Rattle.std.proofs.lemmas.Result.{err_from_is_err_and}
use Rattle.snl_text.specs.declared.tokens.Token.{Token}
use Rattle.snl_text.specs.declared.kinds.Kind.TheVariants.{Comma}
use Rattle.snl_tree.specs.declared.readers.cursor.Halt.{Halt}
use Rattle.snl_syntax.specs.declared.expressions.Argument.{Argument}
use Rattle.snl_syntax.specs.declared.expressions.Expr.{Expr}
use Rattle.snl_syntax.specs.declared.expressions.Term.{Term}
use Rattle.snl_syntax.specs.Kinds.{is}
use Rattle.snl_tree.specs.reading.Readers.{starts, sign}
use Rattle.snl_tree.specs.reading.Expressions.{inside, is_unary, readers, level_at, terms_at, term_at, argument_at, more_after, is_operator, chain_tree, assigned_rest, conditional_rest, named_rest}
use Rattle.snl_tree.specs.reading.Moves.{Fails}
use Rattle.snl_syntax.specs.view.Expressions.{view, boxed, pair_of, pairs, argument_of, list_before}
use Rattle.snl_tree.proofs.code.Rows.{assignment_made}
use Rattle.snl_tree.proofs.code.Forms.{argument_form, assignment_form, conditional_form, expression_form, named_form, parenthesized_form, primary_form, unary_form}
use Rattle.snl_tree.proofs.code.Climbing.{passed, climbed_chain, climbed_fails}
use Rattle.snl_tree.proofs.code.Turns.{same_fault}
use Rattle.snl_tree.proofs.code.Loops.{Found, found_more, found_all, found_fail, after_fail, after_more, argument_less, term_less}
use Rattle.snl_tree.proofs.code.Building.{built, unbuilt}
use Rattle.snl_tree.proofs.readers.expressions.+reading.Goals as goal

-- a fault in an argument is one of the list
fails_after : (n : ℕ) (found : List Argument) (ts mid : List Token) (halt : Halt) (left : List Token) → starts (is Comma) ts ≡ true → sign Comma ts ≡ Ok (tt, mid)
    → Fails halt left (argument_at (readers (inside n)) mid) → Fails halt left (more_after (readers (inside n)) (list_before found) ts)
fails_after n found ts mid halt left s h k =
    same_fault (argument_at (readers (inside n)) mid) (more_after (readers (inside n)) (list_before found) ts) (λ f m. after_fail n found ts mid f s h m) halt left k

-- a fault in an operator's operand is one of the level
fails_found : (n r : ℕ) (start : List Token) (found : List Term) (ts : List Token) (halt : Halt) (left : List Token) → 3 ≤ r → r ≤ 15 → Found n r start found ts → starts (is_operator r) ts ≡ true
    → Fails halt left (term_at n r ts) → Fails halt left (terms_at r (level_at (inside n) (r - 1)) start)
fails_found n r start found ts halt left low high h s e =
    same_fault (term_at n r ts) (terms_at r (level_at (inside n) (r - 1)) start) (λ f m. found_fail n r start found ts f low high h s m) halt left e

-- a target, an assignment operator and a value are read as an assignment
pub assignment-returns : goal.assignment-returns
assignment-returns t c =
    let d : c.deref.result.now ≡ c.in_ok-target.target.value = search rules in
    let assigned = ap (λ (z : Expr). is_unary (view z) && starts (is_operator 14) c.conditional.new.cursor.left.now) (sym d) ∙ sym c.if-not-is_assigned.ensures in
    rw (assignment_made c.args.depth c.args.cursor.now.left.now c.conditional.new.cursor.left.now c.open_operator.new.cursor.left.now c.assignment.new.cursor.left.now
    (boxed c.in_ok-target.target) (boxed c.in_ok-value.value) c.in_ok-operator.operator
    c.in_ok-target.ensures assigned c.in_ok-operator.ensures.gives c.in_ok-value.ensures)
    (c.boxed_assignment.ensures _)

-- assignments with commas between them are what the code makes of them
pub expression-returns : goal.expression-returns
expression-returns t c = rw (expression_form c.args.depth c.args.cursor.now.left.now) (rw c.in_ok-first.ensures (rw c.in_ok-terms.ensures (c.chained.ensures _)))

-- where the next operator is of none of the levels, the first operand is all
pub climb-returns-then-here-tightness : goal.climb-returns-then-here-tightness
climb-returns-then-here-tightness t c =
    passed c.args.depth c.args.tightness (c.args.looseness - c.args.tightness) (boxed c.args.first) c.args.cursor.now.left.now (omega arith) (λ r low high h. elim c.then-here-tightness.either [
      | inl w ↦ omega (arith, h, w)
      | inr w ↦ omega (arith, h, w)
    ])

-- a fault in the terms of the next operator is a fault of the levels
pub climb-returns-in_err-terms : goal.climb-returns-in_err-terms
climb-returns-in_err-terms t c =
    let p = err_from_is_err_and c.from_residual.result c.from_residual.ensures.1 in
    rw (p.1, p.2) (climbed_fails c.args.depth c.args.tightness c.looseness_here-here.result c.args.looseness c.args.cursor.now.left.now (boxed c.args.first) c.in_err-terms.field-0.0
    c.terms.new.cursor.left.now (omega arith) (omega arith) c.requires.high (sym c.looseness_here-here.ensures) c.in_err-terms.ensures)

-- from the next operator on, the levels are its chain and the looser levels
pub climb-returns : goal.climb-returns
climb-returns t c =
    let made = built boxed (chain_tree (boxed c.args.first) (pairs c.in_ok-terms.terms)) c.in_ok-chain.chain c.in_ok-chain.ensures in
    let chain = climbed_chain c.args.depth c.args.tightness c.looseness_here-here.result c.args.looseness c.args.cursor.now.left.now c.terms.new.cursor.left.now c.args.first c.in_ok-chain.chain
    c.in_ok-terms.terms (omega arith) (omega arith) c.requires.high
    (sym c.looseness_here-here.ensures) c.in_ok-terms.ensures made in
    rw chain c.climb.ensures

-- where the chain finds no room, nothing is said of what is read
pub climb-returns-in_err-chain : goal.climb-returns-in_err-chain
climb-returns-in_err-chain t c =
    let p = err_from_is_err_and c.from_residual-in_err-chain.result c.from_residual-in_err-chain.ensures.1 in
    rw (p.1, p.2) (unbuilt _ c.in_err-chain.field-0.0 c.in_err-chain.ensures _ _)

-- a fault in a further argument is a fault of them all
pub more_arguments-returns-in_err-argument : goal.more_arguments-returns-in_err-argument
more_arguments-returns-in_err-argument t c =
    let p = err_from_is_err_and c.from_residual-in_err-argument.result c.from_residual-in_err-argument.ensures.1 in
    rw (p.1, p.2) (rw c.loop-alloc.invariant (fails_after c.args.depth c.loop-alloc.row.items c.loop-alloc.cursor.left.now c.sign.new.cursor.left.now c.in_err-argument.field-0.0
    c.argument.new.cursor.left.now (sym c.loop-alloc-test.ensures) c.in_ok-sign.ensures c.in_err-argument.ensures))

-- with one more argument found, the others are left to read
pub more_arguments-loop-alloc-preserved : goal.more_arguments-loop-alloc-preserved
more_arguments-loop-alloc-preserved t c =
    let next = c.in_ok-argument.ensures in
    rw (c.loop-alloc.invariant, next.1) (after_more c.args.depth c.loop-alloc.row.items c.loop-alloc.cursor.left.now c.sign.new.cursor.left.now c.argument.new.cursor.left.now next.0
    (sym c.loop-alloc-test.ensures) c.in_ok-sign.ensures next.2)

-- fewer tokens are left after a comma and an argument
pub more_arguments-loop-alloc-smaller : goal.more_arguments-loop-alloc-smaller
more_arguments-loop-alloc-smaller t c =
    let next = c.in_ok-argument.ensures in
    argument_less c.args.depth c.loop-alloc.cursor.left.now c.sign.new.cursor.left.now c.argument.new.cursor.left.now (argument_of next.0) c.in_ok-sign.ensures next.2

-- a fault in a term is a fault of all the terms of the level
pub terms-returns-in_err-term : goal.terms-returns-in_err-term
terms-returns-in_err-term t c =
    let p = err_from_is_err_and c.from_residual.result c.from_residual.ensures.1 in
    rw (p.1, p.2) (fails_found c.args.depth c.args.looseness c.args.cursor.now.left.now c.loop-alloc.found.items c.loop-alloc.cursor.left.now c.in_err-term.field-0.0 c.term.new.cursor.left.now
    c.requires.low c.requires.high c.loop-alloc.invariant (sym c.loop-alloc-test.ensures) c.in_err-term.ensures)

-- with one more term found, the others are left to read
pub terms-loop-alloc-preserved : goal.terms-loop-alloc-preserved
terms-loop-alloc-preserved t c =
    let next = c.in_ok-term.ensures in
    subst (λ (items : List Term). Found c.args.depth c.args.looseness c.args.cursor.now.left.now items c.term.new.cursor.left.now) (sym next.1)
    (found_more c.args.depth c.args.looseness c.args.cursor.now.left.now c.loop-alloc.found.items c.loop-alloc.cursor.left.now next.0 c.term.new.cursor.left.now c.requires.low c.requires.high
    c.loop-alloc.invariant (sym c.loop-alloc-test.ensures) next.2)

-- fewer tokens are left after a term
pub terms-loop-alloc-smaller : goal.terms-loop-alloc-smaller
terms-loop-alloc-smaller t c =
    let next = c.in_ok-term.ensures in
    term_less c.args.depth c.args.looseness c.loop-alloc.cursor.left.now c.term.new.cursor.left.now (pair_of next.0) c.requires.low c.requires.high next.2

-- where no operator of the level is next, the terms found are all of them
pub terms-returns : goal.terms-returns
terms-returns t c =
    found_all c.args.depth c.args.looseness c.args.cursor.now.left.now c.loop-alloc.found.items c.loop-alloc.cursor.left.now c.loop-alloc.invariant (sym c.loop-alloc-test.ensures)

-- a fault in the target is a fault of the assignment
pub assignment-returns-in_err-target : goal.assignment-returns-in_err-target
unfolding assigned_rest
assignment-returns-in_err-target t c = rw (assignment_form c.args.depth c.args.cursor.now.left.now) (search rules)

-- a fault at the operator is a fault of the assignment
pub assignment-returns-in_err-operator : goal.assignment-returns-in_err-operator
unfolding assigned_rest
assignment-returns-in_err-operator t c = rw (assignment_form c.args.depth c.args.cursor.now.left.now) (search rules)

-- a fault in the value is a fault of the assignment
pub assignment-returns-in_err-value : goal.assignment-returns-in_err-value
unfolding assigned_rest
assignment-returns-in_err-value t c = rw (assignment_form c.args.depth c.args.cursor.now.left.now) (search rules)

-- a fault in the condition is a fault of the conditional
pub conditional-returns-in_err-condition : goal.conditional-returns-in_err-condition
unfolding conditional_rest
conditional-returns-in_err-condition t c = rw (conditional_form c.args.depth c.args.cursor.now.left.now) (search rules)

-- a condition with no question mark after it is all
pub conditional-returns-then-not-at : goal.conditional-returns-then-not-at
unfolding conditional_rest
conditional-returns-then-not-at t c = rw (conditional_form c.args.depth c.args.cursor.now.left.now) (search rules)

-- a fault at the question mark is a fault of the conditional
pub conditional-returns-in_err-open_sign : goal.conditional-returns-in_err-open_sign
unfolding conditional_rest
conditional-returns-in_err-open_sign t c = rw (conditional_form c.args.depth c.args.cursor.now.left.now) (search rules)

-- a fault at the colon is a fault of the conditional
pub conditional-returns-in_err-sign : goal.conditional-returns-in_err-sign
unfolding conditional_rest
conditional-returns-in_err-sign t c = rw (conditional_form c.args.depth c.args.cursor.now.left.now) (search rules)

-- a condition with its choices is the conditional that the code builds
pub conditional-returns : goal.conditional-returns
unfolding conditional_rest
conditional-returns t c = rw (conditional_form c.args.depth c.args.cursor.now.left.now) (search rules)

-- a fault in the first assignment is a fault of the expression
pub expression-returns-in_err-first : goal.expression-returns-in_err-first
expression-returns-in_err-first t c = rw (expression_form c.args.depth c.args.cursor.now.left.now) (search rules)

-- a fault after a comma is a fault of the expression
pub expression-returns-in_err-terms : goal.expression-returns-in_err-terms
expression-returns-in_err-terms t c = rw (expression_form c.args.depth c.args.cursor.now.left.now) (search rules)

-- a fault in a primary is a fault of the unary
pub unary-returns-in_err-primary : goal.unary-returns-in_err-primary
unary-returns-in_err-primary t c = rw (unary_form c.args.depth c.args.cursor.now.left.now) (search rules)

-- where no prefix operator is next, a primary and what comes after it are read
pub unary-returns-then-not-at_prefix : goal.unary-returns-then-not-at_prefix
unary-returns-then-not-at_prefix t c = rw (unary_form c.args.depth c.args.cursor.now.left.now) (search rules)

-- a fault at the prefix operator is a fault of the unary
pub unary-returns-in_err-operator : goal.unary-returns-in_err-operator
unary-returns-in_err-operator t c = rw (unary_form c.args.depth c.args.cursor.now.left.now) (search rules)

-- a fault in the operand is a fault of the unary
pub unary-returns-in_err-operand : goal.unary-returns-in_err-operand
unary-returns-in_err-operand t c = rw (unary_form c.args.depth c.args.cursor.now.left.now) (search rules)

-- a prefix operator and its operand are what the code builds
pub unary-returns : goal.unary-returns
unary-returns t c = rw (unary_form c.args.depth c.args.cursor.now.left.now) (search rules)

-- a fault at a constant is a fault of the primary
pub primary-returns-in_err-token : goal.primary-returns-in_err-token
primary-returns-in_err-token t c = rw (primary_form c.args.depth c.args.cursor.now.left.now) (search rules)

-- a constant is what the code builds
pub primary-returns-then-at_constant : goal.primary-returns-then-at_constant
primary-returns-then-at_constant t c = rw (primary_form c.args.depth c.args.cursor.now.left.now) (search rules)

-- an opening parenthesis begins an expression in parentheses
pub primary-returns-then-at : goal.primary-returns-then-at
primary-returns-then-at t c = rw (primary_form c.args.depth c.args.cursor.now.left.now) (search rules)

-- all others begin with a name
pub primary-returns : goal.primary-returns
primary-returns t c = rw (primary_form c.args.depth c.args.cursor.now.left.now) (search rules)

-- a fault at the opening parenthesis is a fault of them
pub parenthesized-returns-in_err-open_sign : goal.parenthesized-returns-in_err-open_sign
parenthesized-returns-in_err-open_sign t c = rw (parenthesized_form c.args.depth c.args.cursor.now.left.now) (search rules)

-- a fault in what the parentheses hold is a fault of them
pub parenthesized-returns-in_err-inner : goal.parenthesized-returns-in_err-inner
parenthesized-returns-in_err-inner t c = rw (parenthesized_form c.args.depth c.args.cursor.now.left.now) (search rules)

-- a fault at the closing parenthesis is a fault of them
pub parenthesized-returns-in_err-sign : goal.parenthesized-returns-in_err-sign
parenthesized-returns-in_err-sign t c = rw (parenthesized_form c.args.depth c.args.cursor.now.left.now) (search rules)

-- an expression in parentheses is what the code builds
pub parenthesized-returns : goal.parenthesized-returns
parenthesized-returns t c = rw (parenthesized_form c.args.depth c.args.cursor.now.left.now) (search rules)

-- a fault at a name is a fault of what begins with it
pub named-returns-in_err-name : goal.named-returns-in_err-name
unfolding named_rest
named-returns-in_err-name t c = rw (named_form c.args.depth c.args.cursor.now.left.now) (search rules)

-- a name before a bracket is read with its subscript
pub named-returns-then-at : goal.named-returns-then-at
unfolding named_rest
named-returns-then-at t c = rw (named_form c.args.depth c.args.cursor.now.left.now) (search rules)

-- a name before a parenthesis is read with its arguments
pub named-returns-then-at-2 : goal.named-returns-then-at-2
unfolding named_rest
named-returns-then-at-2 t c = rw (named_form c.args.depth c.args.cursor.now.left.now) (search rules)

-- a name alone is what the code builds
pub named-returns : goal.named-returns
unfolding named_rest
named-returns t c = rw (named_form c.args.depth c.args.cursor.now.left.now) (search rules)

-- a fault at a string is a fault of the argument
pub argument-returns-in_err-text : goal.argument-returns-in_err-text
argument-returns-in_err-text t c = rw (argument_form (readers (inside c.args.depth)) c.args.cursor.now.left.now) (search rules)

-- a string is put at the end of the row
pub argument-returns-then-at : goal.argument-returns-then-at
argument-returns-then-at t c = rw (argument_form (readers (inside c.args.depth)) c.args.cursor.now.left.now) (search rules)

-- a fault in a value is a fault of the argument
pub argument-returns-in_err-value : goal.argument-returns-in_err-value
argument-returns-in_err-value t c = rw (argument_form (readers (inside c.args.depth)) c.args.cursor.now.left.now) (search rules)

-- a value is put at the end of the row
pub argument-returns : goal.argument-returns
argument-returns t c = rw (argument_form (readers (inside c.args.depth)) c.args.cursor.now.left.now) (search rules)
