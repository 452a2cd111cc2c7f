use Rattle.std.proofs.Common.{◌≡◌, ◌+◌, ◌*◌, ◌-◌, ◌++◌, Ok, map, length}
use Rattle.snl_tree.specs.reading.Readers.{◌>>=◌}
use Rattle.snl_tree.specs.reading.Expressions.{inside, readers, level_at, terms_at, more_after}
use Rattle.snl_syntax.specs.view.Expressions.{pair_of, list_before}
use Rattle.snl_tree.proofs.readers.expressions.+reading.Given as goal

-- a nested part costs a thousand, a level twenty

-- what one level of expressions costs
abbrev pub decreases-level : goal.decreases-level
decreases-level l = 1000 * l.depth + 20 * l.looseness + 19

-- what a whole expression costs
abbrev pub decreases-expression : goal.decreases-expression
decreases-expression l = 1000 * l.depth + 318

-- what the levels from a tightness up to a level cost
abbrev pub decreases-climb : goal.decreases-climb
decreases-climb l = 1000 * l.depth + 20 * l.looseness + 2 + (l.looseness - l.tightness)

-- what the terms of a level cost
abbrev pub decreases-terms : goal.decreases-terms
decreases-terms l = 1000 * l.depth + 20 * l.looseness + 1

-- what one term of a level costs
abbrev pub decreases-term : goal.decreases-term
decreases-term l = 1000 * l.depth + 20 * l.looseness

-- what an assignment costs
abbrev pub decreases-assignment : goal.decreases-assignment
decreases-assignment l = 1000 * l.depth + 280

-- what a conditional costs
abbrev pub decreases-conditional : goal.decreases-conditional
decreases-conditional l = 1000 * l.depth + 270

-- what a unary costs
abbrev pub decreases-unary : goal.decreases-unary
decreases-unary l = 1000 * l.depth + 12

-- what a primary costs
abbrev pub decreases-primary : goal.decreases-primary
decreases-primary l = 1000 * l.depth + 11

-- what an expression in parentheses costs
abbrev pub decreases-parenthesized : goal.decreases-parenthesized
decreases-parenthesized l = 1000 * l.depth + 10

-- what begins with a name costs
abbrev pub decreases-named : goal.decreases-named
decreases-named l = 1000 * l.depth + 10

-- what a subscript after a name costs
abbrev pub decreases-element : goal.decreases-element
decreases-element l = 1000 * l.depth + 9

-- what a call's arguments after its name cost
abbrev pub decreases-call : goal.decreases-call
decreases-call l = 1000 * l.depth + 9

-- what a list of arguments costs
abbrev pub decreases-arguments : goal.decreases-arguments
decreases-arguments l = 1000 * l.depth + 400

-- what the further arguments of a list cost
abbrev pub decreases-more_arguments : goal.decreases-more_arguments
decreases-more_arguments l = 1000 * l.depth + 399

-- what one argument costs
abbrev pub decreases-argument : goal.decreases-argument
decreases-argument l = 1000 * l.depth + 398

-- the terms are those found, and those left to read
abbrev pub invariant-terms-loop-alloc : goal.invariant-terms-loop-alloc
invariant-terms-loop-alloc l =
    let operand = level_at (inside l.depth) (l.looseness - 1) in
    terms_at l.looseness operand l.initial.cursor.left.now ≡ (terms_at l.looseness operand l.cursor.left.now >>= λ x. Ok (map pair_of l.found.items ++ x.0, x.1))

-- the count of the tokens that are left
abbrev pub decreases-terms-loop-alloc : goal.decreases-terms-loop-alloc
decreases-terms-loop-alloc l = length l.cursor.left.now

-- the arguments are those found, and those left to read
abbrev pub invariant-more_arguments-loop-alloc : goal.invariant-more_arguments-loop-alloc
invariant-more_arguments-loop-alloc l =
    more_after (readers (inside l.depth)) (list_before l.initial.row.items) l.initial.cursor.left.now ≡ more_after (readers (inside l.depth)) (list_before l.row.items) l.cursor.left.now

-- the count of the tokens that are left
abbrev pub decreases-more_arguments-loop-alloc : goal.decreases-more_arguments-loop-alloc
decreases-more_arguments-loop-alloc l = length l.cursor.left.now
