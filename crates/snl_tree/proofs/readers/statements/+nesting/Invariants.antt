use Rattle.std.proofs.Common.{◌+◌, ◌*◌, length}
use Rattle.snl_tree.specs.reading.Statements.{opens_statement, statement_at}
use Rattle.snl_tree.specs.reading.StatementSteps.{statement_row_at}
use Rattle.snl_syntax.specs.view.Statements.{statement_view}
use Rattle.snl_tree.proofs.code.Turns.{Found}
use Rattle.snl_tree.proofs.readers.statements.+nesting.Given as goal

-- what is nested costs ten

-- what a statement costs
abbrev pub decreases-statement : goal.decreases-statement
decreases-statement l = 10 * l.depth + 5

-- what a block costs
abbrev pub decreases-block : goal.decreases-block
decreases-block l = 10 * l.depth + 4

-- what a row of statements costs
abbrev pub decreases-statements : goal.decreases-statements
decreases-statements l = 10 * l.depth + 6

-- what an `if` statement costs
abbrev pub decreases-if_statement : goal.decreases-if_statement
decreases-if_statement l = 10 * l.depth + 4

-- what the `else` part of an `if` costs
abbrev pub decreases-otherwise : goal.decreases-otherwise
decreases-otherwise l = 10 * l.depth + 6

-- what a `while` loop costs
abbrev pub decreases-while_loop : goal.decreases-while_loop
decreases-while_loop l = 10 * l.depth + 4

-- what a `for` loop costs
abbrev pub decreases-for_loop : goal.decreases-for_loop
decreases-for_loop l = 10 * l.depth + 4

-- the statements are those found, and those left to read
abbrev pub invariant-statements-loop-alloc : goal.invariant-statements-loop-alloc
invariant-statements-loop-alloc l = Found opens_statement (statement_at l.limit l.depth) statement_view (statement_row_at l.limit l.depth l.initial.cursor.left.now) l.found.items l.cursor.left.now

-- the count of the tokens that are left
abbrev pub decreases-statements-loop-alloc : goal.decreases-statements-loop-alloc
decreases-statements-loop-alloc l = length l.cursor.left.now
