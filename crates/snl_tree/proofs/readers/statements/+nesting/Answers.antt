use Rattle.std.proofs.Common.{rules, sym}
use Rattle.std.proofs.lemmas.Result.{err_from_is_err_and}
use Rattle.snl_tree.specs.reading.Statements.{opens_statement, statement_at}
use Rattle.snl_tree.specs.reading.StatementSteps.{statement_row_at}
use Rattle.snl_syntax.specs.view.Statements.{statement_view}
use Rattle.snl_tree.proofs.code.Turns.{found_none, found_more, found_all, found_fails}
use Rattle.snl_tree.proofs.code.StatementForms.{block_form, for_form, if_form, statement_form, statement_less, while_form}
use Rattle.snl_tree.proofs.readers.statements.+nesting.Goals as goal

-- at first no statement is found, and all are left to read
pub statements-loop-alloc-init : goal.statements-loop-alloc-init
unfolding statement_row_at
statements-loop-alloc-init t c = found_none opens_statement (statement_at c.args.limit c.args.depth) statement_view c.args.cursor.now.left.now c.new-found.result.items c.new-found.ensures.items

-- with one more statement found, the others are left to read
pub statements-loop-alloc-preserved : goal.statements-loop-alloc-preserved
statements-loop-alloc-preserved t c =
    found_more opens_statement (statement_at c.args.limit c.args.depth) (statement_less c.args.limit c.args.depth) statement_view
    (statement_row_at c.args.limit c.args.depth c.args.cursor.now.left.now) c.loop-alloc.found.items c.loop-alloc.cursor.left.now c.in_ok-next.next.value c.statement.new.cursor.left.now _
    c.in_ok-added.ensures.items c.loop-alloc.invariant (sym c.loop-alloc-test.ensures) c.in_ok-next.ensures

-- fewer tokens are left after a statement
pub statements-loop-alloc-smaller : goal.statements-loop-alloc-smaller
statements-loop-alloc-smaller t c = statement_less c.args.limit c.args.depth c.loop-alloc.cursor.left.now c.statement.new.cursor.left.now (statement_view c.in_ok-next.next.value) c.in_ok-next.ensures

-- where no statement begins, those found are all of them
pub statements-returns : goal.statements-returns
statements-returns t c =
    found_all opens_statement (statement_at c.args.limit c.args.depth) statement_view (statement_row_at c.args.limit c.args.depth c.args.cursor.now.left.now) c.loop-alloc.found.items
    c.loop-alloc.cursor.left.now c.loop-alloc.invariant (sym c.loop-alloc-test.ensures)

-- a fault in a statement is a fault of them all
pub statements-returns-in_err-next : goal.statements-returns-in_err-next
statements-returns-in_err-next t c =
    let p = err_from_is_err_and c.from_residual.result c.from_residual.ensures.1 in
    rw (p.1, p.2) (found_fails opens_statement (statement_at c.args.limit c.args.depth) (statement_less c.args.limit c.args.depth) statement_view
    (statement_row_at c.args.limit c.args.depth c.args.cursor.now.left.now) c.loop-alloc.found.items c.loop-alloc.cursor.left.now c.in_err-next.field-0.0 c.statement.new.cursor.left.now
    c.loop-alloc.invariant (sym c.loop-alloc-test.ensures) c.in_err-next.ensures)

-- a fault at the opening brace is a fault of the block
pub block-returns-in_err-open_sign : goal.block-returns-in_err-open_sign
block-returns-in_err-open_sign t c = rw (block_form c.args.limit c.args.depth c.args.cursor.now.left.now) (search rules)

-- a fault in the declarations is a fault of the block
pub block-returns-in_err-declarations : goal.block-returns-in_err-declarations
block-returns-in_err-declarations t c = rw (block_form c.args.limit c.args.depth c.args.cursor.now.left.now) (search rules)

-- a fault in the statements is a fault of the block
pub block-returns-in_err-statements : goal.block-returns-in_err-statements
block-returns-in_err-statements t c = rw (block_form c.args.limit c.args.depth c.args.cursor.now.left.now) (search rules)

-- a fault at the closing brace is a fault of the block
pub block-returns-in_err-sign : goal.block-returns-in_err-sign
block-returns-in_err-sign t c = rw (block_form c.args.limit c.args.depth c.args.cursor.now.left.now) (search rules)

-- a block is what the code builds
pub block-returns : goal.block-returns
block-returns t c = rw (block_form c.args.limit c.args.depth c.args.cursor.now.left.now) (search rules)

-- a fault in a block is a fault of the statement
pub statement-returns-in_err-block : goal.statement-returns-in_err-block
statement-returns-in_err-block t c = rw (statement_form c.args.limit c.args.depth c.args.cursor.now.left.now) (search rules)

-- a block is a statement
pub statement-returns-then-at : goal.statement-returns-then-at
statement-returns-then-at t c = rw (statement_form c.args.limit c.args.depth c.args.cursor.now.left.now) (search rules)

-- a fault at a semicolon is a fault of the statement
pub statement-returns-in_err-sign : goal.statement-returns-in_err-sign
statement-returns-in_err-sign t c = rw (statement_form c.args.limit c.args.depth c.args.cursor.now.left.now) (search rules)

-- a semicolon alone is a statement
pub statement-returns-then-at-2 : goal.statement-returns-then-at-2
statement-returns-then-at-2 t c = rw (statement_form c.args.limit c.args.depth c.args.cursor.now.left.now) (search rules)

-- an `if` is a statement
pub statement-returns-then-at-3 : goal.statement-returns-then-at-3
statement-returns-then-at-3 t c = rw (statement_form c.args.limit c.args.depth c.args.cursor.now.left.now) (search rules)

-- a `while` loop is a statement
pub statement-returns-then-at-4 : goal.statement-returns-then-at-4
statement-returns-then-at-4 t c = rw (statement_form c.args.limit c.args.depth c.args.cursor.now.left.now) (search rules)

-- a `for` loop is a statement
pub statement-returns-then-at-5 : goal.statement-returns-then-at-5
statement-returns-then-at-5 t c = rw (statement_form c.args.limit c.args.depth c.args.cursor.now.left.now) (search rules)

-- all other statements nest none
pub statement-returns : goal.statement-returns
statement-returns t c = rw (statement_form c.args.limit c.args.depth c.args.cursor.now.left.now) (search rules)

-- a fault at the word is a fault of the `if`
pub if_statement-returns-in_err-open_sign : goal.if_statement-returns-in_err-open_sign
if_statement-returns-in_err-open_sign t c = rw (if_form c.args.limit c.args.depth c.args.cursor.now.left.now) (search rules)

-- a fault in the condition is a fault of the `if`
pub if_statement-returns-in_err-condition : goal.if_statement-returns-in_err-condition
if_statement-returns-in_err-condition t c = rw (if_form c.args.limit c.args.depth c.args.cursor.now.left.now) (search rules)

-- a fault in the first statement is a fault of the `if`
pub if_statement-returns-in_err-first : goal.if_statement-returns-in_err-first
if_statement-returns-in_err-first t c = rw (if_form c.args.limit c.args.depth c.args.cursor.now.left.now) (search rules)

-- an `if` is what the code makes of its parts
pub if_statement-returns : goal.if_statement-returns
if_statement-returns t c = rw (if_form c.args.limit c.args.depth c.args.cursor.now.left.now) (search rules)

-- a fault at the word is a fault of the `while` loop
pub while_loop-returns-in_err-word : goal.while_loop-returns-in_err-word
while_loop-returns-in_err-word t c = rw (while_form c.args.limit c.args.depth c.args.cursor.now.left.now) (search rules)

-- a fault in the condition is a fault of the `while` loop
pub while_loop-returns-in_err-condition : goal.while_loop-returns-in_err-condition
while_loop-returns-in_err-condition t c = rw (while_form c.args.limit c.args.depth c.args.cursor.now.left.now) (search rules)

-- a fault in the body is a fault of the `while` loop
pub while_loop-returns-in_err-body : goal.while_loop-returns-in_err-body
while_loop-returns-in_err-body t c = rw (while_form c.args.limit c.args.depth c.args.cursor.now.left.now) (search rules)

-- a `while` loop is what the code builds
pub while_loop-returns : goal.while_loop-returns
while_loop-returns t c = rw (while_form c.args.limit c.args.depth c.args.cursor.now.left.now) (search rules)

-- a fault at the word is a fault of the `for` loop
pub for_loop-returns-in_err-word : goal.for_loop-returns-in_err-word
for_loop-returns-in_err-word t c = rw (for_form c.args.limit c.args.depth c.args.cursor.now.left.now) (search rules)

-- a fault in the header is a fault of the `for` loop
pub for_loop-returns-in_err-header : goal.for_loop-returns-in_err-header
for_loop-returns-in_err-header t c = rw (for_form c.args.limit c.args.depth c.args.cursor.now.left.now) (search rules)

-- a fault in the body is a fault of the `for` loop
pub for_loop-returns-in_err-body : goal.for_loop-returns-in_err-body
for_loop-returns-in_err-body t c = rw (for_form c.args.limit c.args.depth c.args.cursor.now.left.now) (search rules)

-- a `for` loop is what the code builds
pub for_loop-returns : goal.for_loop-returns
for_loop-returns t c = rw (for_form c.args.limit c.args.depth c.args.cursor.now.left.now) (search rules)
