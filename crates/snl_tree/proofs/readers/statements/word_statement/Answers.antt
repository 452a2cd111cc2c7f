use Rattle.std.proofs.Common.{rules}
use Rattle.snl_tree.proofs.code.StatementForms.{word_statement_form}
use Rattle.snl_tree.proofs.readers.statements.word_statement.Goals as goal

-- a fault at a `break` is a fault of the statement
pub returns-in_err-word : goal.returns-in_err-word
returns-in_err-word c = rw (word_statement_form c.args.limit c.args.cursor.now.left.now) (search rules)

-- a `break` is what the code builds
pub returns-then-at : goal.returns-then-at
returns-then-at c = rw (word_statement_form c.args.limit c.args.cursor.now.left.now) (search rules)

-- a fault at a `continue` is a fault of the statement
pub returns-in_err-word-2 : goal.returns-in_err-word-2
returns-in_err-word-2 c = rw (word_statement_form c.args.limit c.args.cursor.now.left.now) (search rules)

-- a `continue` is what the code builds
pub returns-then-at-2 : goal.returns-then-at-2
returns-then-at-2 c = rw (word_statement_form c.args.limit c.args.cursor.now.left.now) (search rules)

-- a fault at the word of a state statement is a fault of it
pub returns-in_err-word-3 : goal.returns-in_err-word-3
returns-in_err-word-3 c = rw (word_statement_form c.args.limit c.args.cursor.now.left.now) (search rules)

-- a fault at the name of a state statement is a fault of it
pub returns-in_err-name : goal.returns-in_err-name
returns-in_err-name c = rw (word_statement_form c.args.limit c.args.cursor.now.left.now) (search rules)

-- a state statement is what the code builds
pub returns-then-at-3 : goal.returns-then-at-3
returns-then-at-3 c = rw (word_statement_form c.args.limit c.args.cursor.now.left.now) (search rules)

-- a `return` is a statement
pub returns-then-at-4 : goal.returns-then-at-4
returns-then-at-4 c = rw (word_statement_form c.args.limit c.args.cursor.now.left.now) (search rules)

-- an expression with a semicolon is a statement
pub returns : goal.returns
returns c = rw (word_statement_form c.args.limit c.args.cursor.now.left.now) (search rules)
