use Rattle.std.proofs.Common.{rules}
use Rattle.snl_tree.proofs.code.StatementForms.{return_form}
use Rattle.snl_tree.proofs.readers.statements.return_statement.Goals as goal

-- a fault at the word is a fault of the statement
pub returns-in_err-word : goal.returns-in_err-word
returns-in_err-word c = rw (return_form c.args.limit c.args.cursor.now.left.now) (search rules)

-- a fault in the value or at the semicolon is a fault of the statement
pub returns-in_err-value : goal.returns-in_err-value
returns-in_err-value c = rw (return_form c.args.limit c.args.cursor.now.left.now) (search rules)

-- a `return` is what the code builds
pub returns : goal.returns
returns c = rw (return_form c.args.limit c.args.cursor.now.left.now) (search rules)
