use Rattle.std.proofs.Common.{rules}
use Rattle.snl_tree.proofs.code.ProgramForms.{clause_form}
use Rattle.snl_tree.proofs.readers.programs.clause.Goals as goal

-- a fault at the word is a fault of the clause
pub returns-in_err-word : goal.returns-in_err-word
returns-in_err-word c = rw (clause_form c.args.depth c.args.cursor.now.left.now) (search rules)

-- a fault in the condition is a fault of the clause
pub returns-in_err-condition : goal.returns-in_err-condition
returns-in_err-condition c = rw (clause_form c.args.depth c.args.cursor.now.left.now) (search rules)

-- a fault in the block is a fault of the clause
pub returns-in_err-block : goal.returns-in_err-block
returns-in_err-block c = rw (clause_form c.args.depth c.args.cursor.now.left.now) (search rules)

-- a fault in the target is a fault of the clause
pub returns-in_err-target : goal.returns-in_err-target
returns-in_err-target c = rw (clause_form c.args.depth c.args.cursor.now.left.now) (search rules)

-- a clause is what the code builds
pub returns : goal.returns
returns c = rw (clause_form c.args.depth c.args.cursor.now.left.now) (search rules)
