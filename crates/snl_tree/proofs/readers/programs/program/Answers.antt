use Rattle.std.proofs.Common.{rules}
use Rattle.snl_tree.proofs.code.ProgramForms.{program_form}
use Rattle.snl_tree.proofs.readers.programs.program.Goals as goal

-- a fault at the word is a fault of the program
pub returns-in_err-word-clause-tree : goal.returns-in_err-word-clause-tree
returns-in_err-word-clause-tree c = rw (program_form c.args.depth c.args.cursor.now.left.now) (search rules)

-- a fault at the name is a fault of the program
pub returns-in_err-name-clause-tree : goal.returns-in_err-name-clause-tree
returns-in_err-name-clause-tree c = rw (program_form c.args.depth c.args.cursor.now.left.now) (search rules)

-- a fault in the macros is a fault of the program
pub returns-in_err-macros-clause-tree : goal.returns-in_err-macros-clause-tree
returns-in_err-macros-clause-tree c = rw (program_form c.args.depth c.args.cursor.now.left.now) (search rules)

-- a fault in the definitions is a fault of the program
pub returns-in_err-definitions-clause-tree : goal.returns-in_err-definitions-clause-tree
returns-in_err-definitions-clause-tree c = rw (program_form c.args.depth c.args.cursor.now.left.now) (search rules)

-- a fault in the entry block is a fault of the program
pub returns-in_err-entry-clause-tree : goal.returns-in_err-entry-clause-tree
returns-in_err-entry-clause-tree c = rw (program_form c.args.depth c.args.cursor.now.left.now) (search rules)

-- a fault in the state sets is a fault of the program
pub returns-in_err-state_sets-clause-tree : goal.returns-in_err-state_sets-clause-tree
returns-in_err-state_sets-clause-tree c = rw (program_form c.args.depth c.args.cursor.now.left.now) (search rules)

-- a fault in the exit block is a fault of the program
pub returns-in_err-exit-clause-tree : goal.returns-in_err-exit-clause-tree
returns-in_err-exit-clause-tree c = rw (program_form c.args.depth c.args.cursor.now.left.now) (search rules)

-- a program is what the code builds
pub returns-clause-tree : goal.returns-clause-tree
returns-clause-tree c = rw (program_form c.args.depth c.args.cursor.now.left.now) (search rules)
