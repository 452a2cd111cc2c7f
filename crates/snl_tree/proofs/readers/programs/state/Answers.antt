use Rattle.std.proofs.Common.{rules}
use Rattle.snl_tree.proofs.code.ProgramForms.{state_form}
use Rattle.snl_tree.proofs.readers.programs.state.Goals as goal

-- a fault at the word is a fault of the state
pub returns-in_err-word : goal.returns-in_err-word
returns-in_err-word c = rw (state_form c.args.depth c.args.cursor.now.left.now) (search rules)

-- a fault at the name is a fault of the state
pub returns-in_err-name : goal.returns-in_err-name
returns-in_err-name c = rw (state_form c.args.depth c.args.cursor.now.left.now) (search rules)

-- a fault at the opening brace is a fault of the state
pub returns-in_err-sign : goal.returns-in_err-sign
returns-in_err-sign c = rw (state_form c.args.depth c.args.cursor.now.left.now) (search rules)

-- a fault in the definitions is a fault of the state
pub returns-in_err-definitions : goal.returns-in_err-definitions
returns-in_err-definitions c = rw (state_form c.args.depth c.args.cursor.now.left.now) (search rules)

-- a fault in the entry block is a fault of the state
pub returns-in_err-entry : goal.returns-in_err-entry
returns-in_err-entry c = rw (state_form c.args.depth c.args.cursor.now.left.now) (search rules)

-- a fault in the clauses is a fault of the state
pub returns-in_err-clauses : goal.returns-in_err-clauses
returns-in_err-clauses c = rw (state_form c.args.depth c.args.cursor.now.left.now) (search rules)

-- a fault in the exit block is a fault of the state
pub returns-in_err-exit : goal.returns-in_err-exit
returns-in_err-exit c = rw (state_form c.args.depth c.args.cursor.now.left.now) (search rules)

-- a fault at the closing brace is a fault of the state
pub returns-in_err-sign-2 : goal.returns-in_err-sign-2
returns-in_err-sign-2 c = rw (state_form c.args.depth c.args.cursor.now.left.now) (search rules)

-- a state is what the code builds
pub returns : goal.returns
returns c = rw (state_form c.args.depth c.args.cursor.now.left.now) (search rules)
