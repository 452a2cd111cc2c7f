use Rattle.std.proofs.Common.{rules}
use Rattle.snl_tree.proofs.code.FunctionForms.{parameters_form}
use Rattle.snl_tree.proofs.readers.functions.parameters.Goals as goal

-- `void` is read as no parameters
pub returns-then-at : goal.returns-then-at
returns-then-at c = rw (parameters_form c.args.cursor.now.left.now) (search rules)

-- where no type is next there are no parameters
pub returns-then-not-at_declaration : goal.returns-then-not-at_declaration
returns-then-not-at_declaration c = rw (parameters_form c.args.cursor.now.left.now) (search rules)

-- a fault in a row of parameters is a fault of the parameters
pub returns-in_err-each : goal.returns-in_err-each
returns-in_err-each c = rw (parameters_form c.args.cursor.now.left.now) (search rules)

-- a row of parameters is what the code builds
pub returns : goal.returns
returns c = rw (parameters_form c.args.cursor.now.left.now) (search rules)
