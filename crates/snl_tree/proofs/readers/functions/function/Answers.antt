use Rattle.std.proofs.Common.{rules}
use Rattle.snl_syntax.specs.view.Shown.{shown}
use Rattle.snl_syntax.specs.view.Declarations.{type_view}
use Rattle.snl_tree.proofs.code.FunctionForms.{function_form}
use Rattle.snl_tree.proofs.readers.functions.function.Goals as goal

-- a fault at the opening parenthesis is a fault of the function
pub returns-in_err-sign : goal.returns-in_err-sign
returns-in_err-sign c = rw (function_form (shown type_view c.args.type_name) c.args.name c.args.depth c.args.cursor.now.left.now) (search rules)

-- a fault in the parameters is a fault of the function
pub returns-in_err-parameters : goal.returns-in_err-parameters
returns-in_err-parameters c = rw (function_form (shown type_view c.args.type_name) c.args.name c.args.depth c.args.cursor.now.left.now) (search rules)

-- a fault at the closing parenthesis is a fault of the function
pub returns-in_err-sign-2 : goal.returns-in_err-sign-2
returns-in_err-sign-2 c = rw (function_form (shown type_view c.args.type_name) c.args.name c.args.depth c.args.cursor.now.left.now) (search rules)

-- a fault in the body is a fault of the function
pub returns-in_err-body : goal.returns-in_err-body
returns-in_err-body c = rw (function_form (shown type_view c.args.type_name) c.args.name c.args.depth c.args.cursor.now.left.now) (search rules)

-- a function is what the code builds
pub returns : goal.returns
returns c = rw (function_form (shown type_view c.args.type_name) c.args.name c.args.depth c.args.cursor.now.left.now) (search rules)
