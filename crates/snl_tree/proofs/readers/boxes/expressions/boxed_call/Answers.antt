use Rattle.snl_syntax.specs.declared.expressions.Expr.{Call}
use Rattle.snl_syntax.specs.view.Expressions.{view}
use Rattle.snl_tree.proofs.code.Building.{in_a_box}
use Rattle.snl_syntax.proofs.Rows.{view_call}
use Rattle.snl_tree.proofs.readers.boxes.expressions.boxed_call.Goals as goal

-- the call in the box is seen as the call with its arguments
pub returns : goal.returns
returns c = in_a_box view (Call c.args.name c.args.arguments) _ c.in_box.result c.in_box.ensures.ok c.in_box.ensures.memory (view_call c.args.name c.args.arguments)
