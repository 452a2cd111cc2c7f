use Rattle.snl_syntax.specs.declared.expressions.Expr.{Chain}
use Rattle.snl_syntax.specs.view.Expressions.{view}
use Rattle.snl_tree.proofs.code.Building.{in_a_box}
use Rattle.snl_syntax.proofs.Rows.{view_chain}
use Rattle.snl_tree.proofs.readers.boxes.expressions.boxed_chain.Goals as goal

-- the chain in the box is seen as the chain of its operands
pub returns : goal.returns
returns c = in_a_box view (Chain c.args.first c.args.terms) _ c.in_box.result c.in_box.ensures.ok c.in_box.ensures.memory (view_chain c.args.first c.args.terms)
