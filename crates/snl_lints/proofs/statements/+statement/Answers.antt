use Rattle.snl_names.specs.UseTables.{declared_at}
use Rattle.snl_lints.proofs.TouchLaws.{nested_added}
use Rattle.snl_lints.proofs.statements.+statement.Goals as goal

pub push_statement-returns-in_ok-push_block-in-Block :
    goal.push_statement-returns-in_ok-push_block-in-Block
push_statement-returns-in_ok-push_block-in-Block t c =
    nested_added (declared_at c.args.uses.now) c.args.statement.now c.in-Block.block c.args.found.now.items c.push_block.new.found.items c.in-Block.is c.in_ok-push_block-in-Block.ensures
