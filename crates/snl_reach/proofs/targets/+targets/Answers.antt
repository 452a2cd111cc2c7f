use Rattle.snl_reach.proofs.TargetLaws.{nested_targets}
use Rattle.snl_reach.proofs.targets.+targets.Goals as goal

pub push_statement-returns-in_ok-push_block-in-Block :
    goal.push_statement-returns-in_ok-push_block-in-Block
push_statement-returns-in_ok-push_block-in-Block t c =
    nested_targets c.args.statement.now c.in-Block.block c.args.names.now.items c.push_block.new.names.items c.in-Block.is c.in_ok-push_block-in-Block.ensures
