use Rattle.snl_channels.proofs.MacroLaws.{left_falls}
use Rattle.snl_channels.proofs.macros.MacroTable.push_replaced.Goals as goal

pub loop-left-smaller : goal.loop-left-smaller
loop-left-smaller c = left_falls c.loop-left.left c.in_ok-left.left c.in-Some.name c.in-Some.is c.in_ok-left.ensures.shorter
