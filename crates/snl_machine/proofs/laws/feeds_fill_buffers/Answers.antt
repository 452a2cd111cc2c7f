use Rattle.snl_machine.proofs.Feeds.{feeds_fill_buffers}
use Rattle.snl_machine.proofs.laws.feeds_fill_buffers.Goals as goal

pub returns : goal.returns
returns c = feeds_fill_buffers
