use Rattle.std.proofs.Common.{◌∙◌, sym, ap, option_copied}
use Rattle.snl_vm.proofs.Items.{index-none}
use Rattle.snl_vm.proofs.queues.word_in.Goals as goal

pub returns-in-None : goal.returns-in-None
returns-in-None c = index-none c.args.ring.now.items c.args.number (sym c.get.ensures ∙ ap option_copied c.in-None.is)
