use Rattle.snl_channels.specs.Facts.{monitored_in}
use Rattle.snl_channels.proofs.FactLaws.{noted_all, noted_step}
use Rattle.snl_channels.proofs.facts.Monitored.of.Goals as goal

pub loop-said-preserved : goal.loop-said-preserved
loop-said-preserved c =
    noted_step c.args.all.now c.loop-said.said-index c.said-item.result c.loop-said-test.true c.said-item.is
    (monitored_in c.loop-said.monitored) (monitored_in c.note.new.self) c.loop-said.invariant c.in_ok-note.ensures

pub returns : goal.returns
returns c = noted_all c.args.all.now c.loop-said.said-index c.loop-said-test.false (monitored_in c.loop-said.monitored) c.loop-said.invariant
