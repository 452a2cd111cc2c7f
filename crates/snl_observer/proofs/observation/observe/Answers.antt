use Rattle.snl_observer.proofs.OverLaws.{stands-as}
use Rattle.snl_observer.specs.Behind.{pair_of}
use Rattle.snl_observer.proofs.observation.observe.Goals as goal

pub returns-clause-observed : goal.returns-clause-observed
returns-clause-observed g c = λ a b meant bs.
    let run = c.args.run.now in
    let watch = c.args.watch.now in
    let log = c.in_ok-log.log in
    let first = stands-as a b run c.log_of.new.watch watch log.page.run.bytes log.page.watch.bytes log.how log.page.is_stuck meant bs c.log_of.ensures.machine
    c.in_ok-log.ensures.run c.in_ok-log.ensures.watch c.in_ok-log.ensures.how c.in_ok-log.ensures.stuck in
    let right = c.observe_over-close.ensures.observes (pair_of a b run watch) first in
    record {
      run = c.observe_over-close.new.log.page.run.bytes;
      said = c.observe_over-close.new.log.page.watch.bytes;
      observed = right.0;
      printed = λ told. c.into_out.ensures (right.1 told);
    }
