use Rattle.std.proofs.Common.{◌++◌, ap}
use Rattle.snl_rules.specs.ElementTables.{seen_in, known_in}
use Rattle.snl_rules.specs.Tests.{all_broken}
use Rattle.snl_rules.proofs.FactLaws.{seen_loop}
use Rattle.snl_rules.proofs.BrokenLaws.{broken_step, broken_end}
use Rattle.snl_rules.proofs.breaking.tell_sites.Goals as goal

pub loop-site-init : goal.loop-site-init
loop-site-init c = (c.requires.seen, ap (λ l. l ++ all_broken c.args.sites.now) c.requires.found)

pub loop-site-preserved : goal.loop-site-preserved
loop-site-preserved c = (
  seen_loop c.args.sites.now c.loop-site.site-index _ (seen_in c.loop-site.seen) (seen_in c.note_site.new.seen) c.loop-site-test.true
      c.loop-site.invariant.0 c.in_ok-note_site.ensures.seen,
  broken_step c.args.sites.now c.loop-site.site-index _ (seen_in c.loop-site.seen) (known_in c.args.known.now) c.loop-site.found.items c.note_site.new.found.items
      c.loop-site-test.true c.loop-site.invariant.0 c.requires.known c.loop-site.invariant.1 c.in_ok-note_site.ensures.found,
)

pub returns : goal.returns
returns c = broken_end c.args.sites.now c.loop-site.site-index c.loop-site.found.items c.loop-site-test.false c.loop-site.invariant.1
