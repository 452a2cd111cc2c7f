use Rattle.std.proofs.Common.{nat_eq}
use Rattle.std.specs.HashMap.{get}
use Rattle.snl_rules.proofs.FactLaws.{first_step}
use Rattle.snl_rules.proofs.facts.note_firsts.Goals as goal

pub loop-site-preserved : goal.loop-site-preserved
loop-site-preserved c =
    first_step c.args.sites.now c.loop-site.site-index _ (get nat_eq c.loop-site.firsts) (get nat_eq c.note_first_at.new.firsts)
    c.loop-site-test.true c.loop-site.invariant c.in_ok-note_first_at.ensures
