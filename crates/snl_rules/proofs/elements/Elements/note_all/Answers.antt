use Rattle.snl_rules.specs.ElementTables.{named_in, sorts_of}
use Rattle.snl_rules.proofs.NamedLaws.{named_loop, named_nothing}
use Rattle.snl_rules.proofs.elements.Elements.note_all.Goals as goal

pub loop-site-init : goal.loop-site-init
loop-site-init c = named_nothing (sorts_of c.args.naming) (named_in c.args.self.now) c.requires.element c.requires.below c.requires.some

pub loop-site-preserved : goal.loop-site-preserved
loop-site-preserved c =
    named_loop (sorts_of c.args.naming) c.args.sites.now c.loop-site.site-index _ (named_in c.loop-site.self) (named_in c.note_site.new.self)
    c.loop-site-test.true c.loop-site.invariant c.in_ok-note_site.ensures
