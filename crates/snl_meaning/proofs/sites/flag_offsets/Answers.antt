use Rattle.snl_meaning.specs.Names.{flag_at, flags_of}
use Rattle.snl_meaning.proofs.Rows.{added-more}
use Rattle.snl_meaning.proofs.sites.flag_offsets.Goals as goal

pub loop-site-preserved : goal.loop-site-preserved
loop-site-preserved c =
    added-more flag_at c.args.sites.now c.loop-site.site-index _ c.loop-site.flags.items c.push_flag.new.flags.items (flags_of c.args.sites.now)
    c.loop-site-test.true c.loop-site.invariant c.in_ok-push_flag.ensures
