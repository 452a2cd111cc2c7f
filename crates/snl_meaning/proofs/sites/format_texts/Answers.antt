use Rattle.std.proofs.Common.{map}
use Rattle.std.specs.List.{flat_map}
use Rattle.snl_meaning.specs.Names.{format_at}
use Rattle.snl_meaning.proofs.Rows.{added-more}
use Rattle.snl_meaning.proofs.sites.format_texts.Goals as goal

pub loop-site-preserved : goal.loop-site-preserved
loop-site-preserved c =
    added-more format_at c.args.sites.now c.loop-site.site-index _ (map (λ t. t.now) c.loop-site.texts.items) (map (λ t. t.now) c.push_format.new.texts.items)
    (flat_map format_at c.args.sites.now) c.loop-site-test.true c.loop-site.invariant c.in_ok-push_format.ensures
