use Rattle.std.proofs.Common.{map}
use Rattle.snl_meaning.specs.declared.names.Placed.{Placed}
use Rattle.snl_meaning.proofs.Rows.{seen-more}
use Rattle.snl_meaning.proofs.places.offsets_of.Goals as goal

pub loop-placed-preserved : goal.loop-placed-preserved
loop-placed-preserved c =
    seen-more (λ (v : Placed). v.offset) c.args.all.now c.loop-placed.placed-index _ c.loop-placed.offsets.items c.push.new.self.items
    (map (λ (v : Placed). v.offset) c.args.all.now) c.loop-placed-test.true c.loop-placed.invariant c.in_ok-push.ensures.items
