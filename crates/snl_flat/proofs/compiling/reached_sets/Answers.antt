use Rattle.std.proofs.Common.{refl}
use Rattle.snl_flat.proofs.Marked.{marked-more, marked-all}
use Rattle.snl_flat.proofs.compiling.reached_sets.Goals as goal

pub loop-set-preserved : goal.loop-set-preserved
loop-set-preserved c =
    marked-more c.args.sets.now c.args.sets.now c.loop-set.set-index c.set-item.result c.as_slice.result.now
    c.loop-set.marks.items c.push.new.self.items c.in_ok-of_set.of_set refl
    c.loop-set-test.true c.set-item.is c.as_slice.ensures.value c.in_ok-push.ensures.items c.in_ok-of_set.ensures c.loop-set.invariant

pub returns : goal.returns
returns c = marked-all c.args.sets.now c.args.sets.now c.loop-set.set-index c.loop-set.marks.items refl c.loop-set-test.false c.loop-set.invariant
