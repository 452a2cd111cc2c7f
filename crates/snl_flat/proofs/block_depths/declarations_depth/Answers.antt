use Rattle.snl_meaning.specs.Known.{outlines}
use Rattle.snl_flat.proofs.DepthLaws.{declarations_more}
use Rattle.snl_flat.proofs.block_depths.declarations_depth.Goals as goal

pub loop-declaration-preserved : goal.loop-declaration-preserved
loop-declaration-preserved c =
    declarations_more (outlines c.args.functions.now) c.args.declarations.now c.loop-declaration.declaration-index c.declaration-item.result c.as_slice.result.now
    c.loop-declaration.depth c.names_depth.result c.larger-depth.result _
    c.loop-declaration-test.true c.declaration-item.is c.as_slice.ensures.value c.names_depth.ensures c.larger-depth.ensures c.loop-declaration.invariant
