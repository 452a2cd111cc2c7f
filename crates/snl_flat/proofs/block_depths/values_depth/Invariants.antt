use Rattle.std.proofs.Common.{◌≡◌, map, drop}
use Rattle.std.specs.Prelude.{max}
use Rattle.snl_syntax.specs.view.Expressions.{boxed}
use Rattle.snl_emit.specs.Depths.{values_depth}
use Rattle.snl_meaning.specs.Known.{outlines}
use Rattle.snl_flat.specs.Depths.{capped}
use Rattle.snl_flat.proofs.block_depths.values_depth.Given as goal

abbrev pub invariant-loop-value : goal.invariant-loop-value
invariant-loop-value l = max l.depth (capped (values_depth (outlines l.functions) (map boxed (drop l.value-index l.values)))) ≡ capped (values_depth (outlines l.functions) (map boxed l.values))
