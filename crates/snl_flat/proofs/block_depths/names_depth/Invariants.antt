use Rattle.std.proofs.Common.{◌≡◌, map, drop}
use Rattle.std.specs.Prelude.{max}
use Rattle.snl_syntax.specs.view.Declarations.{declarator_view}
use Rattle.snl_emit.specs.Depths.{entered_depth}
use Rattle.snl_meaning.specs.Known.{outlines}
use Rattle.snl_flat.specs.Depths.{capped}
use Rattle.snl_flat.proofs.block_depths.names_depth.Given as goal

abbrev pub invariant-loop-declarator : goal.invariant-loop-declarator
invariant-loop-declarator l =
    max l.depth (capped (entered_depth (outlines l.functions) (map declarator_view (drop l.declarator-index l.names)))) ≡ capped (entered_depth (outlines l.functions) (map declarator_view l.names))
