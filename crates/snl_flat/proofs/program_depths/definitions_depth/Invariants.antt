use Rattle.std.proofs.Common.{◌≡◌, map, drop}
use Rattle.std.specs.Prelude.{max}
use Rattle.snl_syntax.specs.view.Definitions.{definition_view}
use Rattle.snl_meaning.specs.Known.{outlines}
use Rattle.snl_flat.specs.Depths.{capped, greatest, definition_depth}
use Rattle.snl_flat.proofs.program_depths.definitions_depth.Given as goal

abbrev pub invariant-loop-definition : goal.invariant-loop-definition
invariant-loop-definition l =
    max l.depth (capped (greatest (definition_depth (outlines l.functions)) (map definition_view (drop l.definition-index l.definitions))))
    ≡ capped (greatest (definition_depth (outlines l.functions)) (map definition_view l.definitions))
