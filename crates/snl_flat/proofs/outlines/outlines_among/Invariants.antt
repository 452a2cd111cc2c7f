use Rattle.std.proofs.Common.{◌≡◌, List, [], drop, map}
use Rattle.std.specs.List.{flat_map}
use Rattle.snl_syntax.specs.view.Definitions.{definition_view}
use Rattle.snl_names.specs.Variables.{function_by}
use Rattle.snl_emit.specs.Depths.{outlines_after}
use Rattle.snl_meaning.specs.Known.{outlines}
use Rattle.snl_meaning.specs.Names.{Outline}
use Rattle.snl_flat.specs.Heres.{routine_by}
use Rattle.snl_flat.specs.Outlines.{AreAlike}
use Rattle.snl_flat.proofs.outlines.outlines_among.Given as goal

-- functions so far, and those that are left
abbrev pub invariant-loop-definition : goal.invariant-loop-definition
invariant-loop-definition l =
    (above : List Outline) × AreAlike (outlines l.kept.items) above
    × (outlines_after above (map (routine_by [] []) (flat_map function_by (map definition_view (drop l.definition-index l.definitions))))
    ≡ outlines_after [] (map (routine_by [] []) (flat_map function_by (map definition_view l.definitions))))
