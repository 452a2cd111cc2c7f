use Rattle.std.proofs.Common.{◌≡◌, map, drop}
use Rattle.std.specs.Prelude.{max}
use Rattle.snl_syntax.specs.view.Programs.{state_set_view}
use Rattle.snl_meaning.specs.Known.{outlines}
use Rattle.snl_flat.specs.Depths.{capped, greatest, set_depth}
use Rattle.snl_flat.proofs.program_depths.sets_depth.Given as goal

abbrev pub invariant-loop-set : goal.invariant-loop-set
invariant-loop-set l =
    max l.depth (capped (greatest (set_depth (outlines l.functions)) (map state_set_view (drop l.set-index l.sets))))
    ≡ capped (greatest (set_depth (outlines l.functions)) (map state_set_view l.sets))
