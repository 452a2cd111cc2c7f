use Rattle.std.proofs.Common.{◌≡◌, map, drop}
use Rattle.std.specs.Prelude.{max}
use Rattle.snl_syntax.specs.view.Programs.{state_view}
use Rattle.snl_meaning.specs.Known.{outlines}
use Rattle.snl_flat.specs.Depths.{capped, greatest, state_depth}
use Rattle.snl_flat.proofs.program_depths.states_depth.Given as goal

abbrev pub invariant-loop-state : goal.invariant-loop-state
invariant-loop-state l =
    max l.depth (capped (greatest (state_depth (outlines l.functions)) (map state_view (drop l.state-index l.states))))
    ≡ capped (greatest (state_depth (outlines l.functions)) (map state_view l.states))
