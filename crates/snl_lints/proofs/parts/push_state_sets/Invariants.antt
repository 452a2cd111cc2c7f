use Rattle.std.proofs.Common.{◌≡◌, ◌++◌, map, drop}
use Rattle.std.specs.List.{flat_map}
use Rattle.snl_syntax.specs.view.Programs.{state_set_view}
use Rattle.snl_names.specs.UseTables.{declared_at}
use Rattle.snl_lints.specs.Touches.{in_state_set}
use Rattle.snl_lints.proofs.parts.push_state_sets.Given as goal

abbrev pub invariant-loop-set : goal.invariant-loop-set
invariant-loop-set l =
    l.found.items ++ flat_map (in_state_set (declared_at l.uses)) (map state_set_view (drop l.set-index l.sets))
    ≡ l.initial.found.items ++ flat_map (in_state_set (declared_at l.uses)) (map state_set_view l.sets)
