use Rattle.std.proofs.Common.{◌≡◌, ◌++◌, map, drop}
use Rattle.std.specs.List.{flat_map}
use Rattle.snl_syntax.specs.view.Programs.{state_view}
use Rattle.snl_names.specs.Variables.{by_state}
use Rattle.snl_names.specs.Chains.{scopes_of}
use Rattle.snl_names.specs.CopyVariables.{variable_view}
use Rattle.snl_resolve.proofs.set_variables.push_states.Given as goal

abbrev pub invariant-loop-state : goal.invariant-loop-state
invariant-loop-state l =
    map variable_view l.kept.items ++ flat_map (by_state (scopes_of l.outer)) (map state_view (drop l.state-index l.states))
    ≡ map variable_view l.initial.kept.items ++ flat_map (by_state (scopes_of l.outer)) (map state_view l.states)
