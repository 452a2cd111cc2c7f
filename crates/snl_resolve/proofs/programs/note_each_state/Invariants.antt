use Rattle.std.proofs.Common.{◌≡◌, ◌++◌, map, drop}
use Rattle.snl_syntax.specs.view.Programs.{state_view}
use Rattle.snl_resolve.specs.Seen.{sight_of}
use Rattle.snl_names.specs.Programs.{in_states}
use Rattle.snl_resolve.proofs.programs.note_each_state.Given as goal

abbrev pub invariant-loop-number : goal.invariant-loop-number
invariant-loop-number l =
    l.sites.items ++ in_states (sight_of l.outer) l.names l.number (map state_view (drop l.number l.states))
    ≡ l.initial.sites.items ++ in_states (sight_of l.outer) l.names 0 (map state_view l.states)
