use Rattle.std.proofs.Common.{◌≡◌, ◌++◌, map, drop}
use Rattle.snl_syntax.specs.view.Programs.{state_set_view}
use Rattle.snl_resolve.specs.Seen.{sight_of}
use Rattle.snl_names.specs.Programs.{in_state_sets}
use Rattle.snl_resolve.proofs.programs.note_each_set.Given as goal

abbrev pub invariant-loop-number : goal.invariant-loop-number
invariant-loop-number l =
    l.sites.items ++ in_state_sets (sight_of l.outer) l.names l.number (map state_set_view (drop l.number l.sets))
    ≡ l.initial.sites.items ++ in_state_sets (sight_of l.outer) l.names 0 (map state_set_view l.sets)
