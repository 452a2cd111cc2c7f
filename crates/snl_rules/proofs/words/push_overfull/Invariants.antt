use Rattle.std.proofs.Common.{◌≡◌, ◌++◌, map, drop}
use Rattle.snl_syntax.specs.view.Programs.{state_set_view, program_view}
use Rattle.snl_rules.specs.Counts.{overfull_from}
use Rattle.snl_rules.proofs.words.push_overfull.Given as goal

abbrev pub invariant-loop-number : goal.invariant-loop-number
invariant-loop-number l =
    l.found.items ++ overfull_from (program_view l.program) l.number (map state_set_view (drop l.number l.sets))
    ≡ l.initial.found.items ++ overfull_from (program_view l.program) 0 (map state_set_view l.sets)
