use Rattle.std.proofs.Common.{◌≡◌, drop, map}
use Rattle.snl_syntax.specs.view.Programs.{state_set_view}
use Rattle.snl_json.specs.Rows.{made, with_things}
use Rattle.snl_json.specs.Programs.{with_state_set}
use Rattle.snl_json.proofs.programs.put_state_sets.Given as goal

abbrev pub invariant-loop-number : goal.invariant-loop-number
invariant-loop-number l = made l.rows.items ≡ with_things with_state_set (map state_set_view (drop l.number l.sets)) (made l.initial.rows.items)
