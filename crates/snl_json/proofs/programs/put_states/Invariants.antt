use Rattle.std.proofs.Common.{◌≡◌, drop, map}
use Rattle.snl_syntax.specs.view.Programs.{state_view}
use Rattle.snl_json.specs.Rows.{made, with_things}
use Rattle.snl_json.specs.Programs.{with_state}
use Rattle.snl_json.proofs.programs.put_states.Given as goal

abbrev pub invariant-loop-number : goal.invariant-loop-number
invariant-loop-number l = made l.rows.items ≡ with_things with_state (map state_view (drop l.number l.states)) (made l.initial.rows.items)
