use Rattle.std.proofs.Common.{map, drop}
use Rattle.std.specs.List.{flat_map}
use Rattle.snl_syntax.specs.view.Programs.{state_view}
use Rattle.snl_channels.specs.Tables.{state_lines}
use Rattle.snl_channels.proofs.AppendLaws.{Left}
use Rattle.snl_channels.proofs.listing.put_states.Given as goal

abbrev pub invariant-loop-state : goal.invariant-loop-state
invariant-loop-state l = Left l.initial.out.items l.out.items (flat_map state_lines (map state_view l.states)) (flat_map state_lines (map state_view (drop l.state-index l.states)))
