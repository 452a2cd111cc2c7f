use Rattle.std.proofs.Common.{map, drop}
use Rattle.std.specs.List.{flat_map}
use Rattle.snl_syntax.specs.view.Programs.{state_set_view}
use Rattle.snl_channels.specs.Tables.{set_lines}
use Rattle.snl_channels.proofs.AppendLaws.{Left}
use Rattle.snl_channels.proofs.listing.put_sets.Given as goal

abbrev pub invariant-loop-set : goal.invariant-loop-set
invariant-loop-set l = Left l.initial.out.items l.out.items (flat_map set_lines (map state_set_view l.sets)) (flat_map set_lines (map state_set_view (drop l.set-index l.sets)))
