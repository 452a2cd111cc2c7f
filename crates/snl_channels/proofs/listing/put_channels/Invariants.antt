use Rattle.std.proofs.Common.{drop}
use Rattle.std.specs.List.{flat_map}
use Rattle.snl_channels.specs.Tables.{channel_line}
use Rattle.snl_channels.proofs.AppendLaws.{Left}
use Rattle.snl_channels.proofs.listing.put_channels.Given as goal

abbrev pub invariant-loop-tie : goal.invariant-loop-tie
invariant-loop-tie l = Left l.initial.out.items l.out.items (flat_map channel_line l.ties) (flat_map channel_line (drop l.tie-index l.ties))
