use Rattle.std.proofs.Common.{map, drop}
use Rattle.snl_channels.specs.Tables.{joined}
use Rattle.snl_channels.proofs.AppendLaws.{Left}
use Rattle.snl_channels.proofs.appending.put_pieces.Given as goal

abbrev pub invariant-loop-piece : goal.invariant-loop-piece
invariant-loop-piece l = Left l.initial.out.items l.out.items (joined (map (λ p. p.now) l.pieces)) (joined (map (λ p. p.now) (drop l.piece-index l.pieces)))
