use Rattle.std.proofs.Common.{map, refl}
use Rattle.snl_channels.specs.Tables.{joined}
use Rattle.snl_channels.proofs.AppendLaws.{row_begun_at, on_err}
use Rattle.snl_channels.proofs.appending.put_pieces.Goals as goal

pub returns-in_err-put_piece-clause-begun : goal.returns-in_err-put_piece-clause-begun
returns-in_err-put_piece-clause-begun c =
    on_err c.from_residual.result
    (row_begun_at (λ k p. p.now) (λ k ps. joined (map (λ p. p.now) ps)) (λ k x xs. refl) c.args.pieces.now c.loop-piece.piece-index _ _ _ _ _
    c.loop-piece-test.true c.loop-piece.invariant c.in_err-put_piece.ensures.begun)
