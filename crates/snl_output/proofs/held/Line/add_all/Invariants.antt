use Rattle.std.proofs.Common.{◌≡◌, drop, map}
use Rattle.snl_output.specs.Lines.{joined}
use Rattle.snl_output.proofs.Adding.{IsAdded}
use Rattle.snl_output.proofs.held.Line.add_all.Given as goal

abbrev pub invariant-loop-piece : goal.invariant-loop-piece
invariant-loop-piece g l = record {
  added : IsAdded (joined (map (λ piece. piece.now) l.pieces)) (joined (map (λ piece. piece.now) (drop l.piece-index l.pieces))) l.initial.self.held.items l.self.held.items
      (g.S.Sink.told l.initial.sink) (g.S.Sink.told l.sink);
  none_failed : g.S.Sink.failures l.sink ≡ g.S.Sink.failures l.initial.sink;
}
