use Rattle.std.proofs.Common.{◌≡◌, ◌++◌, map, drop}
use Rattle.std.specs.List.{concat}
use Rattle.snl_outline.proofs.outline.push_all.Given as goal

abbrev pub invariant-loop-piece : goal.invariant-loop-piece
invariant-loop-piece l =
    l.out.items ++ concat (map (λ piece. piece.now) (drop l.piece-index l.pieces)) ≡ l.initial.out.items ++ concat (map (λ piece. piece.now) l.pieces)
