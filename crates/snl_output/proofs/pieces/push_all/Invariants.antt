use Rattle.std.proofs.Common.{◌≡◌, ◌++◌, drop, map}
use Rattle.snl_output.specs.Lines.{joined}
use Rattle.snl_output.proofs.pieces.push_all.Given as goal

-- the text so far, and the pieces that are left
abbrev pub invariant-loop-piece : goal.invariant-loop-piece
invariant-loop-piece l =
    l.out.items ++ joined (map (λ piece. piece.now) (drop l.piece-index l.pieces)) ≡ l.initial.out.items ++ joined (map (λ piece. piece.now) l.pieces)
