use Rattle.std.proofs.Common.{◌≡◌, ◌++◌, drop, map}
use Rattle.std.specs.List.{concat}
use Rattle.snl_notes.proofs.helps.push_all.Given as goal

-- the text so far, and the pieces that are left
abbrev pub invariant-loop-piece : goal.invariant-loop-piece
invariant-loop-piece l =
    l.out.items ++ concat (map (λ piece. piece.now) (drop l.piece-index l.pieces)) ≡ l.initial.out.items ++ concat (map (λ piece. piece.now) l.pieces)
