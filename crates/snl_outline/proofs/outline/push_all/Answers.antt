use Rattle.std.proofs.Common.{map, refl}
use Rattle.std.specs.List.{concat}
use Rattle.snl_outline.proofs.Rows.{no-more, read-text}
use Rattle.snl_outline.proofs.outline.push_all.Goals as goal

pub loop-piece-init : goal.loop-piece-init
loop-piece-init c = refl

pub loop-piece-preserved : goal.loop-piece-preserved
loop-piece-preserved c =
    read-text (λ piece. piece.now) (λ l. concat (map (λ piece. piece.now) l)) (λ x xs. refl) c.args.pieces.now c.loop-piece.piece-index _ c.loop-piece.out.items
    c.extend_from_slice.new.self.items _ c.loop-piece-test.true c.loop-piece.invariant c.in_ok-extend_from_slice.ensures.items

pub returns : goal.returns
returns c =
    no-more (λ n l. concat (map (λ piece. piece.now) l)) (λ n. refl) c.args.pieces.now c.loop-piece.piece-index _ _ c.loop-piece-test.false c.loop-piece.invariant
