use Rattle.std.proofs.Common.{rules}
use Rattle.snl_output.proofs.Adding.{added-as, added-cut, added-more, added-start, failed-adds}
use Rattle.snl_output.proofs.Writing.{pieces-here}
use Rattle.snl_output.proofs.held.Line.add_all.Goals as goal

pub loop-piece-init : goal.loop-piece-init
loop-piece-init g c = record {
  added = added-start _ _ _;
  none_failed = search rules;
}

pub returns-in_err-add-clause-told : goal.returns-in_err-add-clause-told
returns-in_err-add-clause-told g c =
    failed-adds _ _ _ _ _ c.from_residual.ensures.0
    (added-cut _ _ _ _ _ _ _ _ (added-as _ _ _ _ _ _ _ (pieces-here (λ piece. piece.now) c.args.pieces.now c.loop-piece.piece-index _ c.loop-piece-test.true) c.loop-piece.invariant.added)
    c.in_err-add.ensures.told)

pub loop-piece-preserved : goal.loop-piece-preserved
loop-piece-preserved g c = record {
  added = added-more _ _ _ _ _ _ _ _ _ (added-as _ _ _ _ _ _ _ (pieces-here (λ piece. piece.now) c.args.pieces.now c.loop-piece.piece-index _ c.loop-piece-test.true) c.loop-piece.invariant.added)
      c.in_ok-add.ensures.told;
  none_failed = search rules;
}
