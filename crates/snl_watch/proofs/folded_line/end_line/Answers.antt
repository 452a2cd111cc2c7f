use Rattle.snl_watch.proofs.FoldLaws.{on-ok, recents-as}
use Rattle.snl_watch.proofs.folded_line.end_line.Goals as goal

pub returns-then-measure-le-TEXT-clause-folds : goal.returns-then-measure-le-TEXT-clause-folds
returns-then-measure-le-TEXT-clause-folds g c = on-ok c.end_text.result _ _
    (λ folds run output output' was is f. folds run output output' was is (recents-as run output c.args.line.now.items c.args.recent.now c.measure.new.self c.args.block.now c.measure.ensures.lines f))
    c.end_text.ensures.folds

pub returns-clause-folds : goal.returns-clause-folds
returns-clause-folds g c = on-ok c.end_long.result _ _
    (λ folds run output output' was is f. folds run output output' was is (recents-as run output c.args.line.now.items c.args.recent.now c.measure.new.self c.args.block.now c.measure.ensures.lines f))
    c.end_long.ensures.folds
