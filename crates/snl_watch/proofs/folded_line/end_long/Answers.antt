use Rattle.std.proofs.Common.{◌≤◌, ℕ, List, [], ◌++◌, length, subst, arith}
use Rattle.snl_watch.specs.Blocks.{told_again}
use Rattle.snl_watch.specs.Folds.{Folds}
use Rattle.snl_watch.specs.Recents.{recent_texts}
use Rattle.snl_watch.proofs.FoldLaws.{tells-both, knows-none, printed, told-both}
use Rattle.snl_watch.proofs.folded_line.end_long.Goals as goal

pub returns-clause-folds : goal.returns-clause-folds
returns-clause-folds g c run output output' was is f =
    let block = c.args.block.now in
    let line : List ℕ = c.args.line.now.items in
    let few : c.begin.new.self.size ≤ length (recent_texts c.clear.new.self) = omega (arith, c.begin.ensures.size) in
    subst (λ o. Folds run o [] c.clear.new.self c.begin.new.self)
    (told-both _ _ output output' (told_again block ++ block.held.items) (c.args.note.now ++ line) (rw c.as_slice.ensures.value at c.in_ok-print.ensures.told) was is)
    (printed run output line c.args.note.now c.args.recent.now c.clear.new.self block c.begin.new.self f c.requires.line c.requires.note
    (λ lines older known. knows-none _ c.clear.new.self c.clear.ensures) few c.begin.ensures.times c.begin.ensures.count c.begin.ensures.held)

pub returns-clause-told : goal.returns-clause-told
returns-clause-told g c = tells-both _ _ _ _ c.in_ok-print.ensures.told
