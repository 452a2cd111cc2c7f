use Rattle.std.proofs.Common.{ℕ, List, [], sym, refl}
use Rattle.std.proofs.Math.Logic.{∥∥₁_map}
use Rattle.snl_watch.proofs.FoldLaws.{folds-as, told-before}
use Rattle.snl_watch.proofs.folder.Folder.settle.Goals as goal

pub invariant_of-self-2 : goal.invariant_of-self-2
invariant_of-self-2 g c = record {
  folds = λ over run output was now.
      let before = told-before _ _ output c.in_ok-end_line.ensures.told now in
      ∥∥₁_map (c.args.self.now.folds c.if-self.false run before.0 was before.1) (λ f. folds-as run run output [] _ _ _ refl (sym {A = List ℕ} c.in_ok-end_line.ensures.line)
      (c.in_ok-end_line.ensures.folds run before.0 output before.1 now f));
}
