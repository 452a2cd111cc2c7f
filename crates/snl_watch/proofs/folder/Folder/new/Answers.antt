use Rattle.std.proofs.Common.{sym, subst}
use Rattle.snl_watch.specs.Folds.{Folds}
use Rattle.snl_watch.proofs.FoldLaws.{folds-as, nothing}
use Rattle.snl_watch.proofs.folder.Folder.new.Goals as goal

pub invariant_of-result : goal.invariant_of-result
invariant_of-result g c = record {
  folds = λ over run output was now.
      ∣ subst (λ o. Folds run o c.new.result.items c.in_ok-recent.recent c.none.result) (sym (c.requires.inner output now))
      (folds-as _ run _ _ _ _ _ (sym (c.requires.witness run was)) (sym c.new.ensures.items) (nothing c.in_ok-recent.recent c.none.result c.in_ok-recent.ensures c.none.ensures)) ∣₁;
}
