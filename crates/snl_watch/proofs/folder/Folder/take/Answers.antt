use Rattle.std.proofs.Common.{rules, ℕ, List, take}
use Rattle.std.proofs.Math.Logic.{∥∥₁_map}
use Rattle.snl_watch.proofs.FoldLaws.{folds-as, line-taken, told-piece, took}
use Rattle.snl_watch.proofs.LineLaws.{in-line-front}
use Rattle.snl_watch.proofs.folder.Folder.take.Goals as goal

pub invariant_of-self-in-Ok : goal.invariant_of-self-in-Ok
invariant_of-self-in-Ok g c =
    let front : List ℕ = take c.first_line-front.result c.args.piece.now in
    let line : List ℕ = c.args.self.now.line.items in
    let n : ℕ = c.in-Ok.taken in
    record {
      folds = λ over run output was now.
          let before = told-piece _ _ (take n front) run c.in-Ok.ensures.taken was in
          ∥∥₁_map (c.args.self.now.folds over before.0 output before.1 now) (λ f. folds-as _ run output _ _ _ _ before.2
          (line-taken line front c.extend_from_slice.new.self.items c.truncate.new.self.items c.len-before.result n (search rules) (search rules) c.truncate.ensures.items)
          (took before.0 output line (take n front) _ _ f c.requires.unended (in-line-front n front c.first_line-front.ensures.line)));
    }
