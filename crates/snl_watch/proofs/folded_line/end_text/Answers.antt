use Rattle.std.proofs.Common.{◌≡◌, ◌∙◌, ◌≤◌, ◌<◌, ◌-◌, ◌+◌, ℕ, List, [], ◌++◌, Some, length, sym, ap, subst, arith, slice_get, drop, inl, inr}
use Rattle.std.proofs.lemmas.Bool.Decides.{eqb_tells}
use Rattle.snl_watch.specs.Blocks.{told_again}
use Rattle.snl_watch.specs.Folding.{without_time}
use Rattle.snl_watch.specs.Folds.{Folds}
use Rattle.snl_watch.specs.Recents.{recent_texts}
use Rattle.snl_watch.proofs.FoldLaws.{tells-both, tells-none, held-line, held-whole, knows-more, printed, told-both, told-none}
use Rattle.snl_watch.proofs.folded_line.end_text.Goals as goal

-- what stands so many before, of a line without its time
stands-of : (texts : List (List ℕ)) (asked text line : List ℕ) (size size' : ℕ) → size ≡ size' → asked ≡ text → text ≡ without_time line →
    slice_get texts (length texts - size) ≡ Some asked → slice_get texts (length texts - size') ≡ Some (without_time line)
stands-of texts asked text line size size' s a is at = ap (λ n. slice_get texts (length texts - n)) (sym s) ∙ at ∙ ap (λ t. Some t) (a ∙ is)

pub returns-clause-folds : goal.returns-clause-folds
returns-clause-folds g c run output output' was is f =
    let block = c.args.block.now in
    let line : List ℕ = c.args.line.now.items in
    let few : c.begin.new.self.size ≤ length (recent_texts c.push-2.new.self) = omega (arith, c.begin.ensures.size, c.block.ensures) in
    subst (λ o. Folds run o [] c.push-2.new.self c.begin.new.self)
    (told-both _ _ output output' (told_again block ++ block.held.items) (c.args.note.now ++ line) (rw c.as_slice-bytes.ensures.value at c.in_ok-print.ensures.told) was is)
    (printed run output line c.args.note.now c.args.recent.now c.push-2.new.self block c.begin.new.self f c.requires.line c.requires.note
    (λ lines older known. knows-more lines older (without_time line) c.args.recent.now.lines.capacity c.args.recent.now c.push-2.new.self known c.push-2.ensures.texts)
    few c.begin.ensures.times c.begin.ensures.count c.begin.ensures.held)

pub returns-then-has_room-clause-folds : goal.returns-then-has_room-clause-folds
returns-then-has_room-clause-folds g c run output output' was is f =
    let block = c.args.block.now in
    let recent = c.args.recent.now in
    let line : List ℕ = c.args.line.now.items in
    let n : ℕ = c.args.recent.now.lines.capacity in
    let kept = c.push.ensures.texts in
    let some : 0 < block.size = omega (arith, c.size.ensures, c.is_again.ensures.some c.if-is_again.true) in
    let within : block.size ≤ length (recent_texts recent) = omega (arith, c.size.ensures, c.is_again.ensures.within c.if-is_again.true) in
    let at = stands-of (recent_texts recent) (drop recent.start c.as_slice-bytes.result.now) (drop recent.start line) line c.size.result block.size c.size.ensures
    (ap (drop recent.start) c.as_slice-bytes.ensures.value) c.requires.start
    (c.is_again.ensures.same c.if-is_again.true) in
    let few : block.count < block.size = c.has_room.ensures.count c.if-has_room.true in
    subst (λ o. Folds run o [] c.push.new.self c.take.new.self) (told-none _ output output' was is)
    (elim (eqb_tells (block.count + 1) block.size) [
      | inl whole ↦ held-whole run output line c.args.note.now recent c.push.new.self block c.take.new.self n f c.requires.line kept some within at whole.1 c.take.ensures.size
          (c.take.ensures.whole whole.1) (c.take.ensures.none whole.1) (c.take.ensures.free whole.1)
      | inr part ↦ let fewer : block.count + 1 < block.size = omega (arith, few, part.1) in
          held-line run output line c.args.note.now recent c.push.new.self block c.take.new.self n f c.requires.line c.requires.note kept some within at fewer c.take.ensures.size
          (c.take.ensures.times fewer) (c.take.ensures.more fewer) (rw c.as_slice-bytes.ensures.value at c.take.ensures.held fewer)
    ])

pub returns-clause-told : goal.returns-clause-told
returns-clause-told g c = tells-both _ _ _ _ c.in_ok-print.ensures.told

pub returns-then-has_room-clause-told : goal.returns-then-has_room-clause-told
returns-then-has_room-clause-told g c = tells-none _
