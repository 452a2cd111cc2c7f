use Rattle.std.proofs.Common.{◌≡◌, ◌+◌, [], ap, drop, get_or, rules, sym}
use Rattle.snl_output.specs.Formats.{filled}
use Rattle.snl_output.proofs.Adding.{added-as, added-cut, added-more, added-start, failed-adds}
use Rattle.snl_output.proofs.Cutting.{filled-here}
use Rattle.snl_output.proofs.printing.add_parts.Goals as goal

pub loop-part-init : goal.loop-part-init
loop-part-init g c = record {
  added = added-start _ _ _;
  none_failed = search rules;
}

pub returns-in_err-add_text-clause-told : goal.returns-in_err-add_text-clause-told
returns-in_err-add_text-clause-told g c =
    let part = c.part-item.result in
    let here : part ≡ get_or c.args.parts.now c.loop-part.part-index part = search rules in
    failed-adds _ _ _ _ _ c.from_residual.ensures.0
    (added-cut _ _ _ _ _ _ _ _ (added-as _ _ _ _ _ _ _ (filled-here c.args.parts.now c.loop-part.part-index part c.loop-part.left.now [] c.loop-part-test.true here) c.loop-part.invariant.added)
    c.in_err-add_text.ensures.told)

pub returns-in_err-left-clause-told : goal.returns-in_err-left-clause-told
returns-in_err-left-clause-told g c =
    let part = c.part-item.result in
    let here : part ≡ get_or c.args.parts.now c.loop-part.part-index part = search rules in
    let text = added-more _ _ _ _ _ _ _ _ _ (added-as _ _ _ _ _ _ _ (filled-here c.args.parts.now c.loop-part.part-index part c.loop-part.left.now [] c.loop-part-test.true here)
    c.loop-part.invariant.added) c.in_ok-add_text.ensures.told in
    failed-adds _ _ _ _ _ c.from_residual-in_err-left.ensures.0 (added-cut _ _ _ _ _ _ _ _ text c.in_err-left.ensures.told)

pub loop-part-preserved : goal.loop-part-preserved
loop-part-preserved g c =
    let part = c.part-item.result in
    let here : part ≡ get_or c.args.parts.now c.loop-part.part-index part = search rules in
    let text = added-more _ _ _ _ _ _ _ _ _ (added-as _ _ _ _ _ _ _ (filled-here c.args.parts.now c.loop-part.part-index part c.loop-part.left.now [] c.loop-part-test.true here)
    c.loop-part.invariant.added) c.in_ok-add_text.ensures.told in
    let left = ap (λ l. filled (drop (c.loop-part.part-index + 1) c.args.parts.now) l []) (sym c.in_ok-left.ensures.left) in
    record {
      added = added-as _ _ _ _ _ _ _ left (added-more _ _ _ _ _ _ _ _ _ text c.in_ok-left.ensures.told);
      none_failed = search rules;
    }
