use Rattle.std.proofs.Common.{◌≡◌, ◌∙◌, ◌+◌, ◌++◌, [], ap, drop, get_or, rules, sym, take}
use Rattle.snl_output.proofs.Cutting.{filled-here}
use Rattle.snl_output.proofs.Laid.{laid-part}
use Rattle.snl_output.proofs.laying.lay_parts.Goals as goal

pub loop-part-preserved : goal.loop-part-preserved
loop-part-preserved c =
    let part = c.part-item.result in
    let at = c.loop-part.part-index in
    let left = c.loop-part.left.now in
    let here : part ≡ get_or c.args.parts.now at part = search rules in
    let parts = ap (λ r. take c.loop-part.end c.loop-part.bytes ++ r) (sym (filled-here c.args.parts.now at part left [] c.loop-part-test.true here)) ∙ c.loop-part.invariant.laid in
    let all = laid-part (drop (at + 1) c.args.parts.now) part left _ (take c.loop-part.end c.loop-part.bytes) _ _ _ parts c.in_ok-text.ensures.text c.in_ok-end.ensures.text
    c.left_behind-left.ensures in
    record {
      laid = all;
      within = search rules;
      same_length = search rules;
    }
