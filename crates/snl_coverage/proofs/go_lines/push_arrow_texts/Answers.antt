use Rattle.std.proofs.Common.{◌∙◌, ap, refl}
use Rattle.snl_outline.specs.Shapes.{targets_in}
use Rattle.snl_heard.specs.Words.{go_end}
use Rattle.snl_coverage.specs.Shapes.{arrow_texts}
use Rattle.snl_coverage.proofs.Texts.{next-shown}
use Rattle.snl_coverage.proofs.go_lines.push_arrow_texts.Goals as goal

pub loop-arrow-preserved : goal.loop-arrow-preserved
loop-arrow-preserved c =
    let set = c.args.set.now in
    let from = c.args.from.now in
    next-shown (λ t. t.items) (λ a. go_end set from a.target.items) (λ l. arrow_texts set from (targets_in l)) (λ x xs. refl)
    c.args.arrows.now c.loop-arrow.arrow-index c.arrow-item.result c.loop-arrow.texts.items c.pushed.new.row.items c.in_ok-text.text _
    c.loop-arrow-test.true c.arrow-item.is c.loop-arrow.invariant c.in_ok-pushed.ensures (c.in_ok-text.ensures ∙ ap (go_end set from) c.as_slice.ensures.value)
