use Rattle.std.proofs.Common.{map, refl, arith}
use Rattle.snl_syntax.specs.view.Programs.{state_set_view}
use Rattle.snl_outline.specs.Outline.{set_text, sets_text}
use Rattle.snl_outline.proofs.Rows.{next-text, no-more}
use Rattle.snl_outline.proofs.outline.push_sets.Goals as goal

pub loop-set-init : goal.loop-set-init
loop-set-init c = refl

pub loop-set-preserved : goal.loop-set-preserved
loop-set-preserved c =
    next-text (λ n sets. sets_text c.args.form (map state_set_view sets)) (λ n set. set_text c.args.form (state_set_view set)) (λ n x xs. refl) c.args.sets.now
    c.loop-set.set-index c.set-item.result c.loop-set.out.items c.push_set.new.out.items _ c.loop-set-test.true c.set-item.is c.loop-set.invariant c.in_ok-push_set.ensures

pub returns : goal.returns
returns c =
    no-more (λ n sets. sets_text c.args.form (map state_set_view sets)) (λ n. refl) c.args.sets.now c.loop-set.set-index c.loop-set.out.items _
    c.loop-set-test.false c.loop-set.invariant
