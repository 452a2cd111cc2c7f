use Rattle.std.proofs.Common.{◌++◌, [], ap, map, refl, subst, sym}
use Rattle.std.proofs.lemmas.List.{take_all}
use Rattle.snl_syntax.specs.view.Programs.{state_set_view}
use Rattle.snl_outline.specs.Reached.{AreMarked}
use Rattle.snl_outline.specs.Told.{set_said, set_told}
use Rattle.snl_outline.proofs.Marked.{next-marked}
use Rattle.snl_outline.proofs.Rows.{next-shown, no-more}
use Rattle.snl_outline.proofs.shapes.set_outlines.Goals as goal

pub loop-set-init : goal.loop-set-init
loop-set-init c = (
  ap (λ l. map set_said l ++ map set_told (map state_set_view c.args.sets.now)) c.new-outlines.ensures.items,
  subst (λ l. AreMarked [] l) (sym c.new-outlines.ensures.items) tt,
)

pub loop-set-preserved : goal.loop-set-preserved
loop-set-preserved c = (
  next-shown set_said (λ x. set_told (state_set_view x)) (λ l. map set_told (map state_set_view l)) (λ x xs. refl)
      c.args.sets.now c.loop-set.set-index c.set-item.result c.loop-set.outlines.items c.pushed.new.row.items c.in_ok-outline.outline _
      c.loop-set-test.true c.set-item.is c.loop-set.invariant.0 c.in_ok-pushed.ensures c.in_ok-outline.ensures.told,
  next-marked state_set_view c.args.sets.now c.loop-set.set-index c.set-item.result c.loop-set.outlines.items c.pushed.new.row.items c.in_ok-outline.outline
      c.loop-set-test.true c.set-item.is c.loop-set.invariant.1 c.in_ok-pushed.ensures c.in_ok-outline.ensures.reached,
)

pub returns-clause-told : goal.returns-clause-told
returns-clause-told c =
    no-more (λ n l. map set_told (map state_set_view l)) (λ n. refl) c.args.sets.now c.loop-set.set-index (map set_said c.loop-set.outlines.items) _
    c.loop-set-test.false c.loop-set.invariant.0

pub returns-clause-reached : goal.returns-clause-reached
returns-clause-reached c =
    subst (λ l. AreMarked (map state_set_view l) c.loop-set.outlines.items) (take_all c.loop-set.set-index c.args.sets.now c.loop-set-test.false) c.loop-set.invariant.1
