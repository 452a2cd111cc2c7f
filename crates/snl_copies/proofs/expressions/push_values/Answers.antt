use Rattle.std.proofs.Common.{◌∙◌, ◌++◌, ap, map, refl}
use Rattle.std.specs.List.{flat_map}
use Rattle.snl_syntax.specs.view.Expressions.{boxed, view}
use Rattle.snl_copies.specs.Code.{in_value}
use Rattle.snl_resolve.proofs.Steps.{row_step}
use Rattle.snl_copies.proofs.Rows.{row_ends}
use Rattle.snl_copies.proofs.expressions.push_values.Goals as goal

pub loop-value-init : goal.loop-value-init
loop-value-init c = refl

pub loop-value-preserved : goal.loop-value-preserved
loop-value-preserved c =
    row_step (λ x. in_value (boxed x)) (λ l. flat_map in_value (map boxed l)) (λ x xs. refl)
    c.args.values.now c.loop-value.value-index c.value-item.result c.loop-value.code.items c.push_value.new.code.items _
    c.loop-value-test.true c.value-item.is c.loop-value.invariant (c.in_ok-push_value.ensures ∙ ap (λ e. c.loop-value.code.items ++ in_value (view e)) c.deref.ensures)

pub returns : goal.returns
returns c =
    row_ends (λ l. flat_map in_value (map boxed l)) refl c.args.values.now c.loop-value.value-index _ _ c.loop-value-test.false c.loop-value.invariant
