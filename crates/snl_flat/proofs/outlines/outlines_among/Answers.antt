use Rattle.std.proofs.Common.{◌∙◌, [], ◌∷◌, ◌++◌, List, ap, map, subst, sym}
use Rattle.snl_syntax.specs.view.Functions.{function_view}
use Rattle.snl_syntax.specs.view.Statements.{block_view}
use Rattle.snl_syntax.specs.Functions.{FunctionTree}
use Rattle.snl_emit.specs.Depths.{block_depth, outline_of, outlines_after}
use Rattle.snl_meaning.specs.Known.{outlines}
use Rattle.snl_flat.specs.Depths.{capped}
use Rattle.snl_flat.specs.Heres.{routine_by}
use Rattle.snl_flat.specs.Outlines.{AreAlike}
use Rattle.snl_flat.proofs.FunctionRows.{function-next, function-none, outline-pushed}
use Rattle.snl_flat.proofs.outlines.outlines_among.Goals.{in-Function+in_ok-push, in_default}
use Rattle.snl_flat.proofs.outlines.outlines_among.Goals as goal

pub loop-definition-preserved : goal.loop-definition-preserved
loop-definition-preserved c =
    let all = c.args.definitions.now in
    let i = c.loop-definition.definition-index in
    let d = c.definition-item.result in
    let before = c.loop-definition.invariant in
    let above = before.0 in
    elim c.match-definition.branch [
      | in-Function+in_ok-push w ↦
          let one = w.in-Function.function.value in
          let f = function_view one in
          let body = w.deref-in-Function.ensures ∙ ap (λ g. g.body.value) w.deref.ensures in
          let next = function-next all i d w.in-Function.function c.loop-definition-test.true c.definition-item.is w.in-Function.is in (
            above ++ outline_of above (routine_by [] [] f) ∷ [],
            subst (λ v. AreAlike (outlines v.items) (above ++ outline_of above (routine_by [] [] f) ∷ [])) (sym w.kept-is)
                (outline-pushed c.loop-definition.kept.items w.push.new.self.items _ above f w.in_ok-push.ensures.items before.1
                (ap (λ g. g.name.text.now) w.deref-in-Function-2.ensures)
                (w.block_depth-depth.ensures ∙ (λ j. capped (block_depth (outlines (w.as_slice.ensures.value j)) (block_view (body j)))))),
            ap (λ (l : List FunctionTree). outlines_after above (map (routine_by [] []) l)) (sym next) ∙ before.2,
          )
      | in_default w ↦
          let same = function-none all i d c.loop-definition-test.true c.definition-item.is w.in_default.not-Function in (
            above,
            subst (λ v. AreAlike (outlines v.items) above) (sym w.kept-is) before.1,
            ap (λ (l : List FunctionTree). outlines_after above (map (routine_by [] []) l)) (sym same) ∙ before.2,
          )
    ]
