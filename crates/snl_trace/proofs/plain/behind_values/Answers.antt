use Rattle.std.proofs.Common.{◌≡◌, ◌∷◌, [], ◌++◌, ◌∙◌, ap, rules, take, FitsSigned, w64}
use Rattle.std.proofs.lemmas.Int.{to_z-of_z}
use Rattle.snl_trace.proofs.PlainLaws.{way-start, way-on, way-ends}
use Rattle.snl_trace.proofs.plain.behind_values.Goals as goal

pub loop-value-init : goal.loop-value-init
loop-value-init c = rw c.clear.ensures (way-start c.args.text.now)

pub loop-value-preserved : goal.loop-value-preserved
loop-value-preserved c =
    let items = c.loop-value.values.items in
    let value = c.in-Some.value in
    let fits : FitsSigned w64 value = search rules in
    let kept : c.keep.new.values.items ≡ take 1024 (items ++ value ∷ []) = c.keep.ensures ∙ ap (λ z. take 1024 (items ++ z ∷ [])) (to_z-of_z w64 value fits) in
    rw kept (way-on items value c.args.text.now c.loop-value.left.now c.in-Some.rest.now c.loop-value.invariant (rw c.in-32.is at c.in-Some.ensures))

pub returns-in-10 : goal.returns-in-10
returns-in-10 c =
    let items = c.loop-value.values.items in
    let value = c.in-Some.value in
    let fits : FitsSigned w64 value = search rules in
    let kept : c.keep.new.values.items ≡ take 1024 (items ++ value ∷ []) = c.keep.ensures ∙ ap (λ z. take 1024 (items ++ z ∷ [])) (to_z-of_z w64 value fits) in
    rw kept (way-ends items value c.args.text.now c.loop-value.left.now c.in-Some.rest.now c.loop-value.invariant (rw c.in-10.is at c.in-Some.ensures))
