use Rattle.std.proofs.Common.{◌++◌, ◌∙◌, ap, get_or, map, pos, refl, rules, FitsSigned, w64}
use Rattle.std.specs.Fmt.{signed_decimal}
use Rattle.std.specs.List.{flat_map}
use Rattle.std.proofs.lemmas.Int.{to_z-of_z}
use Rattle.snl_written.specs.Written.{spaced}
use Rattle.snl_written.proofs.Rows.{row_at, row_ends}
use Rattle.snl_written.proofs.lines.push_values.Goals as goal

pub loop-value-init : goal.loop-value-init
loop-value-init c = refl

pub loop-value-preserved : goal.loop-value-preserved
loop-value-preserved c =
    let i = c.loop-value.value-index in
    let value = get_or c.args.values.now i (pos 0) in
    let fits : FitsSigned w64 value = search rules in
    row_at (λ value. spaced (signed_decimal value)) (λ l. flat_map spaced (map signed_decimal l)) (λ x xs. refl) c.args.values.now i (pos 0)
    c.loop-value.out.items c.push_value.new.out.items _ c.loop-value-test.true c.loop-value.invariant
    (c.in_ok-push_value.ensures ∙ ap (λ z. c.loop-value.out.items ++ spaced (signed_decimal z)) (to_z-of_z w64 value fits))

pub returns : goal.returns
returns c =
    row_ends (λ l. flat_map spaced (map signed_decimal l)) refl c.args.values.now c.loop-value.value-index _ _ c.loop-value-test.false c.loop-value.invariant
