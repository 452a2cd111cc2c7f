use Rattle.std.proofs.Common.{◌≡◌, ◌∙◌, ◌<◌, ◌^◌, w64, Some, Option, ap, sym, subst, arith}
use Rattle.std.specs.Prelude.{IfSome, option_map}
use Rattle.std.proofs.lemmas.Int.{to_z_pos}
use Rattle.snl_text.specs.declared.numbers.DecimalValue.{DecimalValue}
use Rattle.snl_text.specs.Numbers.{decimal_value}
use Rattle.snl_meaning.specs.Value.{or_none}
use Rattle.snl_emit.proofs.DecimalSmall.{decimal-small}
use Rattle.snl_timing.proofs.constants.thousandths.Goals as goal

-- what is there is small
small : (o : Option DecimalValue) (d : DecimalValue) → o ≡ Some d → IfSome o (λ e. e.thousandths < 2 ^ 63) → d.thousandths < 2 ^ 63
small o d e s = subst (λ q. IfSome q (λ e. e.thousandths < 2 ^ 63)) e s

pub overflow_cast-result : goal.overflow_cast-result
overflow_cast-result c =
    let few = small (decimal_value c.args.text.now) c.in-Some.value (sym c.decimal_value.ensures ∙ c.in-Some.is) (decimal-small c.args.text.now) in
    omega (arith, few)

pub returns-in-Some : goal.returns-in-Some
returns-in-Some c =
    let there : decimal_value c.args.text.now ≡ Some c.in-Some.value = sym c.decimal_value.ensures ∙ c.in-Some.is in
    to_z_pos w64 c.in-Some.value.thousandths (small (decimal_value c.args.text.now) c.in-Some.value there (decimal-small c.args.text.now))
    ∙ ap (λ o. or_none (option_map (λ d. d.thousandths) o)) (sym there)
