use Rattle.std.proofs.Common.{◌≡◌, ◌∙◌, arith, rules, sym}
use Rattle.std.specs.Fmt.{signed_decimal}
use Rattle.std.proofs.lemmas.List.{take_all}
use Rattle.snl_output.proofs.texts.Short.below_zero.Goals as goal

pub returns : goal.returns
returns c =
    let digits : signed_decimal c.args.number ≡ c.as_bytes-text.result.now = search rules in
    c.front.ensures ∙ take_all _ c.as_bytes-text.result.now (omega arith) ∙ sym digits
