use Rattle.std.proofs.Common.{◌≡◌, rules}
use Rattle.snl_output.specs.Texts.{short_of, text_in}
use Rattle.snl_output.proofs.Laid.{line-laid}
use Rattle.snl_output.proofs.laying.lay_print.Goals as goal

pub returns-clause-text : goal.returns-clause-text
returns-clause-text c =
    let same : c.as_slice.result.now ≡ c.args.format.now.parts.items = search rules in
    line-laid c.args.format.now c.args.numbers.now c.as_slice.result.now (short_of c.args.digits) (text_in c.args.text.now) _ _ _ same
    c.in_ok-front.ensures.text c.in_ok-parts.ensures.text c.in_ok-end.ensures.text
