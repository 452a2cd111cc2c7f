use Rattle.std.proofs.Common.{◌≡◌, ◌∙◌, ap, decimal, sym}
use Rattle.std.proofs.lemmas.Fmt.{parse-decimal}
use Rattle.snl_tallies.proofs.LineLaws.{ok-once}
use Rattle.snl_tallies.proofs.lines.number_of.Goals as goal

pub returns-else-is_decimal-clause-none : goal.returns-else-is_decimal-clause-none
returns-else-is_decimal-clause-none c n small e =
    let is = parse-decimal 64 n c.args.text.now c.parse.result small small e c.parse.ensures.value.0 in
    let same = ok-once c.in-Ok.number n c.parse.result c.in-Ok.is is in
    let yes = c.is_decimal.ensures.1 (e ∙ ap decimal (sym same)) in
    let no = c.if-is_decimal.false in
    absurd cc

pub returns-in-Err-clause-none : goal.returns-in-Err-clause-none
returns-in-Err-clause-none c n small e =
    let is = parse-decimal 64 n c.args.text.now c.parse.result small small e c.parse.ensures.value.0 in
    let not = c.in-Err.is in
    absurd cc
