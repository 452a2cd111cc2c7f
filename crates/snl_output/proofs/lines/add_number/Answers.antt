use Rattle.std.proofs.Common.{◌≡◌, ◌++◌, [], ap, rules}
use Rattle.std.specs.Fmt.{signed_decimal}
use Rattle.snl_output.specs.Lines.{space}
use Rattle.snl_output.specs.Texts.{short_of}
use Rattle.snl_output.proofs.Adding.{added-as, added-cut, added-last, added-more, added-start, failed-adds}
use Rattle.snl_output.proofs.lines.add_number.Goals as goal

pub returns-in_err-push-clause-told : goal.returns-in_err-push-clause-told
returns-in_err-push-clause-told g c =
    failed-adds _ _ _ _ _ c.from_residual.ensures.0 (added-cut _ space (signed_decimal c.args.number ++ []) _ _ _ _ _ (added-start _ _ _) c.in_err-push.ensures.told)

pub returns-clause-told : goal.returns-clause-told
returns-clause-told g c =
    let digits : signed_decimal c.args.number ≡ short_of c.number-digits.result = search rules in
    let blank = added-more _ space (signed_decimal c.args.number ++ []) _ _ _ _ _ _ (added-start _ _ _) c.in_ok-push.ensures.told in
    added-last c.add_short.result _ (short_of c.number-digits.result) _ _ _ _ _ _ (added-as _ _ _ _ _ _ _ (ap (λ d. d ++ []) digits) blank) c.add_short.ensures.told
