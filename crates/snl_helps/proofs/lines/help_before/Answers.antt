use Rattle.std.proofs.Common.{◌-◌, ◌<◌, ℕ, List, Option, Some, sym, ap, ◌∙◌, arith}
use Rattle.std.specs.Option.{option_or}
use Rattle.snl_helps.specs.Helps.{help_before}
use Rattle.snl_helps.proofs.HelpLaws.{help_step}
use Rattle.snl_helps.proofs.lines.help_before.Goals as goal

pub returns-in-Some-help_at : goal.returns-in-Some-help_at
returns-in-Some-help_at c =
    let k = c.loop-at.at in
    let some : 0 < k = omega (arith, c.loop-at-test.true) in
    ap (λ (o : Option (List ℕ)). option_or o (help_before c.args.tokens.now c.args.line (k - 1))) c.in-Some-help_at.ensures
    ∙ sym (help_step c.args.tokens.now c.args.line k (Some c.in-Some.text.now) some c.in-Some.ensures) ∙ c.loop-at.invariant

pub loop-at-preserved : goal.loop-at-preserved
loop-at-preserved c =
    let k = c.loop-at.at in
    let some : 0 < k = omega (arith, c.loop-at-test.true) in
    ap (λ (o : Option (List ℕ)). option_or o (help_before c.args.tokens.now c.args.line (k - 1))) c.in_default.ensures
    ∙ sym (help_step c.args.tokens.now c.args.line k (Some c.in-Some.text.now) some c.in-Some.ensures) ∙ c.loop-at.invariant
