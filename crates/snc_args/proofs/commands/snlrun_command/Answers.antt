use Rattle.std.proofs.Common.{ap, ap₂, ◌≡◌, ◌∙◌}
use Rattle.std.specs.Prelude.{codes}
use Rattle.std.proofs.lemmas.Result.{IfOk-weaker}
use Rattle.clap.specs.Words.{app_of, with_rule}
use Rattle.clap.specs.Simple.{app_of_fields}
use Rattle.snc_args.specs.Commands.{bare_app}
use Rattle.snc_args.proofs.commands.snlrun_command.Goals as goal

pub returns : goal.returns
returns c =
    let start : app_of c.after_help.result ≡ bare_app (codes "snlrun") = ap app_of_fields c.after_help.ensures ∙ ap app_of_fields c.about.ensures ∙ ap app_of_fields c.override_usage.ensures ∙ c.bare_command.ensures in
    let file = c.in_ok-arg.ensures.shape c.file_argument.ensures.local ∙ ap₂ with_rule start c.file_argument.ensures.rule in
    let macros = c.in_ok-arg-2.ensures.shape c.macros_argument.ensures.local ∙ ap₂ with_rule file c.macros_argument.ensures.rule in
    let budget = c.in_ok-arg-3.ensures.shape c.budget_argument.ensures.local ∙ ap₂ with_rule macros c.budget_argument.ensures.rule in
    IfOk-weaker c.arg-4.result _ _ (λ r h. h.shape c.help_argument.ensures.local ∙ ap₂ with_rule budget c.help_argument.ensures.rule) c.arg-4.ensures
