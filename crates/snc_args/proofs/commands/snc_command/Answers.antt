use Rattle.std.proofs.Common.{ap, ap₂, ◌≡◌, ◌∙◌}
use Rattle.std.specs.Prelude.{codes}
use Rattle.std.proofs.lemmas.Result.{IfOk-weaker}
use Rattle.clap.specs.Words.{app_of, with_rule}
use Rattle.clap.specs.Simple.{app_of_fields}
use Rattle.snc_args.specs.Commands.{bare_app}
use Rattle.snc_args.proofs.commands.snc_command.Goals as goal

pub returns : goal.returns
returns c =
    let start : app_of c.after_help.result ≡ bare_app (codes "snc") = ap app_of_fields c.after_help.ensures ∙ ap app_of_fields c.about.ensures ∙ ap app_of_fields c.override_usage.ensures ∙ c.bare_command.ensures in
    let file = c.in_ok-arg.ensures.shape c.file_argument.ensures.local ∙ ap₂ with_rule start c.file_argument.ensures.rule in
    let tables = c.in_ok-arg-2.ensures.shape c.tables_argument.ensures.local ∙ ap₂ with_rule file c.tables_argument.ensures.rule in
    IfOk-weaker c.arg-3.result _ _ (λ r h. h.shape c.help_argument.ensures.local ∙ ap₂ with_rule tables c.help_argument.ensures.rule) c.arg-3.ensures
