use Rattle.std.proofs.Common.{◌≡◌, ◌∙◌, ◌≤◌, Some, ap, sym, subst}
use Rattle.std.proofs.lemmas.Result.{IfOk-weaker}
use Rattle.serde_json.specs.Data.{depth}
use Rattle.serde_json.specs.Read.{max_depth}
use Rattle.serde_json.specs.Written.{has_float, compact_text}
use Rattle.snl_syntax.specs.view.Programs.{program_view}
use Rattle.snl_json.proofs.Plain.{no_float, shallow}
use Rattle.snl_json.proofs.text.tree_text.Goals as goal

pub returns-clause-text : goal.returns-clause-text
returns-clause-text c =
    let is = c.in_ok-tree_value.ensures in
    IfOk-weaker c.to_string.result _ _ (λ s h. h (ap has_float is ∙ no_float (program_view c.args.program.now)) ∙ ap compact_text is) c.to_string.ensures.text

pub returns-clause-reads_back : goal.returns-clause-reads_back
returns-clause-reads_back c =
    let is = c.in_ok-tree_value.ensures in
    IfOk-weaker c.to_string.result _ _ (λ s h. h (subst (λ d. depth d ≤ max_depth) (sym is) (shallow (program_view c.args.program.now))) ∙ ap Some is)
    c.to_string.ensures.reads_back
