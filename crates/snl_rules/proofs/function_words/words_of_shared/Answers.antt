use Rattle.std.proofs.Common.{map, sum_by, ap, ◌∙◌}
use Rattle.snl_names.specs.CopyVariables.{variable_view}
use Rattle.snl_rules.specs.Counts.{capped}
use Rattle.snl_rules.specs.Words.{variable_words}
use Rattle.snl_rules.proofs.SharedLaws.{shared_are}
use Rattle.snl_rules.proofs.function_words.words_of_shared.Goals as goal

pub returns : goal.returns
returns c =
    c.words_of_row.ensures
    ∙ ap (λ l. capped (sum_by variable_words l))
    (shared_are c.args.program.now c.as_slice-definitions.result.now c.in_ok-scope.scope (map variable_view c.new-held.result.items) (map variable_view c.push_functions.new.kept.items)
    c.as_slice-definitions.ensures.value c.in_ok-scope.ensures (ap (map variable_view) c.new-held.ensures.items) c.in_ok-push_functions.ensures)
