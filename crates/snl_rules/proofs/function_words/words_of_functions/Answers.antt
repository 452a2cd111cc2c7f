use Rattle.std.proofs.Common.{◌-◌, ◌^◌, length, map, sum_by, refl, ap, ◌∙◌}
use Rattle.std.specs.List.{flat_map}
use Rattle.snl_syntax.specs.view.Definitions.{definition_view}
use Rattle.snl_syntax.specs.view.Programs.{program_view}
use Rattle.snl_names.specs.Variables.{function_by, functions_of, shared_variables}
use Rattle.snl_rules.specs.Counts.{capped}
use Rattle.snl_rules.specs.Words.{variable_words, function_words}
use Rattle.snl_rules.proofs.SharedLaws.{stopped_sum}
use Rattle.snl_rules.proofs.function_words.words_of_functions.Goals as goal

pub returns : goal.returns
returns c =
    let p = program_view c.args.program.now in
    stopped_sum (2 ^ 64 - 1) c.saturating_add.result c.in_ok-shared.shared c.count_of-count.result (sum_by variable_words (shared_variables p)) (length (functions_of p)) (function_words p)
    refl c.in_ok-shared.ensures
    (c.count_of-count.ensures ∙ ap (λ l. capped (length (flat_map function_by (map definition_view l)))) c.as_slice.ensures.value)
    c.saturating_add.ensures
