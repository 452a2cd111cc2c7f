use Rattle.std.proofs.Common.{◌≡◌, ◌+◌, ◌-◌, ◌^◌, ◌≤◌, map, drop, sum_by}
use Rattle.snl_names.specs.CopyVariables.{variable_view}
use Rattle.snl_rules.specs.Words.{variable_words}
use Rattle.snl_rules.specs.Counts.{capped}
use Rattle.snl_rules.proofs.words.words_of_variables.Given as goal

abbrev pub invariant-loop-variable : goal.invariant-loop-variable
invariant-loop-variable l =
    (l.words ≤ 2 ^ 64 - 1)
    × (capped (l.words + sum_by variable_words (map variable_view (drop l.variable-index l.held))) ≡ capped (sum_by variable_words (map variable_view l.held)))
