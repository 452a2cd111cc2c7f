use Rattle.std.proofs.Common.{◌≡◌, ◌+◌, ◌-◌, ◌^◌, ◌≤◌, length, map, drop}
use Rattle.std.specs.List.{flat_map}
use Rattle.snl_syntax.specs.view.Definitions.{definition_view}
use Rattle.snl_names.specs.Variables.{function_by}
use Rattle.snl_rules.specs.Counts.{capped}
use Rattle.snl_rules.proofs.function_words.count_of.Given as goal

abbrev pub invariant-loop-definition : goal.invariant-loop-definition
invariant-loop-definition l =
    (l.count ≤ 2 ^ 64 - 1)
    × (capped (l.count + length (flat_map function_by (map definition_view (drop l.definition-index l.definitions))))
    ≡ capped (length (flat_map function_by (map definition_view l.definitions))))
