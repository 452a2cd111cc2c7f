use Rattle.std.proofs.Common.{◌+◌, ◌-◌, ◌^◌, length, map, min, refl, ap, ◌∙◌, length-append}
use Rattle.std.specs.List.{flat_map}
use Rattle.snl_syntax.specs.view.Definitions.{definition_view}
use Rattle.snl_names.specs.Variables.{function_by}
use Rattle.snl_rules.proofs.CountLaws.{count_step, count_end}
use Rattle.snl_rules.proofs.function_words.count_of.Goals as goal

pub loop-definition-preserved : goal.loop-definition-preserved
loop-definition-preserved c =
    count_step (λ k d. length (function_by (definition_view d))) (λ k l. length (flat_map function_by (map definition_view l)))
    (λ k d ds. length-append (function_by (definition_view d)) (flat_map function_by (map definition_view ds)))
    c.args.definitions.now c.loop-definition.definition-index c.definition-item.result (2 ^ 64 - 1) c.loop-definition.count c.saturating_add-count.result _
    c.loop-definition-test.true c.definition-item.is c.loop-definition.invariant.1
    (c.saturating_add-count.ensures ∙ ap (λ n. min (c.loop-definition.count + n) (2 ^ 64 - 1)) c.count_at.ensures)

pub returns : goal.returns
returns c =
    count_end (λ k l. length (flat_map function_by (map definition_view l))) (λ k. refl) c.args.definitions.now c.loop-definition.definition-index (2 ^ 64 - 1) c.loop-definition.count _
    c.loop-definition-test.false c.loop-definition.invariant.0 c.loop-definition.invariant.1
