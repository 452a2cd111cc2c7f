use Rattle.std.proofs.Common.{◌+◌, ◌-◌, ◌^◌, min, map, sum_by, refl, ap, ◌∙◌}
use Rattle.std.proofs.lemmas.List.Sums.{sum_by-cons}
use Rattle.snl_names.specs.CopyVariables.{variable_view}
use Rattle.snl_rules.specs.Words.{variable_words}
use Rattle.snl_rules.proofs.CountLaws.{count_step, count_end}
use Rattle.snl_rules.proofs.words.words_of_variables.Goals as goal

pub loop-variable-preserved : goal.loop-variable-preserved
loop-variable-preserved c =
    count_step (λ k v. variable_words (variable_view v)) (λ k l. sum_by variable_words (map variable_view l)) (λ k x xs. sum_by-cons variable_words (variable_view x) (map variable_view xs))
    c.args.held.now c.loop-variable.variable-index c.variable-item.result (2 ^ 64 - 1) c.loop-variable.words c.saturating_add-words.result _
    c.loop-variable-test.true c.variable-item.is c.loop-variable.invariant.1
    (c.saturating_add-words.ensures ∙ ap (λ n. min (c.loop-variable.words + n) (2 ^ 64 - 1)) c.elements.ensures.value)

pub returns : goal.returns
returns c =
    count_end (λ k l. sum_by variable_words (map variable_view l)) (λ k. refl) c.args.held.now c.loop-variable.variable-index (2 ^ 64 - 1) c.loop-variable.words _
    c.loop-variable-test.false c.loop-variable.invariant.0 c.loop-variable.invariant.1
