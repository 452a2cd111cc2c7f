use Rattle.std.proofs.Common.{◌-◌, ◌^◌, map, refl}
use Rattle.snl_syntax.specs.view.Programs.{state_set_view, program_view}
use Rattle.snl_rules.specs.Words.{set_words, sets_words}
use Rattle.snl_rules.proofs.CountLaws.{count_step, count_end, stopped}
use Rattle.snl_rules.proofs.words.words_of_sets.Goals as goal

pub loop-number-preserved : goal.loop-number-preserved
loop-number-preserved c =
    let p = program_view c.args.program.now in
    count_step (λ k g. set_words p k) (λ k l. sets_words p k (map state_set_view l)) (λ k x xs. refl)
    c.args.sets.now c.loop-number.number c.index-sets-number.result (2 ^ 64 - 1) c.loop-number.words c.saturating_add-words.result _
    c.loop-number-test.true c.index-sets-number.is c.loop-number.invariant.1
    (stopped (2 ^ 64 - 1) c.loop-number.words c.saturating_add-words.result c.in_ok-more.more (set_words p c.loop-number.number) c.saturating_add-words.ensures c.in_ok-more.ensures)

pub returns : goal.returns
returns c =
    let p = program_view c.args.program.now in
    count_end (λ k l. sets_words p k (map state_set_view l)) (λ k. refl) c.args.sets.now c.loop-number.number (2 ^ 64 - 1) c.loop-number.words _
    c.loop-number-test.false c.loop-number.invariant.0 c.loop-number.invariant.1
