use Rattle.std.proofs.Common.{map, refl}
use Rattle.snl_syntax.specs.view.Programs.{state_set_view, program_view}
use Rattle.snl_rules.specs.Counts.{overfull_at, overfull_from}
use Rattle.snl_rules.proofs.OverfullLaws.{pushed_step}
use Rattle.snl_rules.proofs.words.push_overfull.Goals as goal

pub loop-number-preserved : goal.loop-number-preserved
loop-number-preserved c =
    let p = program_view c.args.program.now in
    pushed_step (λ k x. overfull_at p k (state_set_view x)) (λ k l. overfull_from p k (map state_set_view l)) (λ k x xs. refl)
    c.args.sets.now c.loop-number.number c.index-sets-number.result c.loop-number.found.items c.push_if_overfull.new.found.items _
    c.loop-number-test.true c.index-sets-number.is c.loop-number.invariant c.in_ok-push_if_overfull.ensures
