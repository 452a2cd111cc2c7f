use Rattle.std.proofs.Common.{◌≡◌, ◌+◌, ◌-◌, ◌∙◌, ℕ, suc, rules, arith, refl, ap, sym, subst}
use Rattle.snl_output.proofs.Doing.{IsOnWay, on_way-start}
use Rattle.snl_vm.specs.Views.{world_of}
use Rattle.snl_schedule.specs.Instant.{all_rounds, rounds_of}
use Rattle.snl_schedule.specs.Loaded.{loaded, program_of}
use Rattle.snl_schedule.proofs.OneByOne.{round-goes_on, round-ends, round-exits, round-stops}
use Rattle.snl_schedule.specs.Steps.{rounds_steps}
use Rattle.snl_schedule.proofs.Counting.{rounds-go_on, rounds-end, rounds-exit, rounds-stop}
use Rattle.snl_schedule.proofs.instants.rounds.Goals as goal

pub loop-round-init : goal.loop-round-init
loop-round-init g c =
    let p = program_of (loaded c.args.program.now) in
    let w = world_of c.args.memory.now.store in
    let told = g.S.Sink.told c.args.sink.now in
    let fuel : suc c.args.memory.now.store.ticks ≡ c.from-round-end.result + 1 - 0 = omega (arith, c.from-round-end.ensures) in
    record {
      on_way = subst (λ (n : ℕ). IsOnWay told told (all_rounds p w) (rounds_of p n w)) fuel (on_way-start told (all_rounds p w));
      count = ap (λ (n : ℕ). c.args.steps.now + rounds_steps (loaded c.args.program.now) n w) (sym fuel);
      frame = refl;
      room = refl;
      none_failed = refl;
    }

pub returns-in-Ok-Stayed-clause-does : goal.returns-in-Ok-Stayed-clause-does
returns-in-Ok-Stayed-clause-does g c =
    let end = c.from-round-end.result + 1 in
    let i = c.loop-round._round in
    let fuel : end - i ≡ suc (end - (i + 1)) = omega (arith, c.loop-round-test.true) in
    round-ends (program_of (loaded c.args.program.now)) (world_of c.loop-round.memory.store) (end - i) (end - (i + 1)) fuel _ _ _ c.loop-round.invariant.on_way _ _
    (rw c.in-Ok-Stayed.field-0-is at c.in-Ok-Stayed.ensures.does)

pub returns-in-Ok-Exited-clause-does : goal.returns-in-Ok-Exited-clause-does
returns-in-Ok-Exited-clause-does g c =
    let end = c.from-round-end.result + 1 in
    let i = c.loop-round._round in
    let fuel : end - i ≡ suc (end - (i + 1)) = omega (arith, c.loop-round-test.true) in
    round-exits (program_of (loaded c.args.program.now)) (world_of c.loop-round.memory.store) (end - i) (end - (i + 1)) fuel _ _ _ c.loop-round.invariant.on_way _ _ _ _ _
    (rw c.in-Ok-Exited.field-0-is at c.in-Ok-Exited.ensures.does) c.exit.ensures.does

pub returns-in-Err-clause-does : goal.returns-in-Err-clause-does
returns-in-Err-clause-does g c =
    let end = c.from-round-end.result + 1 in
    let i = c.loop-round._round in
    let fuel : end - i ≡ suc (end - (i + 1)) = omega (arith, c.loop-round-test.true) in
    round-stops (program_of (loaded c.args.program.now)) (world_of c.loop-round.memory.store) (end - i) (end - (i + 1)) fuel _ _ _ c.loop-round.invariant.on_way c.in-Err.stop _ _ c.in-Err.ensures.does

pub loop-round-preserved : goal.loop-round-preserved
loop-round-preserved g c =
    let end = c.from-round-end.result + 1 in
    let i = c.loop-round._round in
    let fuel : end - i ≡ suc (end - (i + 1)) = omega (arith, c.loop-round-test.true) in
    record {
      on_way = round-goes_on (program_of (loaded c.args.program.now)) (world_of c.loop-round.memory.store) (end - i) (end - (i + 1)) fuel _ _ _ c.loop-round.invariant.on_way _ _
          (rw c.in-Ok-Moved.field-0-is at c.in-Ok-Moved.ensures.does);
      count = rounds-go_on (loaded c.args.program.now) (world_of c.loop-round.memory.store) (end - i) (end - (i + 1)) fuel _ _ c.loop-round.invariant.count _ _ _ _
          (rw c.in-Ok-Moved.field-0-is at c.in-Ok-Moved.ensures.does) c.in-Ok-Moved.ensures.steps;
      frame = c.round.ensures.keeps.frame ∙ c.loop-round.invariant.frame;
      room = c.round.ensures.keeps.room ∙ c.loop-round.invariant.room;
      none_failed = search rules;
    }

pub returns-in-Ok-Stayed-clause-steps : goal.returns-in-Ok-Stayed-clause-steps
returns-in-Ok-Stayed-clause-steps g c =
    let end = c.from-round-end.result + 1 in
    let i = c.loop-round._round in
    let fuel : end - i ≡ suc (end - (i + 1)) = omega (arith, c.loop-round-test.true) in
    rounds-end (loaded c.args.program.now) (world_of c.loop-round.memory.store) (end - i) (end - (i + 1)) fuel _ _ c.loop-round.invariant.count _ _ _ _
    (rw c.in-Ok-Stayed.field-0-is at c.in-Ok-Stayed.ensures.does) c.in-Ok-Stayed.ensures.steps

pub returns-in-Ok-Exited-clause-steps : goal.returns-in-Ok-Exited-clause-steps
returns-in-Ok-Exited-clause-steps g c =
    let end = c.from-round-end.result + 1 in
    let i = c.loop-round._round in
    let fuel : end - i ≡ suc (end - (i + 1)) = omega (arith, c.loop-round-test.true) in
    rounds-exit (loaded c.args.program.now) (world_of c.loop-round.memory.store) (end - i) (end - (i + 1)) fuel _ _ c.loop-round.invariant.count c.exit.result _ _ _ _ _ _ _ refl
    (rw c.in-Ok-Exited.field-0-is at c.in-Ok-Exited.ensures.does) c.in-Ok-Exited.ensures.steps c.exit.ensures.steps

pub returns-in-Err-clause-steps : goal.returns-in-Err-clause-steps
returns-in-Err-clause-steps g c =
    let end = c.from-round-end.result + 1 in
    let i = c.loop-round._round in
    let fuel : end - i ≡ suc (end - (i + 1)) = omega (arith, c.loop-round-test.true) in
    rounds-stop (loaded c.args.program.now) (world_of c.loop-round.memory.store) (end - i) (end - (i + 1)) fuel _ _ c.loop-round.invariant.count
    c.in-Err.stop _ _ _ _ _ _ refl c.in-Err.ensures.does c.in-Err.ensures.steps
