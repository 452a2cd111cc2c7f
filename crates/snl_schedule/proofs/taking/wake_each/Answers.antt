use Rattle.std.proofs.Common.{◌≡◌, ◌∙◌, ◌+◌, ◌-◌, suc, refl, sym, rules, arith}
use Rattle.snl_vm.specs.Views.{world_of}
use Rattle.snl_schedule.specs.Loaded.{loaded, program_of}
use Rattle.snl_schedule.proofs.Frames.{but-both, but-at}
use Rattle.snl_schedule.proofs.Waking.{wake-none, wake-goes_on, wake-stops, past-on, past-stops}
use Rattle.snl_schedule.proofs.Counting.{wakes-none, wakes-go_on, wakes-stop}
use Rattle.snl_schedule.proofs.taking.wake_each.Goals as goal

pub returns-in-None-clause-does : goal.returns-in-None-clause-does
returns-in-None-clause-does g c =
    let p = program_of (loaded c.args.program.now) in
    let i = c.loop-wake._wake in
    let ms = c.args.ms in
    let fuel : ms - i ≡ suc (ms - (i + 1)) = omega (arith, c.loop-wake-test.true) in
    wake-none p c.args.program.now.budget ms (world_of c.loop-wake.memory.store) (ms - i) (ms - (i + 1)) fuel _ _ _ c.loop-wake.invariant.on_way c.next_wake.result c.next_wake.ensures c.in-None.is

pub returns-in-Err-clause-does : goal.returns-in-Err-clause-does
returns-in-Err-clause-does g c =
    let p = program_of (loaded c.args.program.now) in
    let i = c.loop-wake._wake in
    let ms = c.args.ms in
    let fuel : ms - i ≡ suc (ms - (i + 1)) = omega (arith, c.loop-wake-test.true) in
    wake-stops p c.args.program.now.budget ms (world_of c.loop-wake.memory.store) (ms - i) (ms - (i + 1)) fuel _ _ _ c.loop-wake.invariant.on_way c.next_wake.result c.next_wake.ensures
    c.in-Some.wake c.in-Some.is
    c.in-Err.stop _ _ c.in-Err.ensures.does

pub loop-wake-preserved : goal.loop-wake-preserved
loop-wake-preserved g c =
    let p = program_of (loaded c.args.program.now) in
    let i = c.loop-wake._wake in
    let ms = c.args.ms in
    let fuel : ms - i ≡ suc (ms - (i + 1)) = omega (arith, c.loop-wake-test.true) in
    record {
      on_way = wake-goes_on p c.args.program.now.budget ms (world_of c.loop-wake.memory.store) (ms - i) (ms - (i + 1)) fuel _ _ _ c.loop-wake.invariant.on_way
          c.next_wake.result c.next_wake.ensures c.in-Some.wake c.in-Some.is _ _ c.in-Ok.ensures.does;
      count = wakes-go_on (loaded c.args.program.now) c.args.program.now.budget ms (world_of c.loop-wake.memory.store) (ms - i) (ms - (i + 1)) fuel
          c.next_wake.result c.next_wake.ensures _ _ c.loop-wake.invariant.count
          c.in-Some.wake c.in-Some.is _ _ _ _ c.in-Ok.ensures.does c.in-Ok.ensures.steps;
      past = past-on p c.args.program.now.budget ms (world_of c.args.memory.now.store) (world_of c.loop-wake.memory.store) c.loop-wake.invariant.past c.in-Some.wake
          (sym c.next_wake.ensures ∙ c.in-Some.is)
          _ _ _ c.in-Ok.ensures.does;
      frame = but-both (world_of c.args.memory.now.store) (world_of c.loop-wake.memory.store) (world_of c.instant.new.memory.store) c.loop-wake.invariant.frame
          (but-at c.in-Some.wake (world_of c.loop-wake.memory.store) (world_of c.instant.new.memory.store) c.in-Ok.ensures.keeps.frame);
      room = c.in-Ok.ensures.keeps.room ∙ c.loop-wake.invariant.room;
      none_failed = search rules;
    }

pub returns-in-Err-clause-keeps : goal.returns-in-Err-clause-keeps
returns-in-Err-clause-keeps g c = record {
  frame = but-both (world_of c.args.memory.now.store) (world_of c.loop-wake.memory.store) (world_of c.instant.new.memory.store) c.loop-wake.invariant.frame
      (but-at c.in-Some.wake (world_of c.loop-wake.memory.store) (world_of c.instant.new.memory.store) c.in-Err.ensures.keeps.frame);
  room = c.in-Err.ensures.keeps.room ∙ c.loop-wake.invariant.room;
  failures = search rules;
}

pub returns-in-Err-clause-time : goal.returns-in-Err-clause-time
returns-in-Err-clause-time g c =
    past-stops (program_of (loaded c.args.program.now)) c.args.program.now.budget c.args.ms (world_of c.args.memory.now.store) (world_of c.loop-wake.memory.store) c.loop-wake.invariant.past
    c.in-Some.wake (sym c.next_wake.ensures ∙ c.in-Some.is) (world_of c.instant.new.memory.store) c.in-Err.ensures.keeps.frame

pub returns-in-None-clause-steps : goal.returns-in-None-clause-steps
returns-in-None-clause-steps g c =
    let i = c.loop-wake._wake in
    let ms = c.args.ms in
    let fuel : ms - i ≡ suc (ms - (i + 1)) = omega (arith, c.loop-wake-test.true) in
    wakes-none (loaded c.args.program.now) c.args.program.now.budget ms (world_of c.loop-wake.memory.store) (ms - i) (ms - (i + 1)) fuel c.next_wake.result c.next_wake.ensures _ _
    c.loop-wake.invariant.count c.in-None.is

pub returns-in-Err-clause-steps : goal.returns-in-Err-clause-steps
returns-in-Err-clause-steps g c =
    let i = c.loop-wake._wake in
    let ms = c.args.ms in
    let fuel : ms - i ≡ suc (ms - (i + 1)) = omega (arith, c.loop-wake-test.true) in
    wakes-stop (loaded c.args.program.now) c.args.program.now.budget ms (world_of c.loop-wake.memory.store) (ms - i) (ms - (i + 1)) fuel
    c.next_wake.result c.next_wake.ensures _ _ c.loop-wake.invariant.count
    c.in-Some.wake c.in-Some.is c.in-Err.stop _ _ _ _ _ _ refl c.in-Err.ensures.does c.in-Err.ensures.steps
