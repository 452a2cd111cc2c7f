use Rattle.std.proofs.Common.{◌≡◌, ◌∙◌, ◌<◌, ◌≤◌, [], length, refl, arith, rules, length-take, true}
use Rattle.std.proofs.lemmas.Grind.{common_steps}
use Rattle.snl_machine.proofs.Tasks.{stays-both}
use Rattle.snl_trace.specs.Run.{rules_of}
use Rattle.snl_trace.specs.RunOver.{standing}
use Rattle.snl_trace.proofs.SourceLaws.{under_way-start, under_way-on, under_way-ends, under_way-ended, under_way-broken, under_way-never, says-end}
use Rattle.snl_trace.proofs.RunOverLaws.{rules-long, rules-same}
use Rattle.snl_trace.proofs.runner.run_counted.Goals as goal

pub loop-reads-init : goal.loop-reads-init
loop-reads-init g c = record {
  way = rw c.new.ensures (under_way-start _ _ _);
  fixed = refl;
  stays = λ p ls waits budget is. is;
  begun = rw c.new.ensures (omega arith);
  room = refl;
  lines = omega arith;
  source_works = refl;
  sink_works = refl;
}

pub returns-in-Err-clause-does : goal.returns-in-Err-clause-does
returns-in-Err-clause-does g c = rw c.wait.ensures.told
    (under_way-broken _ (rules-long c.args.machine.now) _ _ _ _ _ _ _ refl c.loop-reads.invariant.begun c.in-Err.ensures.gave c.loop-reads.invariant.way)

pub returns-in-Ok-eq0-clause-does : goal.returns-in-Ok-eq0-clause-does
returns-in-Ok-eq0-clause-does g c =
    let same : rules_of c.loop-reads.machine ≡ rules_of c.args.machine.now = rules-same c.args.machine.now c.loop-reads.machine c.loop-reads.invariant.fixed in
    let some : 0 < length c.loop-reads.room = omega (arith, c.loop-reads.invariant.room) in
    let nothing : c.in-Ok-eq0.field-0 ≡ 0 = omega arith in
    let ended : g.R.Source.ended c.read.new.self ≡ true = c.in-Ok-eq0.ensures.ended ∙ says-end c.in-Ok-eq0.field-0 (length c.loop-reads.room) nothing some in
    under_way-ended (rules_of c.args.machine.now) _ _ _ _ c.in-Ok-eq0.field-0 c.read.new.room _ c.finish.result _ _ _ _ refl c.loop-reads.invariant.way c.in-Ok-eq0.ensures.gave nothing ended
    (rw (c.as_slice.ensures.value, same, c.wait.ensures.told) at c.finish.ensures.does)

pub returns-in-Ok-eq0-clause-fixed : goal.returns-in-Ok-eq0-clause-fixed
returns-in-Ok-eq0-clause-fixed g c = c.finish.ensures.fixed ∙ c.loop-reads.invariant.fixed

pub returns-in-Ok-eq0-clause-stays : goal.returns-in-Ok-eq0-clause-stays
returns-in-Ok-eq0-clause-stays g c = stays-both c.args.machine.now c.loop-reads.machine c.finish.new.machine c.loop-reads.invariant.stays c.finish.ensures.stays

pub returns-in-Some-clause-fixed : goal.returns-in-Some-clause-fixed
returns-in-Some-clause-fixed g c = c.take_in.ensures.fixed ∙ c.loop-reads.invariant.fixed

pub returns-in-Some-clause-stays : goal.returns-in-Some-clause-stays
returns-in-Some-clause-stays g c = stays-both c.args.machine.now c.loop-reads.machine c.take_in.new.machine c.loop-reads.invariant.stays c.take_in.ensures.stays

pub returns-clause-fixed : goal.returns-clause-fixed
returns-clause-fixed g c = c.finish-2.ensures.fixed ∙ c.loop-reads.invariant.fixed

pub returns-clause-stays : goal.returns-clause-stays
returns-clause-stays g c = stays-both c.args.machine.now c.loop-reads.machine c.finish-2.new.machine c.loop-reads.invariant.stays c.finish-2.ensures.stays

pub returns-in-Some-clause-does : goal.returns-in-Some-clause-does
returns-in-Some-clause-does g c =
    let same : rules_of c.loop-reads.machine ≡ rules_of c.args.machine.now = rules-same c.args.machine.now c.loop-reads.machine c.loop-reads.invariant.fixed in
    let n = c.in-Ok.count in
    let room = c.read.new.room in
    let to = standing c.take_in.new.reading.line.items c.take_in.new.reading.number c.take_in.new.machine (g.S.Sink.told c.take_in.new.sink) in
    under_way-ends (rules_of c.args.machine.now) _ _ _ _ n room _ c.in-Some.end _ _ to refl c.loop-reads.invariant.way c.in-Ok.ensures.gave
    (rw (same, c.wait.ensures.told) at c.in-Some.ensures.does)

pub returns-in-Some-clause-source : goal.returns-in-Some-clause-source
returns-in-Some-clause-source g c = let ended = c.in-Some.ensures.does [] in first_of (search rules, grind (arith, common_steps))

pub returns-in-Some-clause-broke : goal.returns-in-Some-clause-broke
returns-in-Some-clause-broke g c = let ended = c.in-Some.ensures.does [] in first_of (search rules, grind (arith, common_steps))

pub loop-reads-preserved : goal.loop-reads-preserved
loop-reads-preserved g c =
    let same : rules_of c.loop-reads.machine ≡ rules_of c.args.machine.now = rules-same c.args.machine.now c.loop-reads.machine c.loop-reads.invariant.fixed in
    let n = c.in-Ok.count in
    let room = c.read.new.room in
    let some : 0 < n = omega arith in
    let within : n ≤ length room = omega (arith, c.read.auto.room, c.in-Ok.ensures.count) in
    record {
      way = under_way-on _ _ _ _ _ n room _ _ _ c.loop-reads.invariant.way c.in-Ok.ensures.gave c.in-Ok.ensures.short some within
          (rw (same, c.wait.ensures.told) at c.in-None.ensures.does);
      fixed = c.take_in.ensures.fixed ∙ c.loop-reads.invariant.fixed;
      stays = stays-both c.args.machine.now c.loop-reads.machine c.take_in.new.machine c.loop-reads.invariant.stays c.take_in.ensures.stays;
      begun = c.in-None.ensures.room;
      room = omega (arith, c.read.auto.room, c.loop-reads.invariant.room);
      lines = omega (arith, c.take_in.ensures.lines, c.loop-reads.invariant.lines, c.read.auto.room, c.loop-reads.invariant.room, c.in-Ok.ensures.count, length-take n room);
      source_works = c.in-Ok.ensures.failures ∙ c.loop-reads.invariant.source_works;
      sink_works = c.in-None.ensures.failures ∙ c.wait.ensures.failures ∙ c.loop-reads.invariant.sink_works;
    }

pub returns-clause-broke : goal.returns-clause-broke
returns-clause-broke g c = absurd (under_way-never _ _ _ c.loop-reads._reads _ _ c.loop-reads.invariant.way (omega (arith, c.loop-reads-test.false)))

pub returns-clause-does : goal.returns-clause-does
returns-clause-does g c = absurd (under_way-never _ _ _ c.loop-reads._reads _ _ c.loop-reads.invariant.way (omega (arith, c.loop-reads-test.false)))
