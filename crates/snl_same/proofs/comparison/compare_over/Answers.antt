use Rattle.std.proofs.Common.{◌≡◌, ◌∙◌, ◌<◌, ◌≤◌, length, refl, arith, length-take, true}
use Rattle.snl_same.specs.Sides.{stand_of}
use Rattle.snl_same.proofs.LineLaws.{if-ok}
use Rattle.snl_same.proofs.OverLaws.{under_way-broken, under_way-ended, under_way-ends, under_way-on, under_way-start}
use Rattle.snl_trace.proofs.SourceLaws.{says-end}
use Rattle.snl_same.proofs.comparison.compare_over.Goals as goal

pub loop-reads-init : goal.loop-reads-init
loop-reads-init g c = record {
  way = rw c.new.ensures (under_way-start _ _ c.requires.fresh);
  room = refl;
  number = omega (arith, c.requires.number);
  works = refl;
}

pub returns-in-Err-clause-finds : goal.returns-in-Err-clause-finds
returns-in-Err-clause-finds g c =
    under_way-broken _ _ _ _ (g.R.Source.ended c.read.new.self) _ (stand_of c.loop-reads.log c.loop-reads.old c.loop-reads.new) c.in-Err.ensures.gave c.loop-reads.invariant.way

pub returns-in-Ok-eq0-clause-finds : goal.returns-in-Ok-eq0-clause-finds
returns-in-Ok-eq0-clause-finds g c =
    let some : 0 < length c.loop-reads.room = omega (arith, c.loop-reads.invariant.room) in
    let nothing : c.in-Ok-eq0.field-0 ≡ 0 = omega arith in
    let ended : g.R.Source.ended c.read.new.self ≡ true = c.in-Ok-eq0.ensures.ended ∙ says-end c.in-Ok-eq0.field-0 (length c.loop-reads.room) nothing some in
    let here = stand_of c.loop-reads.log c.loop-reads.old c.loop-reads.new in
    let to = stand_of c.finish.new.log c.finish.new.old c.finish.new.new in
    if-ok c.finish.result _ _ (λ close finishes.
    under_way-ended _ _ _ c.in-Ok-eq0.field-0 c.read.new.room _ _ close _ here to c.loop-reads.invariant.way c.in-Ok-eq0.ensures.gave nothing ended finishes) c.finish.ensures.finishes

pub returns-in-Some-clause-finds : goal.returns-in-Some-clause-finds
returns-in-Some-clause-finds g c =
    let to = stand_of c.take_in.new.log c.take_in.new.old c.take_in.new.new in
    under_way-ends _ _ _ c.in-Ok.count c.read.new.room _ c.take_in.new.reading.begun.items _ c.in-Some.close _ _ to c.loop-reads.invariant.way c.in-Ok.ensures.gave
    (rw c.in-Some.is at c.in_ok-close-in-Ok.ensures.takes)

pub loop-reads-preserved : goal.loop-reads-preserved
loop-reads-preserved g c =
    let n = c.in-Ok.count in
    let room = c.read.new.room in
    let some : 0 < n = omega arith in
    let within : n ≤ length room = omega (arith, c.read.auto.room, c.in-Ok.ensures.count) in
    record {
      way = under_way-on _ _ _ n room _ _ _ _ _ c.loop-reads.invariant.way c.in-Ok.ensures.gave c.in-Ok.ensures.short some within
          (rw c.in-None.is at c.in_ok-close-in-Ok.ensures.takes);
      room = omega (arith, c.read.auto.room, c.loop-reads.invariant.room);
      number = omega (arith, c.in_ok-close-in-Ok.ensures.number, c.loop-reads.invariant.number, c.read.auto.room, c.loop-reads.invariant.room, c.in-Ok.ensures.count, length-take n room);
      works = c.in-Ok.ensures.failures ∙ c.loop-reads.invariant.works;
    }
