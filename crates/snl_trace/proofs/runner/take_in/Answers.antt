use Rattle.std.proofs.Common.{◌≡◌, ◌∙◌, ◌++◌, ◌∷◌, [], length, refl, sym, ap, arith, rules, append_assoc, append-nil, length-append}
use Rattle.snl_trace.specs.declared.runner.End.TheVariants as end
use Rattle.snl_machine.proofs.Tasks.{stays-both}
use Rattle.snl_trace.specs.Run.{rules_of}
use Rattle.snl_trace.specs.RunOver.{standing}
use Rattle.snl_trace.proofs.RunOverLaws.{way-start, way-on, way-ends, way-all, takes-more, takes-long, known-is, rules-long, rules-same}
use Rattle.snl_trace.proofs.runner.take_in.Goals as goal

pub loop-next-init : goal.loop-next-init
loop-next-init g c = record {
  way = way-start _ _ _;
  fixed = refl;
  stays = λ p ls waits budget is. is;
  lines = search rules;
  none_failed = refl;
}

pub take_next-requires-clause-read : goal.take_next-requires-clause-read
take_next-requires-clause-read g c = known-is c.loop-next.machine c.in-Some.next.line.now c.next_line.new.room c.in-Some.next.heard c.in-Some.ensures.read

pub loop-next-preserved : goal.loop-next-preserved
loop-next-preserved g c =
    let same : rules_of c.loop-next.machine ≡ rules_of c.args.machine.now = rules-same c.args.machine.now c.loop-next.machine c.loop-next.invariant.fixed in
    let cut : c.loop-next.left.now ≡ (c.in-Some.next.line.now ++ 10 ∷ []) ++ c.in-Some.next.rest.now =
    c.in-Some.ensures.cut ∙ sym (append_assoc c.in-Some.next.line.now (10 ∷ []) c.in-Some.next.rest.now) in
    record {
      way = way-on _ _ _ _ _ _ _ _ c.loop-next.invariant.way cut (rw same at c.in-None.ensures.does);
      fixed = c.take_next.ensures.fixed ∙ c.loop-next.invariant.fixed;
      stays = stays-both c.args.machine.now c.loop-next.machine c.take_next.new.machine c.loop-next.invariant.stays c.take_next.ensures.stays;
      lines = omega (
        arith,
        c.loop-next.invariant.lines,
        c.take_next.ensures.lines,
        ap length cut,
        length-append (c.in-Some.next.line.now ++ 10 ∷ []) c.in-Some.next.rest.now,
        length-append c.in-Some.next.line.now (10 ∷ []),
      );
      none_failed = c.in-None.ensures.failures ∙ c.loop-next.invariant.none_failed;
    }

pub returns-in-Some-take_next-clause-does : goal.returns-in-Some-take_next-clause-does
returns-in-Some-take_next-clause-does g c =
    let same : rules_of c.loop-next.machine ≡ rules_of c.args.machine.now = rules-same c.args.machine.now c.loop-next.machine c.loop-next.invariant.fixed in
    let cut : c.loop-next.left.now ≡ (c.in-Some.next.line.now ++ 10 ∷ []) ++ c.in-Some.next.rest.now =
    c.in-Some.ensures.cut ∙ sym (append_assoc c.in-Some.next.line.now (10 ∷ []) c.in-Some.next.rest.now) in
    let to = standing c.take_next.new.reading.line.items c.take_next.new.reading.number c.take_next.new.machine (g.S.Sink.told c.take_next.new.sink) in
    way-ends _ _ _ _ _ c.in-Some-take_next.end _ _ to c.loop-next.invariant.way cut (rw same at c.in-Some-take_next.ensures.does)

pub returns-in-Some-take_next-clause-fixed : goal.returns-in-Some-take_next-clause-fixed
returns-in-Some-take_next-clause-fixed g c = c.take_next.ensures.fixed ∙ c.loop-next.invariant.fixed

pub returns-in-Some-take_next-clause-stays : goal.returns-in-Some-take_next-clause-stays
returns-in-Some-take_next-clause-stays g c = stays-both c.args.machine.now c.loop-next.machine c.take_next.new.machine c.loop-next.invariant.stays c.take_next.ensures.stays

pub returns-in-Ok-clause-does : goal.returns-in-Ok-clause-does
returns-in-Ok-clause-does g c =
    let b = standing c.loop-next.reading.line.items c.loop-next.reading.number c.loop-next.machine (g.S.Sink.told c.loop-next.sink) in
    rw c.in-Ok.ensures.ok
    (way-all _ _ _ _ b _ c.loop-next.invariant.way (takes-more (rules_of c.args.machine.now) c.loop-next.left.now b c.in_default.ensures.none))

pub returns-in-Err-clause-does : goal.returns-in-Err-clause-does
returns-in-Err-clause-does g c =
    let b = standing c.loop-next.reading.line.items c.loop-next.reading.number c.loop-next.machine (g.S.Sink.told c.loop-next.sink) in
    let left = c.loop-next.left.now in
    way-ends (rules_of c.args.machine.now) c.args.bytes.now left left [] (end.TraceFault c.loop-next.reading.number c.in-Err.fault) _ b b c.loop-next.invariant.way (sym (append-nil left))
    (takes-long (rules_of c.args.machine.now) (rules-long c.args.machine.now) c.in-Err.fault left b c.in-Err.ensures.fault c.in_default.ensures.none c.in-Err.ensures.long)
