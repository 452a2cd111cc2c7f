use Rattle.std.proofs.Common.{◌≡◌, ◌∙◌, ◌++◌, ◌∷◌, [], length, sym, ap, arith, rules, append_assoc, append-nil, length-append}
use Rattle.snl_same.specs.Sides.{stand_of}
use Rattle.snl_same.specs.declared.differences.Close.TheVariants.{LineTooLong}
use Rattle.snl_same.proofs.TakingLaws.{taken-more, takes-long, way-all, way-ends, way-on, way-start}
use Rattle.snl_same.proofs.comparison.take_in.Goals as goal

pub loop-next-init : goal.loop-next-init
loop-next-init c = record { way = way-start _ _ _; number = search rules }

pub loop-next-preserved : goal.loop-next-preserved
loop-next-preserved c =
    let line = c.in-Some.next.line.now in
    let rest = c.in-Some.next.rest.now in
    let cut : c.loop-next.left.now ≡ (line ++ 10 ∷ []) ++ rest = c.in-Some.ensures.cut ∙ sym (append_assoc line (10 ∷ []) rest) in
    record {
      way = way-on _ _ _ _ _ _ _ _ _ _ c.loop-next.invariant.way cut (rw c.in-None.is at c.in_ok-take_line.ensures.takes);
      number = omega (
        arith,
        c.loop-next.invariant.number,
        c.in_ok-take_line.ensures.number,
        ap length cut,
        length-append (line ++ 10 ∷ []) rest,
        length-append line (10 ∷ []),
      );
    }

pub returns-in-Some-2-clause-takes : goal.returns-in-Some-2-clause-takes
returns-in-Some-2-clause-takes c =
    let line = c.in-Some.next.line.now in
    let rest = c.in-Some.next.rest.now in
    let cut : c.loop-next.left.now ≡ (line ++ 10 ∷ []) ++ rest = c.in-Some.ensures.cut ∙ sym (append_assoc line (10 ∷ []) rest) in
    let to = stand_of c.take_line.new.log c.take_line.new.old c.take_line.new.new in
    way-ends c.in-Some-2.close _ _ _ _ _ _ c.take_line.new.reading.begun.items _ _ to c.loop-next.invariant.way cut (rw c.in-Some-2.is at c.in_ok-take_line.ensures.takes)

pub returns-then-extend-clause-takes : goal.returns-then-extend-clause-takes
returns-then-extend-clause-takes c =
    let here = stand_of c.loop-next.log c.loop-next.old c.loop-next.new in
    rw (c.extend.ensures.ok c.if-extend.true)
    (way-all _ _ _ _ _ _ _ here c.loop-next.invariant.way (taken-more c.loop-next.left.now c.loop-next.reading.begun.items here c.in_default.ensures.none))

pub returns-else-extend-clause-takes : goal.returns-else-extend-clause-takes
returns-else-extend-clause-takes c =
    let left = c.loop-next.left.now in
    let here = stand_of c.loop-next.log c.loop-next.old c.loop-next.new in
    let from = stand_of c.args.log.now c.args.old.now c.args.new.now in
    let begun = c.loop-next.reading.begun.items in
    let end = c.extend.new.line.items in
    way-ends (LineTooLong c.loop-next.log.number) c.args.bytes.now left (left ++ []) [] c.args.reading.now.begun.items begun end from here here c.loop-next.invariant.way
    (sym (append-nil (left ++ []) ∙ append-nil left))
    (takes-long left [] begun end here c.in_default.ensures.none (c.extend.ensures.long c.if-extend.false))
