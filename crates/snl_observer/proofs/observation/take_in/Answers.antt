use Rattle.std.proofs.Common.{◌≡◌, ◌∙◌, ◌++◌, ◌∷◌, [], length, sym, ap, arith, rules, append_assoc, append-nil, length-append}
use Rattle.snl_observer.specs.Behind.{long_at}
use Rattle.snl_observer.proofs.TakingLaws.{taken-more, takes-long, way-all, way-ends, way-on, way-start}
use Rattle.snl_observer.proofs.observation.take_in.Goals as goal

pub loop-line-init : goal.loop-line-init
loop-line-init g c = record { way = way-start _ _ _; number = search rules }

pub loop-line-preserved : goal.loop-line-preserved
loop-line-preserved g c =
    let line = c.in-Some.line.now in
    let rest = c.in-Some.rest.now in
    let cut : c.loop-line.left.now ≡ (line ++ 10 ∷ []) ++ rest = c.in-Some.ensures.cut ∙ sym (append_assoc line (10 ∷ []) rest) in
    record {
      way = way-on _ _ _ _ _ _ _ _ _ _ c.loop-line.invariant.way cut (rw c.in-None.is at c.take_line.ensures.takes);
      number = omega (
        arith,
        c.loop-line.invariant.number,
        c.take_line.ensures.number,
        ap length cut,
        length-append (line ++ 10 ∷ []) rest,
        length-append line (10 ∷ []),
      );
    }

pub returns-in-Some-take_line-clause-takes : goal.returns-in-Some-take_line-clause-takes
returns-in-Some-take_line-clause-takes g c =
    let line = c.in-Some.line.now in
    let rest = c.in-Some.rest.now in
    let cut : c.loop-line.left.now ≡ (line ++ 10 ∷ []) ++ rest = c.in-Some.ensures.cut ∙ sym (append_assoc line (10 ∷ []) rest) in
    way-ends c.in-Some-take_line.close _ _ _ _ _ _ c.take_line.new.reading.begun.items _ _ _ c.loop-line.invariant.way cut (rw c.in-Some-take_line.is at c.take_line.ensures.takes)

pub returns-then-extend-clause-takes : goal.returns-then-extend-clause-takes
returns-then-extend-clause-takes g c =
    rw (c.extend.ensures.ok c.if-extend.true)
    (way-all _ _ _ _ _ _ _ _ c.loop-line.invariant.way (taken-more c.loop-line.left.now c.loop-line.reading.begun.items _ c.in_default.ensures.none))

pub returns-else-extend-clause-takes : goal.returns-else-extend-clause-takes
returns-else-extend-clause-takes g c =
    let left = c.loop-line.left.now in
    let begun = c.loop-line.reading.begun.items in
    let end = c.extend.new.line.items in
    rw c.too_long.ensures.is
    (way-ends (long_at c.loop-line.reading.number) c.args.bytes.now left (left ++ []) [] c.args.reading.now.begun.items begun end _ _ _ c.loop-line.invariant.way
    (sym (append-nil (left ++ []) ∙ append-nil left))
    (takes-long left [] begun end _ c.in_default.ensures.none (c.extend.ensures.long c.if-extend.false)))
