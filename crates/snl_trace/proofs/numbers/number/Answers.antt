use Rattle.std.proofs.Common.{◌≡◌, false, true, drop, arith, sym}
use Rattle.snl_trace.specs.Reading.{at_end}
use Rattle.std.proofs.lemmas.List.{take_rest}
use Rattle.snl_trace.proofs.NumberLaws.{run-none, run-odd, run-read}
use Rattle.snl_trace.proofs.numbers.number.Goals as goal

pub returns-then-count-eq0 : goal.returns-then-count-eq0
returns-then-count-eq0 c = run-none c.in_ok-number.number c.args.most c.args.text.now (rw c.if-count-eq0.true at c.in_ok-number.ensures.some.stops)

pub returns-then-not-at_end : goal.returns-then-not-at_end
returns-then-not-at_end c =
    let goes_on : at_end (drop c.in_ok-number.count c.args.text.now) ≡ false = sym (rw take_rest at c.if-not-at_end.ensures) in
    run-odd c.in_ok-number.number c.in_ok-number.count c.args.most c.args.text.now c.in_ok-number.ensures.some goes_on

pub returns : goal.returns
returns c =
    let ends : at_end (drop c.in_ok-number.count c.args.text.now) ≡ true = sym (rw take_rest at c.if-not-at_end.ensures) in
    rw take_rest (run-read c.in_ok-number.number c.in_ok-number.count c.args.most c.args.text.now c.in_ok-number.ensures.some (omega (arith, c.if-count-eq0.false)) ends)
