use Rattle.std.proofs.Common.{◌≡◌, ◌∙◌, ◌+◌, ◌<◌, ◌^◌, true, arith, rules, get_or, take, refl}
use Rattle.std.specs.Char.{is_ascii_digit}
use Rattle.std.specs.List.{list_all}
use Rattle.std.proofs.lemmas.List.{length-take-le}
use Rattle.std.proofs.lemmas.List.Folds.{list_all_more}
use Rattle.std.proofs.lemmas.Int.Digits.{digits_value_more}
use Rattle.std.proofs.lemmas.Str.{digit_value_digit}
use Rattle.snl_trace.proofs.NumberLaws.{digit-below, room-below, run-many}
use Rattle.snl_trace.proofs.numbers.digits.Goals as goal

pub overflow_mul-number : goal.overflow_mul-number
overflow_mul-number c =
    let small : c.loop-count.number < 10 ^ 18 = room-below c.loop-count.number c.loop-count.count (omega arith) c.loop-count.invariant.small in
    omega arith

pub overflow_add-number : goal.overflow_add-number
overflow_add-number c =
    let small : c.loop-count.number < 10 ^ 18 = room-below c.loop-count.number c.loop-count.count (omega arith) c.loop-count.invariant.small in
    omega (arith, c.if-is_ascii_digit.ensures.cases)

pub returns-then-count-most-clause-none : goal.returns-then-count-most-clause-none
returns-then-count-most-clause-none c =
    let text = c.args.text.now in
    let n = c.loop-count.count in
    let digit : is_ascii_digit (get_or text n 0) ≡ true = first_of (cc, search rules) in
    let digits : list_all is_ascii_digit (take (n + 1) text) ≡ true = list_all_more is_ascii_digit text n 0 c.loop-count-test.true ∙ rw (c.loop-count.invariant.digits, digit) refl in
    run-many (n + 1) c.args.most text digits (omega (arith, c.if-count-most.true, length-take-le (n + 1) text (omega (arith, c.loop-count-test.true))))

pub loop-count-preserved : goal.loop-count-preserved
loop-count-preserved c =
    let text = c.args.text.now in
    let n = c.loop-count.count in
    let read = get_or text n 0 in
    let digit : is_ascii_digit read ≡ true = first_of (cc, search rules) in
    record {
      within = omega (arith, c.loop-count-test.true);
      few = omega (arith, c.loop-count.invariant.few, c.if-count-most.false);
      digits = list_all_more is_ascii_digit text n 0 c.loop-count-test.true ∙ rw (c.loop-count.invariant.digits, digit) refl;
      spelled = omega (
        arith,
        digits_value_more 10 text n (omega (arith, c.loop-count-test.true)),
        digit_value_digit read c.if-is_ascii_digit.ensures.cases,
      );
      small = digit-below c.loop-count.number c.from.result n c.loop-count.invariant.small (omega (arith, c.if-is_ascii_digit.ensures.cases));
    }
