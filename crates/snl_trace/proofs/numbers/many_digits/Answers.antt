use Rattle.std.proofs.Common.{◌≡◌, ◌∙◌, ◌+◌, ◌-◌, ◌*◌, ◌%◌, ◌^◌, ap, arith, length, take}
use Rattle.std.proofs.lemmas.List.Folds.{length-prefix_len}
use Rattle.std.specs.Char.{is_ascii_digit}
use Rattle.std.specs.Str.Parse.{digits_value}
use Rattle.snl_trace.proofs.NumberLaws.{run-many}
use Rattle.snl_trace.proofs.DigitLaws.{run_of, run-digits, run-is}
use Rattle.snl_trace.proofs.numbers.many_digits.Goals as goal

pub returns-then-count-most-clause-none : goal.returns-then-count-most-clause-none
returns-then-count-most-clause-none c =
    let text = c.args.text.now in
    let count = c.read_digits-count.result.0 in
    let is : count ≡ run_of text = omega (arith, c.read_digits-count.ensures.end) in
    let size = ap (λ n. length (take n text)) is in
    run-many count c.args.most text (rw is (run-digits text)) (omega (arith, c.if-count-most.true, is, size, length-prefix_len is_ascii_digit text))

pub returns-clause-some : goal.returns-clause-some
returns-clause-some c =
    let text = c.args.text.now in
    let count = c.read_digits-count.result.0 in
    let is : count ≡ run_of text = omega (arith, c.read_digits-count.ensures.end) in
    let all : count - 0 ≡ count = omega arith in
    let number : 0 * 10 ^ count + digits_value 10 (take count text) ≡ digits_value 10 (take count text) = omega arith in
    run-is c.read_digits-count.result.1 count c.args.most text c.requires c.if-count-most.false is
    (c.read_digits-count.ensures.value ∙ ap (λ k. (0 * 10 ^ k + digits_value 10 (take k text)) % 2 ^ 64) all ∙ ap (λ n. n % 2 ^ 64) number)
