use Rattle.std.proofs.Common.{Some, ◌≡◌, ℕ, ◌+◌, ◌*◌, take, sym, ap, ◌∙◌, arith}
use Rattle.std.proofs.lemmas.List.Sums.{fold_more}
use Rattle.std.proofs.lemmas.List.{take_all}
use Rattle.snl_text.specs.Numbers.{digit_value, digits_value}
use Rattle.snl_text.proofs.Digits.{stray, too_large, given}
use Rattle.snl_text.proofs.numbers.numeral_value.Goals as goal

pub returns-then-digit-base : goal.returns-then-digit-base
returns-then-digit-base c = record {
  value = sym (stray c.args.base c.args.digits.now c.loop-byte.byte-index c.loop-byte-test.true (rw (sym c.digit_value-digit.ensures) c.if-digit-base.true));
  small = tt;
}

pub returns-then-value-gt-LARGEST : goal.returns-then-value-gt-LARGEST
returns-then-value-gt-LARGEST c =
    let digits = c.args.digits.now in
    let i = c.loop-byte.byte-index in
    let f : ℕ → ℕ → ℕ = λ v byte. v * c.args.base + digit_value byte in
    let more = fold_more f 0 digits i 0 c.loop-byte-test.true in
    let same : c.loop-byte.value * c.from.result + c.from-in-loop-byte.result ≡ digits_value c.args.base (take (i + 1) digits) = cc more in
    record {
      value = sym (too_large c.args.base digits (i + 1) c.requires.low (omega (arith, same)));
      small = tt;
    }

pub returns : goal.returns
returns c =
    let digits = c.args.digits.now in
    let all = take_all c.loop-byte.byte-index digits c.loop-byte-test.false in
    let worth : c.loop-byte.value ≡ digits_value c.args.base digits = c.loop-byte.invariant.value ∙ ap (digits_value c.args.base) all in
    record {
      value = ap (λ v. Some v) worth ∙ sym (given c.args.base digits (rw all at c.loop-byte.invariant.digits) (rw worth at c.loop-byte.invariant.small));
      small = c.loop-byte.invariant.small;
    }
