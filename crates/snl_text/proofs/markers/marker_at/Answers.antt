use Rattle.std.proofs.Common.{◌≡◌, ◌∙◌, ◌+◌, ◌-◌, ◌<◌, ◌^◌, ℕ, List, Some, drop, take, length, ap, sym, arith, length-drop}
use Rattle.std.specs.List.{prefix_len}
use Rattle.std.proofs.lemmas.List.{take_all}
use Rattle.snl_text.specs.Bytes.{is_digit}
use Rattle.snl_text.specs.Numbers.{numeral_value}
use Rattle.snl_text.proofs.MarkerLines.{nine_digits}
use Rattle.snl_text.proofs.markers.marker_at.Goals as goal

-- nine digits at most, from a place on, have a small value
small : (line : List ℕ) (start count value : ℕ) → count ≡ prefix_len is_digit (take (length line - start) (drop start line)) → count < 10
    → Some value ≡ numeral_value 10 (take (start + count - start) (drop start line)) → value < 2 ^ 31
small line start count value run few found =
    let rest : take (length line - start) (drop start line) ≡ drop start line = take_all (length line - start) (drop start line) (omega (arith, length-drop start line)) in
    let same : start + count - start ≡ count = omega arith in
    nine_digits (drop start line) count value (run ∙ ap (prefix_len is_digit) rest) few
    (sym (found ∙ ap (λ n. numeral_value 10 (take n (drop start line))) same))

pub overflow_cast-number : goal.overflow_cast-number
overflow_cast-number c =
    let few = small c.args.line.now c.number_start-start.result c.run-count.result c.in_ok-value.value c.run-count.ensures.value (omega (arith, c.if-count-gt9.false)) c.in_ok-value.ensures.value in
    omega (arith, few)

pub returns-clause-fits : goal.returns-clause-fits
returns-clause-fits c =
    let few = small c.args.line.now c.number_start-start.result c.run-count.result c.in_ok-value.value c.run-count.ensures.value (omega (arith, c.if-count-gt9.false)) c.in_ok-value.ensures.value in
    (omega (arith, few), c.name_at.ensures.within)
