use Rattle.std.proofs.Common.{◌≡◌, Some, FitsSigned, w64, rules}
use Rattle.std.proofs.lemmas.Int.{to_z-of_z}
use Rattle.snl_trace.specs.Numbers.{spelled_number, spelled_value, from_zero}
use Rattle.snl_trace.proofs.PlainLaws.{begins-as, number-value}
use Rattle.snl_trace.proofs.plain.positive.Goals as goal

pub returns : goal.returns
returns c =
    let size = c.in_ok-size.size in
    let value = c.in_ok-from_zero.field-0 in
    let fits : FitsSigned w64 value = search rules in
    let is : from_zero (Some size) ≡ Some value = search rules in
    rw (to_z-of_z w64 value fits)
    (begins-as (λ field. spelled_number 19 field ≡ Some size) (λ field. spelled_value field ≡ Some value) c.in_ok-size.stop c.args.text.now c.in_ok-size.rest.now
    (λ field read. number-value field size value is read) c.in_ok-size.ensures)
