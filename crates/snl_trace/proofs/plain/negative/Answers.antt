use Rattle.std.proofs.Common.{◌≡◌, ◌∷◌, Some, FitsSigned, w64, rules}
use Rattle.std.proofs.lemmas.Int.{to_z-of_z}
use Rattle.snl_trace.specs.Numbers.{spelled_number, spelled_value, below_zero}
use Rattle.snl_trace.proofs.PlainLaws.{begins-as, number-below}
use Rattle.snl_trace.proofs.plain.negative.Goals as goal

pub returns : goal.returns
returns c =
    let size = c.in_ok-size.size in
    let value = c.in_ok-below_zero.field-0 in
    let fits : FitsSigned w64 value = search rules in
    let is : below_zero (Some size) ≡ Some value = search rules in
    rw (to_z-of_z w64 value fits)
    (begins-as (λ field. spelled_number 19 field ≡ Some size) (λ field. spelled_value (45 ∷ field) ≡ Some value) c.in_ok-size.stop c.args.text.now c.in_ok-size.rest.now
    (λ field read. number-below field size value is read) c.in_ok-size.ensures)
