use Rattle.std.proofs.Common.{◌≡◌, Some}
use Rattle.snl_trace.specs.Numbers.{spelled_number, time_of}
use Rattle.snl_trace.proofs.PlainLaws.{begins-as, number-time}
use Rattle.snl_trace.proofs.plain.time.Goals as goal

pub returns : goal.returns
returns c =
    let ms = c.in_ok-ms.ms in
    begins-as (λ field. spelled_number 16 field ≡ Some ms) (λ field. time_of field ≡ Some ms) 32 c.args.text.now c.in_ok-ms.rest.now
    (λ field is. number-time field ms c.if-ms-gt-TIME_LIMIT.false is) (rw c.if-stop-ne32.false at c.in_ok-ms.ensures)
