use Rattle.std.proofs.Common.{Some}
use Rattle.snl_alike.specs.Delays.{IsShort}
use Rattle.snl_timing.proofs.DelayLaws.{listed-viewed}
use Rattle.snl_timing.proofs.blocks.are_short_values.Goals as goal

pub returns-in-List : goal.returns-in-List
returns-in-List c = λ yes.
    listed-viewed (IsShort (Some c.args.longest)) c.args.initial.now c.in-List.values c.as_slice.result.now c.in-List.is c.as_slice.ensures.value
    (c.are_short_each.ensures yes)
