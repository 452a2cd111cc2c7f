use Rattle.snl_trace.proofs.PlainLaws.{tells-tick, tells-values}
use Rattle.snl_trace.proofs.plain.telling.Goals as goal

pub returns-in-Some : goal.returns-in-Some
returns-in-Some c =
    tells-values c.in_ok-name.name.now c.behind_values.new.values.items c.args.text.now c.in-Some.named.now c.in_ok-name.row.now c.in_ok-rest.rest.now
    c.in-Some.ensures c.in_ok-name.ensures c.in_ok-rest.ensures

pub returns : goal.returns
returns c = tells-tick c.args.text.now c.in_ok-behind_tick.field-0.now c.in_ok-behind_tick.ensures
