use Rattle.std.proofs.Common.{◌≡◌, arith}
use Rattle.std.proofs.lemmas.Grind.{common_steps}
use Rattle.snl_trace.specs.Fields.{fields}
use Rattle.snl_trace.specs.Grammar.{told_by, up_with, down_with, tick_with, done_with}
use Rattle.snl_trace.specs.Seen.{seen, told}
use Rattle.snl_trace.proofs.words.heard.Goals as goal

pub returns-in-Some-Up : goal.returns-in-Some-Up
unfolding told_by
returns-in-Some-Up c =
    let up : seen (told c.args.values.now.items) c.up.result ≡ up_with (fields c.in_ok-field.rest.now) = c.up.ensures c.args.values.now.items in
    grind (arith, common_steps)

pub returns-in-Some-Down : goal.returns-in-Some-Down
unfolding told_by
returns-in-Some-Down c =
    let down : seen (told c.args.values.now.items) c.down.result ≡ down_with (fields c.in_ok-field.rest.now) = c.down.ensures c.args.values.now.items in
    grind (arith, common_steps)

pub returns-in-Some-Tick : goal.returns-in-Some-Tick
unfolding told_by
returns-in-Some-Tick c =
    let ticked : seen (told c.args.values.now.items) c.tick.result ≡ tick_with (fields c.in_ok-field.rest.now) = c.tick.ensures c.args.values.now.items in
    grind (arith, common_steps)

pub returns-in-Some-Done : goal.returns-in-Some-Done
unfolding told_by
returns-in-Some-Done c =
    let done : seen (told c.args.values.now.items) c.done.result ≡ done_with (fields c.in_ok-field.rest.now) = c.done.ensures c.args.values.now.items in
    grind (arith, common_steps)
