use Rattle.std.proofs.lemmas.List.{take_rest}
use Rattle.snl_trace.specs.Plain.{is_plain}
use Rattle.snl_trace.proofs.LaneLaws.{front-joins}
use Rattle.snl_trace.proofs.plain.plain_bytes.Goals as goal

pub returns-then-more-lt-LANES-clause-plain : goal.returns-then-more-lt-LANES-clause-plain
returns-then-more-lt-LANES-clause-plain c =
    (front-joins is_plain c.loop-count.count c.plain_lanes-more.result c.args.text.now c.loop-count.invariant (rw take_rest at c.plain_lanes-more.ensures.front)).all

pub loop-count-preserved : goal.loop-count-preserved
loop-count-preserved c =
    front-joins is_plain c.loop-count.count c.plain_lanes-more.result c.args.text.now c.loop-count.invariant (rw take_rest at c.plain_lanes-more.ensures.front)
