use Rattle.snl_observer.proofs.TellLaws.{adds-then, among-ends, among-then, wrote-then}
use Rattle.std.proofs.Common.{◌∙◌}
use Rattle.snl_observer.proofs.requirement_input.hear_among.Goals as goal

pub returns-in_default-clause-led : goal.returns-in_default-clause-led
returns-in_default-clause-led g c = among-ends _ _ c.args.trace.text.now _ _ _ _ _ _ _ _ _ c.in_default.ensures.ends

pub returns-in_default-clause-adds : goal.returns-in_default-clause-adds
returns-in_default-clause-adds g c = c.in_default.ensures.ends.adds

pub returns-clause-led : goal.returns-clause-led
returns-clause-led g c = among-then _ _ c.args.trace.text.now _ c.in-Some.left.now _ _ _ _ _ _ _ _ _ _ _ _ _ _ c.in-Some.ensures.tells c.hear.ensures.led c.tell_rest.ensures.led

pub returns-clause-adds : goal.returns-clause-adds
returns-clause-adds g c =
    let first = c.in-Some.ensures.tells in
    adds-then _ _ _ _ c.in-Some.left.now first.front first.are (c.hear.ensures.run ∙ first.is) c.tell_rest.ensures.adds

pub returns-clause-whole : goal.returns-clause-whole
returns-clause-whole g c = λ whole.
    let first = c.in-Some.ensures.tells in
    wrote-then _ _ _ _ c.in-Some.left.now first.front first.are (c.hear.ensures.run ∙ first.is) (c.tell_rest.ensures.whole whole)
