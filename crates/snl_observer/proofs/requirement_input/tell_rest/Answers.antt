use Rattle.std.proofs.lemmas.List.{nil_from_length}
use Rattle.std.proofs.Common.{rules}
use Rattle.snl_observer.proofs.TellLaws.{rest-ends, rest-whole, tells-adds, tells-all}
use Rattle.snl_observer.proofs.requirement_input.tell_rest.Goals as goal

pub returns-in-Some-clause-led : goal.returns-in-Some-clause-led
returns-in-Some-clause-led g c = rest-whole _ _ _ _ _ _ _ _ _ _ _ c.in-Some.ensures.tells

pub returns-in-Some-clause-adds : goal.returns-in-Some-clause-adds
returns-in-Some-clause-adds g c = tells-adds _ _ _ _ _ _ _ _ _ _ _ _ c.in-Some.ensures.tells

pub returns-in-Some-clause-whole : goal.returns-in-Some-clause-whole
returns-in-Some-clause-whole g c = λ none. tells-all _ _ _ _ _ _ _ _ _ _ _ _ c.in-Some.ensures.tells (nil_from_length c.in-Some.left.now (search rules))

pub returns-in-None-clause-led : goal.returns-in-None-clause-led
returns-in-None-clause-led g c = rest-ends _ _ _ _ _ _ _ _ _ _ c.in-None.ensures.ends

pub returns-in-None-clause-adds : goal.returns-in-None-clause-adds
returns-in-None-clause-adds g c = c.in-None.ensures.ends.adds
