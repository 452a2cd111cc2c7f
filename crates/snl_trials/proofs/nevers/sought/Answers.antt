use Rattle.std.proofs.Common.{map}
use Rattle.std.specs.Prelude.{string_bytes}
use Rattle.snl_search.specs.Shown.{IsShown}
use Rattle.snl_trials.proofs.CertainLaws.{shown-there, reaches-there}
use Rattle.snl_trials.proofs.nevers.sought.Goals as goal

-- an answer that says that nothing is to be found shows it
pub returns-clause-shown : goal.returns-clause-shown
returns-clause-shown g c is_right =
    let answer = c.in_ok-answer.answer in
    shown-there (IsShown c.args.scouted c.args.wishes.now.part c.args.wishes.now.day (map string_bytes c.args.wishes.now.never.items)
    (map string_bytes c.args.wishes.now.ends.items) answer.text.items) answer.none c.args.wishes.now.bounds.lines c.in_ok-answer.ensures.none
    (c.in_ok-answer.ensures.certain (c.is_certain-is_right.ensures.nothing is_right))

-- and it reaches as far as was asked for
pub returns-clause-reaches : goal.returns-clause-reaches
returns-clause-reaches g c is_right =
    reaches-there c.in_ok-answer.answer.none c.args.is_ever c.args.wishes.now.bounds.lines
    (c.in_ok-answer.ensures.certain (c.is_certain-is_right.ensures.nothing is_right)) (c.is_certain-is_right.ensures.ever is_right)
