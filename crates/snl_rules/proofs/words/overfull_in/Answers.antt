use Rattle.snl_rules.proofs.OverfullLaws.{found_all}
use Rattle.snl_rules.proofs.words.overfull_in.Goals as goal

pub returns : goal.returns
returns c =
    found_all c.args.program.now c.as_slice.result.now c.new-found.result.items c.push_overfull.new.found.items
    c.as_slice.ensures.value c.new-found.ensures.items c.in_ok-push_overfull.ensures
