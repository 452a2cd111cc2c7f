use Rattle.snl_syntax.specs.view.Programs.{program_view}
use Rattle.snl_cures.proofs.ReachLaws.{reaches}
use Rattle.snl_cures.proofs.reach.reach_of.Goals as goal

pub returns : goal.returns
returns c = reaches program_view c.args.lexed.now.tokens.items c.parse.result c.reach_of_found.result
    c.reach_of_found.ensures c.parse.ensures.found c.parse.ensures.unexpected c.parse.ensures.too_deep
