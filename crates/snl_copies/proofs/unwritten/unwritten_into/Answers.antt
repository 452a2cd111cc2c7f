use Rattle.snl_syntax.specs.view.Programs.{program_view}
use Rattle.snl_copies.proofs.UnwrittenLaws.{found_law}
use Rattle.snl_copies.proofs.unwritten.unwritten_into.Goals as goal

pub returns : goal.returns
returns c u =
    found_law (program_view c.args.program.now) c.args.state.now c.args.uses.now c.args.set c.in_ok-copy.copy c.requires c.in_ok-copy.ensures u c.in_ok-found.found.items
    c.in_ok-found.ensures
