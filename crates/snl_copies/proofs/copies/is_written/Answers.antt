use Rattle.snl_syntax.specs.view.Programs.{program_view}
use Rattle.snl_copies.proofs.CopyLaws.{answer_decides}
use Rattle.snl_copies.proofs.copies.is_written.Goals as goal

pub returns : goal.returns
returns c =
    answer_decides (program_view c.args.program.now) c.args.uses.now c.args.set c.in_ok-copy.copy c.requires c.in_ok-copy.ensures c.args.variable c.is_written.result c.is_written.ensures
