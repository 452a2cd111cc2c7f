use Rattle.snl_channels.proofs.MacroLaws.{noted}
use Rattle.snl_channels.proofs.macros.MacroTable.note.Goals as goal

pub returns-in_ok-insert : goal.returns-in_ok-insert
returns-in_ok-insert c =
    noted c.args.self.now.values c.insert.new.self c.in-Some.defined.name c.in-Some.defined.value _ c.in_ok-insert.ensures.updates.0 c.in-Some.ensures
