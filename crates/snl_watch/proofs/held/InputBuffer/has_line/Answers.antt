use Rattle.std.proofs.lemmas.Bool.{ltb-false}
use Rattle.snl_watch.proofs.Windows.{none-behind}
use Rattle.snl_watch.proofs.held.InputBuffer.has_line.Goals as goal

pub returns-else-len-eq-ROOM-clause-rest : goal.returns-else-len-eq-ROOM-clause-rest
returns-else-len-eq-ROOM-clause-rest c isnt =
    let h = c.args.self.now in
    none-behind h.bytes.items h.lines_end h.from h.to (ltb-false h.from h.lines_end isnt) h.rest
