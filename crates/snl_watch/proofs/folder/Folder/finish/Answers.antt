use Rattle.std.proofs.Common.{◌≡◌, length, arith}
use Rattle.snl_watch.proofs.FoldLaws.{finished-by, none-of}
use Rattle.snl_watch.proofs.folder.Folder.finish.Goals as goal

pub returns-clause-folded : goal.returns-clause-folded
returns-clause-folded g c =
    let settled = c.settle.new.self in
    let empty : length settled.line.items ≡ 0 = grind arith in
    finished-by c.write_last.result settled.line.items c.as_slice.result.now c.noted.result.now settled.recent settled.block (g.W.Sink.told settled.witness) (g.K.Sink.told settled.inner)
    (g.K.Sink.told c.write.new.sink) (g.K.Sink.told c.write_last.new.sink) (settled.folds c.if-self.false) (none-of settled.line.items empty)
    c.as_slice.ensures c.noted.ensures
    c.in_ok-write.ensures.told c.write_last.ensures.told
