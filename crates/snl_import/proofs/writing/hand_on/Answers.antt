use Rattle.snl_import.proofs.TakenLaws.{taken-more, taken-cut}
use Rattle.snl_import.proofs.WrittenLaws.{goes-on, broken, on-err}
use Rattle.snl_import.proofs.writing.hand_on.Goals as goal

pub returns-in_err-send-clause-front : goal.returns-in_err-send-clause-front
returns-in_err-send-clause-front g c =
    let old = c.args.importer.now in
    on-err c.from_residual.result _
    (broken _ _ (old.recorder.first, old.recorder.before) (old.recorder.last, old.counts.written) c.text.result.now c.requires.trace c.text.ensures.events c.in_err-send.ensures.told)

pub returns-in_err-send-clause-taken : goal.returns-in_err-send-clause-taken
returns-in_err-send-clause-taken g c =
    let old = c.args.importer.now in
    taken-cut (g.P.Program.taken old.recorder.program) _ _ (old.recorder.first, old.recorder.before) c.text.result.now c.requires.trace c.requires.taken c.text.ensures.taken
    c.in_err-send.ensures.told

pub returns-clause-trace : goal.returns-clause-trace
returns-clause-trace g c =
    let old = c.args.importer.now in
    rw c.clear.ensures.first (rw c.clear.ensures.before (rw c.in_ok-send.ensures.told
    (goes-on (g.K.Sink.told c.args.sink.now) (old.recorder.first, old.recorder.before) (old.recorder.last, old.counts.written) c.text.result.now c.requires.trace c.text.ensures.events)))

pub returns-clause-taken : goal.returns-clause-taken
returns-clause-taken g c =
    let old = c.args.importer.now in
    rw c.in_ok-send.ensures.told
    (taken-more (g.P.Program.taken old.recorder.program) (g.K.Sink.told c.args.sink.now) (old.recorder.first, old.recorder.before) c.text.result.now c.requires.trace c.requires.taken
    c.text.ensures.taken)
