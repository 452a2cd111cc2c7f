use Rattle.snl_import.proofs.TakenLaws.{comments-taken, fresh-taken, taken-more, taken-cut}
use Rattle.snl_import.proofs.WrittenLaws.{comments-first, comments-broken, fresh-trace, on-err}
use Rattle.snl_import.proofs.writing.write_comments.Goals as goal

pub returns-in_err-send-clause-front : goal.returns-in_err-send-clause-front
returns-in_err-send-clause-front g c =
    on-err c.from_residual.result _ (comments-broken _ _ c.text.result.now c.requires.fresh c.text.ensures c.in_err-send.ensures.told)

pub returns-in_err-send-clause-taken : goal.returns-in_err-send-clause-taken
returns-in_err-send-clause-taken g c taken =
    taken-cut taken _ _ (0, 0) c.text.result.now (fresh-trace _ c.requires.fresh) (fresh-taken taken _ c.requires.fresh) (comments-taken taken _ c.text.ensures) c.in_err-send.ensures.told

pub returns-clause-trace : goal.returns-clause-trace
returns-clause-trace g c =
    rw c.in_ok-send.ensures.told (comments-first (g.K.Sink.told c.args.sink.now) c.text.result.now c.requires.fresh c.text.ensures)

pub returns-clause-taken : goal.returns-clause-taken
returns-clause-taken g c taken =
    rw c.in_ok-send.ensures.told (taken-more taken (g.K.Sink.told c.args.sink.now) (0, 0) c.text.result.now (fresh-trace _ c.requires.fresh) (fresh-taken taken _ c.requires.fresh)
    (comments-taken taken _ c.text.ensures))
