use Rattle.snl_import.proofs.WrittenLaws.{on-err, whole-front}
use Rattle.snl_import.proofs.importing.imported_by.Goals as goal

pub returns-in_err-imported_of-clause-front : goal.returns-in_err-imported_of-clause-front
returns-in_err-imported_of-clause-front g c = on-err c.from_residual-in_err-imported_of.result _ (whole-front _ _ c.in_ok-write_events.ensures.trace)
