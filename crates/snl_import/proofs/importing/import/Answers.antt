use Rattle.std.proofs.Common.{subst, sym}
use Rattle.snl_import.specs.Taken.{TellsTaken}
use Rattle.snl_import.proofs.TakenLaws.{fresh-taken}
use Rattle.snl_import.proofs.WrittenLaws.{fresh-front, on-err}
use Rattle.snl_import.proofs.importing.import.Goals as goal

pub returns-in_err-begin-clause-front : goal.returns-in_err-begin-clause-front
returns-in_err-begin-clause-front g c = on-err c.from_residual.result _ (fresh-front _ c.requires.fresh)

pub returns-in_err-advance_all-clause-front : goal.returns-in_err-advance_all-clause-front
returns-in_err-advance_all-clause-front g c = on-err c.from_residual-in_err-advance_all.result _ (fresh-front _ c.requires.fresh)

pub returns-in_err-begin-clause-taken : goal.returns-in_err-begin-clause-taken
returns-in_err-begin-clause-taken g c = fresh-taken _ _ c.requires.fresh

pub returns-in_err-advance_all-clause-taken : goal.returns-in_err-advance_all-clause-taken
returns-in_err-advance_all-clause-taken g c = fresh-taken _ _ c.requires.fresh

pub returns-in_err-channels-clause-taken : goal.returns-in_err-channels-clause-taken
returns-in_err-channels-clause-taken g c = c.write_front.ensures.taken (g.P.Program.taken c.args.program)

pub imported_by-requires-clause-taken : goal.imported_by-requires-clause-taken
imported_by-requires-clause-taken g c =
    subst (λ p. TellsTaken (g.P.Program.taken p) (g.K.Sink.told c.write_front.new.sink)) (sym c.new-importer.ensures.program)
    (c.write_front.ensures.taken (g.P.Program.taken c.args.program))

pub returns-clause-taken : goal.returns-clause-taken
returns-clause-taken g c =
    subst (λ p. TellsTaken (g.P.Program.taken p) (g.K.Sink.told c.imported_by.new.sink)) c.new-importer.ensures.program c.imported_by.ensures.taken
