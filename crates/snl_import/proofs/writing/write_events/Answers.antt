use Rattle.std.proofs.Common.{subst, sym, ◌∙◌}
use Rattle.snl_import.specs.Taken.{TellsTaken}
use Rattle.snl_import.proofs.WrittenLaws.{whole-front, on-err}
use Rattle.snl_import.proofs.writing.write_events.Goals as goal

pub returns-in_err-taken-clause-front : goal.returns-in_err-taken-clause-front
returns-in_err-taken-clause-front g c = on-err c.from_residual-in_err-taken.result _ (whole-front _ _ c.in_ok-hand_on.ensures.trace)

pub returns-clause-front : goal.returns-clause-front
returns-clause-front g c = whole-front _ _ c.loop.invariant.trace

pub hand_on-requires-clause-taken : goal.hand_on-requires-clause-taken
hand_on-requires-clause-taken g c =
    subst (λ p. TellsTaken (g.P.Program.taken p) (g.K.Sink.told c.loop.sink)) (sym (c.take_block-taken.ensures.program ∙ c.loop.invariant.program)) c.loop.invariant.taken
