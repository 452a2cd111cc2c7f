use Rattle.std.proofs.Common.{arith, rules}
use Rattle.std.proofs.lemmas.List.{take_rest}
use Rattle.snl_output.proofs.Writing.{failed-wrote, takes-more, takes-no_more, takes-nothing}
use Rattle.snl_watch.proofs.writer.write_whole.Goals as goal

pub returns-in_err-taken-clause-told : goal.returns-in_err-taken-clause-told
returns-in_err-taken-clause-told g c =
    failed-wrote _ _ _ _ c.from_residual.ensures.0
    (takes-no_more _ _ _ c.args.piece.now c.loop-written.written (omega (arith, c.loop-written-test.true)) c.loop-written.invariant.told
    c.in_err-taken.ensures.untaken)

pub returns-then-taken-eq0-clause-told : goal.returns-then-taken-eq0-clause-told
returns-then-taken-eq0-clause-told g c =
    takes-no_more _ _ _ c.args.piece.now c.loop-written.written (omega (arith, c.loop-written-test.true)) c.loop-written.invariant.told
    (takes-nothing _ _ _ c.in_ok-taken.taken c.in_ok-taken.ensures.taken c.if-taken-eq0.true)

pub loop-written-preserved : goal.loop-written-preserved
loop-written-preserved g c =
    let taken = rw take_rest at c.in_ok-taken.ensures.taken in
    record {
      within = search rules;
      told = takes-more _ _ _ c.args.piece.now c.loop-written.written c.in_ok-taken.taken c.loop-written.invariant.told taken;
      none_failed = search rules;
    }
