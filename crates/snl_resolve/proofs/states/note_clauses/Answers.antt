use Rattle.snl_resolve.specs.Seen.{sight_of}
use Rattle.snl_resolve.proofs.ProgramLaws.{clauses_step}
use Rattle.snl_resolve.proofs.states.note_clauses.Goals as goal

pub loop-clause-preserved : goal.loop-clause-preserved
loop-clause-preserved c =
    clauses_step (sight_of c.args.sight.now) c.args.states.now c.args.clauses.now c.loop-clause.clause-index c.clause-item.result c.loop-clause.is_blocked c.is_always_true-is_blocked.result
    c.loop-clause.sites.items c.note_clause.new.sites.items _ c.loop-clause-test.true c.clause-item.is c.loop-clause.invariant
    c.in_ok-note_clause.ensures c.is_always_true-is_blocked.ensures
