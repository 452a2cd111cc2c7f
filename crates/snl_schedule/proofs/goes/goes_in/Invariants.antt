use Rattle.std.proofs.Common.{◌≡◌, ◌++◌, drop, map}
use Rattle.snl_schedule.specs.Goes.{kept_for, kept_in, kept_view}
use Rattle.snl_schedule.proofs.goes.goes_in.Given as goal

-- lines so far, and those that are left
abbrev pub invariant-loop-clause : goal.invariant-loop-clause
invariant-loop-clause l =
    map kept_view l.row.items ++ map (kept_for l.set l.states l.state.name.items) (drop l.clause-index l.state.clauses.items) ≡ kept_in l.set l.states l.state
