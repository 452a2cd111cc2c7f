use Rattle.std.proofs.Common.{◌≡◌, ◌++◌, drop, map}
use Rattle.snl_syntax.specs.view.Programs.{clause_view}
use Rattle.snl_flat.specs.Starts.{table_of}
use Rattle.snl_load.specs.Plans as spec
use Rattle.snl_load.proofs.plans.clause_plans.Given as goal

-- plans so far, and those that are left
abbrev pub invariant-loop-clause : goal.invariant-loop-clause
invariant-loop-clause l =
    l.plans.items ++ spec.clause_plans l.states l.code.instrs.items (table_of l.code) l.set l.state l.clause (map clause_view (drop l.clause l.clauses))
    ≡ spec.clause_plans l.states l.code.instrs.items (table_of l.code) l.set l.state 0 (map clause_view l.clauses)
