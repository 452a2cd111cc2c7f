use Rattle.std.proofs.Common.{◌≡◌, ◌++◌, drop, map}
use Rattle.snl_syntax.specs.view.Programs.{state_view}
use Rattle.snl_flat.specs.Starts.{table_of}
use Rattle.snl_load.specs.Plans as spec
use Rattle.snl_load.proofs.plans.state_plans.Given as goal

-- plans so far, and those that are left
abbrev pub invariant-loop-number : goal.invariant-loop-number
invariant-loop-number l =
    map spec.state_view l.plans.items ++ spec.state_plans l.names l.code.instrs.items (table_of l.code) l.set l.number (map state_view (drop l.number l.states))
    ≡ spec.state_plans l.names l.code.instrs.items (table_of l.code) l.set 0 (map state_view l.states)
