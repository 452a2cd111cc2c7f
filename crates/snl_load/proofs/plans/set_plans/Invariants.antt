use Rattle.std.proofs.Common.{◌≡◌, ◌++◌, drop, map}
use Rattle.snl_syntax.specs.view.Programs.{state_set_view}
use Rattle.snl_flat.specs.Starts.{table_of}
use Rattle.snl_load.specs.Plans as spec
use Rattle.snl_load.proofs.plans.set_plans.Given as goal

-- plans so far, and those that are left
abbrev pub invariant-loop-number : goal.invariant-loop-number
invariant-loop-number l =
    map spec.set_view l.plans.items ++ spec.set_plans l.code.instrs.items (table_of l.code) l.number (map state_set_view (drop l.number l.sets))
    ≡ spec.set_plans l.code.instrs.items (table_of l.code) 0 (map state_set_view l.sets)
