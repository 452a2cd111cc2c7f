use Rattle.std.proofs.Common.{◌≡◌, ◌++◌, drop, map}
use Rattle.snl_schedule.specs.Goes.{kept_in, kept_of, kept_view}
use Rattle.snl_schedule.proofs.goes.Goes.new.Given as goal

-- rows so far, and those that are left
abbrev pub invariant-loop-state : goal.invariant-loop-state
invariant-loop-state l =
    map (λ row. map kept_view row.items) l.rows.items ++ map (kept_in l.set l.states) (drop l.state-index l.states) ≡ kept_of l.set l.states
