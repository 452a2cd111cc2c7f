use Rattle.std.proofs.Common.{◌≡◌, ◌+◌, ◌≤◌}
use Rattle.snl_lints.specs.Columns.{column_at}
use Rattle.snl_lints.proofs.columns.forward.Given as goal

abbrev pub invariant-loop-at : goal.invariant-loop-at
invariant-loop-at l =
    record {
      counted : l.column ≡ column_at l.text l.at;
      small : l.column ≤ l.at + 1;
    }
