use Rattle.std.proofs.Common.{◌≡◌, ◌-◌, ℕ, suc, length}
use Rattle.snl_vm.specs.Rows.{row_in, rows_of}
use Rattle.snl_vm.proofs.rows.Rows.reach.Given as goal

-- no row has changed
abbrev pub invariant-loop-alloc : goal.invariant-loop-alloc
invariant-loop-alloc l = (other : ℕ) → row_in (rows_of l.self) other ≡ row_in (rows_of l.fn.self) other

-- the rows that are missing
abbrev pub decreases-loop-alloc : goal.decreases-loop-alloc
decreases-loop-alloc l = suc l.key - length l.self.rows.items
