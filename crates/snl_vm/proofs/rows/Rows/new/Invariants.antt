use Rattle.std.proofs.Common.{◌≡◌, ◌++◌, ℕ, drop}
use Rattle.snl_vm.specs.Rows.{row_in, rows_of, numbers_of}
use Rattle.snl_vm.proofs.rows.Rows.new.Given as goal

-- a row, and the numbers that are still to come to it
abbrev pub invariant-loop-number : goal.invariant-loop-number
invariant-loop-number l = (key : ℕ) → row_in (rows_of l.rows) key ++ numbers_of key l.number (drop l.number l.keys) ≡ numbers_of key 0 l.keys
