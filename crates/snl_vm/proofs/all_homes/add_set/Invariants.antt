use Rattle.std.proofs.Common.{◌≡◌, ◌++◌, ℕ, take}
use Rattle.snl_vm.specs.AllHomes.{taken_by}
use Rattle.snl_vm.specs.Rows.{row_in, rows_of}
use Rattle.snl_vm.proofs.all_homes.add_set.Given as goal

-- the rows by the places that came so far
abbrev pub invariant-loop-link : goal.invariant-loop-link
invariant-loop-link l = (link : ℕ) → row_in (rows_of l.rows) link ≡ row_in (rows_of l.fn.rows) link ++ taken_by l.set (take l.link l.homes.places.items) link
