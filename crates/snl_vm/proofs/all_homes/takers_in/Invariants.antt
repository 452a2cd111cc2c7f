use Rattle.std.proofs.Common.{◌≡◌, ◌++◌, ℕ, drop}
use Rattle.snl_vm.specs.AllHomes.{homes_views, takers_of}
use Rattle.snl_vm.specs.Rows.{row_in, rows_of}
use Rattle.snl_vm.proofs.all_homes.takers_in.Given as goal

-- a row, and the state sets that are still to come to it
abbrev pub invariant-loop-set : goal.invariant-loop-set
invariant-loop-set l = (link : ℕ) → row_in (rows_of l.rows) link ++ takers_of link l.set (homes_views (drop l.set l.sets)) ≡ takers_of link 0 (homes_views l.sets)
