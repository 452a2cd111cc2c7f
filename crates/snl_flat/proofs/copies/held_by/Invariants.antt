use Rattle.std.proofs.Common.{◌≡◌, ◌++◌, drop}
use Rattle.snl_syntax.specs.view.Programs.{program_view}
use Rattle.snl_flat.specs.Copies as spec
use Rattle.snl_flat.specs.Copies.{sets_of}
use Rattle.snl_flat.proofs.copies.held_by.Given as goal

-- copies so far, and those that are left
abbrev pub invariant-loop-set : goal.invariant-loop-set
invariant-loop-set l = let p = program_view l.program in sets_of l.sets.items ++ spec.held_sets p l.set (drop l.set p.state_sets) ≡ spec.held_sets p 0 p.state_sets
