use Rattle.std.proofs.Common.{map}
use Rattle.snl_syntax.specs.view.Programs.{state_set_view}
use Rattle.snl_flat.proofs.Marked.{AreMarkedTo}
use Rattle.snl_flat.proofs.compiling.reached_sets.Given as goal

abbrev pub invariant-loop-set : goal.invariant-loop-set
invariant-loop-set l = AreMarkedTo l.set-index (map state_set_view l.sets) l.marks.items
