use Rattle.std.proofs.Common.{◌≡◌, drop, map}
use Rattle.snl_vm.specs.AllHomes.{homes_views, takers_of}
use Rattle.snl_vm.specs.Marks.{marks_of}
use Rattle.snl_vm.proofs.AllHomeLaws.{marked_in}
use Rattle.snl_vm.proofs.linking.mark.Given as goal

-- what is left of the state sets that have the variable gives what all of them give
abbrev pub invariant-loop-set : goal.invariant-loop-set
invariant-loop-set l =
    marked_in l.but l.link (drop l.set-index (takers_of l.link 0 (homes_views l.homes.sets.items))) (map marks_of l.marks.items)
    ≡ marked_in l.but l.link (takers_of l.link 0 (homes_views l.homes.sets.items)) (map marks_of l.fn.marks.items)
