use Rattle.std.proofs.Common.{rules, true, [], slice_set}
use Rattle.snl_vm.specs.Marks.{marks_of}
use Rattle.snl_vm.proofs.Changes.{view_changed}
use Rattle.snl_vm.proofs.linking.mark_in.Goals as goal

pub returns-in-Some : goal.returns-in-Some
returns-in-Some c =
    view_changed marks_of c.args.marks.now.items c.args.set c.in-Some.of_set.now c.mark.new.self [] (λ ms. slice_set ms c.args.link true) (search rules) (search rules) c.mark.ensures
