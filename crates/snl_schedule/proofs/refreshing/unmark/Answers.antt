use Rattle.std.proofs.Common.{rules, ap, false, [], slice_set}
use Rattle.snl_vm.specs.Views.{world_of}
use Rattle.snl_vm.specs.Marks.{marks_of}
use Rattle.snl_vm.proofs.Changes.{view_changed}
use Rattle.snl_schedule.proofs.refreshing.unmark.Goals as goal

pub returns-in-Some : goal.returns-in-Some
returns-in-Some c =
    let w = world_of c.args.store.now in
    ap (λ ms. record w { marks = ms })
    (view_changed marks_of c.args.store.now.marks.items c.args.set c.in-Some.marks.now c.unmark.new.self [] (λ ms. slice_set ms c.args.link false) (search rules) (search rules) c.unmark.ensures)
