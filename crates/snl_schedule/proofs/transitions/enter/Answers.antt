use Rattle.std.proofs.Common.{rules, ap, if◌then◌else◌}
use Rattle.snl_meaning.specs.World.{no_copy}
use Rattle.snl_vm.specs.Views.{copy_view, world_of}
use Rattle.snl_vm.proofs.Changes.{view_changed}
use Rattle.snl_schedule.proofs.transitions.enter.Goals as goal

pub returns-then-is_timed : goal.returns-then-is_timed
returns-then-is_timed c =
    let w = world_of c.args.store.now in
    ap (λ cs. record w { copies = cs })
    (view_changed copy_view c.args.store.now.copies.items c.args.set c.in-Some.copy.now _ no_copy
    (λ k. record k { state = c.args.state; entered = if c.args.is_timed then c.args.store.now.time else k.entered }) (search rules) (search rules) (search rules))

pub returns-else-is_timed : goal.returns-else-is_timed
returns-else-is_timed c =
    let w = world_of c.args.store.now in
    ap (λ cs. record w { copies = cs })
    (view_changed copy_view c.args.store.now.copies.items c.args.set c.in-Some.copy.now _ no_copy
    (λ k. record k { state = c.args.state; entered = if c.args.is_timed then c.args.store.now.time else k.entered }) (search rules) (search rules) (search rules))
