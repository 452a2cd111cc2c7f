use Rattle.std.proofs.Common.{rules, ◌≤◌, List, [], ap, length, sym}
use Rattle.snl_meaning.specs.Links.{no_queue, queue_of}
use Rattle.snl_meaning.specs.World.{Queue}
use Rattle.snl_vm.specs.Queues.{queue_view}
use Rattle.snl_vm.specs.Views.{world_of}
use Rattle.snl_vm.proofs.Changes.{view_changed}
use Rattle.snl_vm.proofs.Taking.{none-set}
use Rattle.snl_vm.proofs.asking.flush.Goals as goal

pub returns-in-Some : goal.returns-in-Some
returns-in-Some c =
    let w = world_of c.args.store.now in
    ap (λ qs. record w { queues = qs })
    (view_changed queue_view c.args.store.now.queues.items c.args.link c.in-Some.queue.now c.flush.new.self no_queue (λ q. record q { items = [] }) (search rules) (search rules)
    (λ j. record { size = c.flush.ensures.size j; width = c.flush.ensures.width j; items = c.flush.ensures.items j }))

pub returns-in_default : goal.returns-in_default
returns-in_default c =
    let w = world_of c.args.store.now in
    let qs = c.args.store.now.queues.items in
    let beyond : length qs ≤ c.args.link = search rules in
    ap (λ (all : List Queue). record w { queues = all }) (sym (none-set queue_view qs c.args.link (record (queue_of c.args.link w) { items = [] }) beyond))
