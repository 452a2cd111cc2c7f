use Rattle.std.proofs.Common.{rules, ◌≤◌, arith, ap, length, map, sym}
use Rattle.std.proofs.lemmas.List.{get_or_past, length-map}
use Rattle.snl_meaning.specs.Links.{no_queue}
use Rattle.snl_meaning.specs.World.{Queue}
use Rattle.snl_vm.specs.Queues.{is_there, queue_view}
use Rattle.snl_vm.proofs.asking.has_item.Goals as goal

pub returns-in-None : goal.returns-in-None
returns-in-None c =
    let qs = c.args.store.now.queues.items in
    let beyond : length qs ≤ c.args.link = search rules in
    sym (ap (λ (q : Queue). is_there q.items) (get_or_past (map queue_view qs) c.args.link no_queue (omega (arith, length-map qs queue_view, beyond))))
