use Rattle.std.proofs.Common.{◌≡◌, ◌++◌, drop, map}
use Rattle.snl_channels.specs.LinkViews.{link_view}
use Rattle.snl_vm.specs.Queues.{queue_view}
use Rattle.snl_load.specs.First as spec
use Rattle.snl_load.proofs.first.queues_of.Given as goal

-- queues so far, and those that are left
abbrev pub invariant-loop-link : goal.invariant-loop-link
invariant-loop-link l =
    map queue_view l.queues.items ++ map spec.first_queue (map link_view (drop l.link-index l.links)) ≡ map spec.first_queue (map link_view l.links)
