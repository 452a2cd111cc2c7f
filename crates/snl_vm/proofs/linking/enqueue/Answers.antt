use Rattle.std.proofs.Common.{rules}
use Rattle.snl_meaning.specs.Links.{no_queue, put_into}
use Rattle.snl_vm.specs.Queues.{queue_view}
use Rattle.snl_vm.proofs.Changes.{view_changed}
use Rattle.snl_vm.proofs.linking.enqueue.Goals as goal

pub returns-else-size-eq0-clause-put : goal.returns-else-size-eq0-clause-put
returns-else-size-eq0-clause-put c =
    view_changed queue_view c.args.queues.now.items c.args.link c.in-Some.queue.now c.put.new.self no_queue (put_into c.args.words.now c.args.place) (search rules) (search rules)
    (λ j. record { size = c.put.ensures.size j; width = c.put.ensures.width j; items = c.put.ensures.items j })
