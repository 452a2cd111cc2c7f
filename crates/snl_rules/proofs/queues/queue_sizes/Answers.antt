use Rattle.std.proofs.Common.{nat_eq, ap, ◌∙◌}
use Rattle.std.specs.HashMap.{get}
use Rattle.snl_names.specs.Scopes.{or_in}
use Rattle.snl_rules.specs.Words.{queue_at}
use Rattle.snl_rules.proofs.QueueLaws.{queue_step_at, queue_end}
use Rattle.snl_rules.proofs.queues.queue_sizes.Goals as goal

pub loop-site-preserved : goal.loop-site-preserved
loop-site-preserved c =
    queue_step_at c.args.sites.now c.loop-site.site-index _ (get nat_eq c.loop-site.sizes) (get nat_eq c.note_queue.new.sizes)
    c.loop-site-test.true c.loop-site.invariant
    (λ q. c.in_ok-note_queue.ensures q ∙ ap (λ x. or_in (get nat_eq c.loop-site.sizes q) (queue_at x q)) c.queue_by.ensures)

pub returns : goal.returns
returns c = queue_end c.args.sites.now c.loop-site.site-index (get nat_eq c.loop-site.sizes) c.loop-site-test.false c.loop-site.invariant
