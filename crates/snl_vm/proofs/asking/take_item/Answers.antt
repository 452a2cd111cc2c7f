use Rattle.std.proofs.Common.{◌∙◌, ◌≤◌, arith, rules, ap, length, map, sym, refl, drop}
use Rattle.std.proofs.lemmas.List.{get_or_past, length-map}
use Rattle.snl_meaning.specs.Links.{no_queue, queue_of}
use Rattle.snl_meaning.specs.World.{Queue, no_copy}
use Rattle.snl_vm.specs.Asking.{taken_out}
use Rattle.snl_vm.specs.Queues.{is_there, queue_view, oldest_to}
use Rattle.snl_vm.specs.Views.{copy_view, world_of}
use Rattle.snl_vm.proofs.Changes.{view_changed, view_there}
use Rattle.snl_vm.proofs.Taking.{none-set, taken-is, skipped-is}
use Rattle.snl_vm.proofs.asking.take_item.Goals as goal

pub returns-in-None-clause-there : goal.returns-in-None-clause-there
returns-in-None-clause-there c =
    let qs = c.args.store.now.queues.items in
    let beyond : length qs ≤ c.args.link = search rules in
    sym (ap (λ (q : Queue). is_there q.items) (get_or_past (map queue_view qs) c.args.link no_queue (omega (arith, length-map qs queue_view, beyond))))

pub returns-in-None-clause-taken : goal.returns-in-None-clause-taken
returns-in-None-clause-taken c =
    let w = world_of c.args.store.now in
    let qs = c.args.store.now.queues.items in
    let beyond : length qs ≤ c.args.link = search rules in
    sym (ap (λ (q : Queue). taken_out c.args.set c.args.place c.args.link q.items w)
    (get_or_past (map queue_view qs) c.args.link no_queue (omega (arith, length-map qs queue_view, beyond))))

pub returns-in-Some-get_mut-clause-there : goal.returns-in-Some-get_mut-clause-there
returns-in-Some-get_mut-clause-there c =
    let there = view_there queue_view c.args.store.now.queues.items c.args.link c.in-Some.queue.now no_queue (search rules) (search rules) in
    c.take.ensures.there ∙ sym (ap (λ (q : Queue). is_there q.items) there)

pub returns-in-None-get_mut-clause-there : goal.returns-in-None-get_mut-clause-there
returns-in-None-get_mut-clause-there c =
    let there = view_there queue_view c.args.store.now.queues.items c.args.link c.in-Some.queue.now no_queue (search rules) (search rules) in
    c.skip.ensures.there ∙ sym (ap (λ (q : Queue). is_there q.items) there)

pub returns-in-Some-get_mut-clause-taken : goal.returns-in-Some-get_mut-clause-taken
returns-in-Some-get_mut-clause-taken c =
    let w = world_of c.args.store.now in
    let qs = c.args.store.now.queues.items in
    let q = c.in-Some.queue.now in
    let old = c.in-Some-get_mut.copy.now in
    let place = c.args.place in
    let held = (queue_of c.args.link w).items in
    let there = view_there queue_view qs c.args.link q no_queue (search rules) (search rules) in
    let words = c.take.ensures.words ∙ ap (λ v. oldest_to v.items place old.words.items) (sym there) in
    let copies = view_changed copy_view c.args.store.now.copies.items c.args.set old (record old { words = c.take.new.words }) no_copy
    (λ k. record k { words = oldest_to held place k.words }) (search rules) (search rules) (ap (λ ws. record { words = ws; state = old.state; entered = old.entered }) words) in
    let queues = view_changed queue_view qs c.args.link q c.take.new.self no_queue (λ k. record k { items = drop 1 k.items }) (search rules) (search rules)
    (λ j. record { size = c.take.ensures.size j; width = c.take.ensures.width j; items = c.take.ensures.items j }) in
    (λ j. record w { copies = copies j; queues = queues j }) ∙ taken-is c.args.set place c.args.link held w refl

pub returns-in-None-get_mut-clause-taken : goal.returns-in-None-get_mut-clause-taken
returns-in-None-get_mut-clause-taken c =
    let w = world_of c.args.store.now in
    let qs = c.args.store.now.queues.items in
    let held = (queue_of c.args.link w).items in
    let queues = view_changed queue_view qs c.args.link c.in-Some.queue.now c.skip.new.self no_queue (λ k. record k { items = drop 1 k.items }) (search rules) (search rules)
    (λ j. record { size = c.skip.ensures.size j; width = c.skip.ensures.width j; items = c.skip.ensures.items j }) in
    (λ j. record w { queues = queues j })
    ∙ skipped-is c.args.set c.args.place c.args.link held w refl (λ k. none-set copy_view c.args.store.now.copies.items c.args.set k (search rules))
