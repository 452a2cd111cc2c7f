use Rattle.std.proofs.Common.{◌∙◌, ap}
use Rattle.snl_vm.specs.Views.{world_of}
use Rattle.snl_schedule.specs.Arrivals.{received_link}
use Rattle.snl_schedule.specs.Linked.{done_over}
use Rattle.snl_schedule.specs.Loaded.{loaded, program_of}
use Rattle.snl_schedule.proofs.Rows.{over_links, receives_idle}
use Rattle.snl_schedule.proofs.arrivals.receive_all.Goals as goal

pub returns : goal.returns
returns c =
    let p = program_of (loaded c.args.program.now) in
    let w = world_of c.args.store.now in
    let act = received_link c.args.channel c.args.values.now in
    c.receive_over.ensures ∙ ap (λ row. done_over p act row w) c.links_of.ensures ∙ over_links p c.args.channel act (receives_idle c.args.channel c.args.values.now) w
