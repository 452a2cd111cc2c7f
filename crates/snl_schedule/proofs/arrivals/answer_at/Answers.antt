use Rattle.std.proofs.Common.{◌≡◌, ◌∙◌, ◌<◌, ◌≤◌, length, get_or, rules}
use Rattle.snl_vm.specs.Views.{world_of}
use Rattle.snl_schedule.specs.Arrivals.{answered_link}
use Rattle.snl_schedule.specs.Loaded.{loaded, program_of}
use Rattle.snl_schedule.proofs.Rows.{at-there, at-none}
use Rattle.snl_schedule.proofs.arrivals.answer_at.Goals as goal

pub returns-in-Some : goal.returns-in-Some
returns-in-Some c =
    let p = program_of (loaded c.args.program.now) in
    let l = c.in-Some.link.now in
    let within : c.args.number < length p.links = search rules in
    let is : l ≡ get_or p.links c.args.number l = search rules in
    c.answer_link.ensures ∙ at-there p (answered_link c.args.channel) c.args.number l (world_of c.args.store.now) within is

pub returns-in_default : goal.returns-in_default
returns-in_default c =
    let p = program_of (loaded c.args.program.now) in
    let beyond : length p.links ≤ c.args.number = search rules in
    at-none p (answered_link c.args.channel) c.args.number (world_of c.args.store.now) beyond
