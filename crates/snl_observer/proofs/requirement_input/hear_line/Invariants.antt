use Rattle.std.proofs.Common.{◌≡◌, map, take}
use Rattle.snl_observer.specs.Lasting.{lasting_of}
use Rattle.snl_observer.specs.Watching.{Led}
use Rattle.snl_observer.proofs.requirement_input.hear_line.Given as goal

-- the first events led the requirement so far
abbrev pub invariant-loop-event : goal.invariant-loop-event
invariant-loop-event g l = record {
  led : Led (map (λ event. event.items) (take l.event-index l.event-items)) l.initial.watch.machine l.watch.machine l.initial.log.page.watch.bytes l.log.page.watch.bytes
      l.initial.log.how l.log.how;
  run : l.log.page.run.bytes ≡ l.initial.log.page.run.bytes;
  lasts : lasting_of l.watch ≡ lasting_of l.initial.watch;
}
