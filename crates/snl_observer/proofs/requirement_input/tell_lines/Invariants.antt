use Rattle.std.proofs.Common.{◌≡◌, length, map}
use Rattle.snl_outline.specs.Names.{seen}
use Rattle.snl_observer.proofs.TellLaws.{IsWay}
use Rattle.snl_observer.specs.Lasting.{lasting_of}
use Rattle.snl_observer.proofs.requirement_input.tell_lines.Given as goal

-- the lines before what is left were heard of, and written
abbrev pub invariant-loop-line : goal.invariant-loop-line
invariant-loop-line g l = record {
  way : IsWay (map seen l.sets) l.until l.text l.left l.initial.watch.machine l.watch.machine l.initial.log.page.watch.bytes l.log.page.watch.bytes l.initial.log.how l.log.how
      l.initial.log.page.run.bytes l.log.page.run.bytes;
  lasts : lasting_of l.watch ≡ lasting_of l.initial.watch;
}

abbrev pub decreases-loop-line : goal.decreases-loop-line
decreases-loop-line g l = length l.left
