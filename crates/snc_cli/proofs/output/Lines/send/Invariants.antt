use Rattle.std.proofs.Common.{◌≡◌, length}
use Rattle.snl_output.specs.Rooms.{held_in}
use Rattle.snc_cli.specs.Streams.{taken_by}
use Rattle.snc_cli.proofs.output.Lines.send.Given as goal

-- what went out and what is held are as before
abbrev pub invariant-send : goal.invariant-send
invariant-send l = record {
  told : taken_by l.self ≡ taken_by l.initial.self;
  failures : l.self.failures ≡ l.initial.self.failures;
}

abbrev pub decreases-send : goal.decreases-send
decreases-send l = length (held_in l.self.room)
