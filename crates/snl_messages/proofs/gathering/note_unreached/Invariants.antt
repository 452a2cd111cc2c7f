use Rattle.std.proofs.Common.{◌≡◌, ◌++◌, map, drop}
use Rattle.snl_messages.specs.Entries.{finding_in}
use Rattle.snl_messages.specs.Findings.{of_unreached}
use Rattle.snl_messages.proofs.gathering.note_unreached.Given as goal

abbrev pub invariant-loop-name : goal.invariant-loop-name
invariant-loop-name l =
    map finding_in l.entries.items ++ map of_unreached (drop l.name-index l.names)
    ≡ map finding_in l.initial.entries.items ++ map of_unreached l.names
