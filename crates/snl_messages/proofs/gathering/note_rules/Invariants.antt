use Rattle.std.proofs.Common.{◌≡◌, ◌++◌, map, drop}
use Rattle.snl_messages.specs.Entries.{finding_in}
use Rattle.snl_messages.specs.Findings.{of_broken}
use Rattle.snl_messages.proofs.gathering.note_rules.Given as goal

abbrev pub invariant-loop-next : goal.invariant-loop-next
invariant-loop-next l =
    map finding_in l.entries.items ++ map of_broken (drop l.next-index l.broken)
    ≡ map finding_in l.initial.entries.items ++ map of_broken l.broken
