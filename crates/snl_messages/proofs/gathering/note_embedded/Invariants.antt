use Rattle.std.proofs.Common.{◌≡◌, ◌++◌, map, drop}
use Rattle.snl_messages.specs.Entries.{finding_in}
use Rattle.snl_messages.specs.Findings.{of_embedded}
use Rattle.snl_messages.proofs.gathering.note_embedded.Given as goal

abbrev pub invariant-loop-pos : goal.invariant-loop-pos
invariant-loop-pos l =
    map finding_in l.entries.items ++ map of_embedded (drop l.pos-index l.embedded)
    ≡ map finding_in l.initial.entries.items ++ map of_embedded l.embedded
