use Rattle.std.proofs.Common.{◌≡◌, ◌++◌, map, drop}
use Rattle.snl_messages.specs.Entries.{finding_in}
use Rattle.snl_messages.specs.Findings.{of_overfull}
use Rattle.snl_messages.proofs.gathering.note_overfull.Given as goal

abbrev pub invariant-loop-word : goal.invariant-loop-word
invariant-loop-word l =
    map finding_in l.entries.items ++ map of_overfull (drop l.word-index l.words)
    ≡ map finding_in l.initial.entries.items ++ map of_overfull l.words
