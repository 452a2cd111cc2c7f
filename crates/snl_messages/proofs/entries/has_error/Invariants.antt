use Rattle.std.proofs.Common.{◌≡◌, map, drop}
use Rattle.snl_messages.specs.Entries.{finding_in}
use Rattle.snl_messages.specs.Lists.{has_error}
use Rattle.snl_messages.proofs.entries.has_error.Given as goal

abbrev pub invariant-loop-entry : goal.invariant-loop-entry
invariant-loop-entry l = has_error (map finding_in (drop l.entry-index l.entries)) ≡ has_error (map finding_in l.entries)
