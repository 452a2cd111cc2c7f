use Rattle.std.proofs.Common.{◌≡◌, map, drop}
use Rattle.snl_messages.specs.Messages.{said}
use Rattle.snl_check.specs.Accepted.{has_no_error}
use Rattle.snl_check.proofs.findings.has_no_error.Given as goal

abbrev pub invariant-loop-message : goal.invariant-loop-message
invariant-loop-message l = has_no_error (map said (drop l.message-index l.messages)) ≡ has_no_error (map said l.messages)
