use Rattle.std.proofs.Common.{◌≡◌, drop}
use Rattle.std.specs.List.{list_any}
use Rattle.snl_copies.specs.Tests.{leads}
use Rattle.snl_copies.proofs.unwritten.has_lead.Given as goal

abbrev pub invariant-loop-touch : goal.invariant-loop-touch
invariant-loop-touch l = list_any (leads l.state) (drop l.touch-index l.code) ≡ list_any (leads l.state) l.code
