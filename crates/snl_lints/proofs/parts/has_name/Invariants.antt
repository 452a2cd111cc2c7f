use Rattle.std.proofs.Common.{◌≡◌, drop}
use Rattle.std.specs.List.{list_any}
use Rattle.snl_lints.specs.Touches.{is_channel}
use Rattle.snl_lints.proofs.parts.has_name.Given as goal

abbrev pub invariant-loop-name : goal.invariant-loop-name
invariant-loop-name l = list_any is_channel (drop l.name-index l.names) ≡ list_any is_channel l.names
