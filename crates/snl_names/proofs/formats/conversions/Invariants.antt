use Rattle.std.proofs.Common.{◌≡◌, ◌≤◌, drop}
use Rattle.snl_names.specs.declared.formats.FormatState.TheVariants.{Plain}
use Rattle.snl_names.specs.Formats.{conversions}
use Rattle.snl_names.proofs.formats.conversions.Given as goal

abbrev pub invariant-loop-byte : goal.invariant-loop-byte
invariant-loop-byte l = (conversions l.state l.count (drop l.byte-index l.format) ≡ conversions Plain 0 l.format) × (l.count ≤ l.byte-index)
