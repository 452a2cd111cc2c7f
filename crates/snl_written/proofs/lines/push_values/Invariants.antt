use Rattle.std.proofs.Common.{◌≡◌, ◌++◌, map, drop}
use Rattle.std.specs.Fmt.{signed_decimal}
use Rattle.std.specs.List.{flat_map}
use Rattle.snl_written.specs.Written.{spaced}
use Rattle.snl_written.proofs.lines.push_values.Given as goal

abbrev pub invariant-loop-value : goal.invariant-loop-value
invariant-loop-value l =
    l.out.items ++ flat_map spaced (map signed_decimal (drop l.value-index l.values)) ≡ l.initial.out.items ++ flat_map spaced (map signed_decimal l.values)
