use Rattle.std.proofs.Common.{◌≡◌, drop}
use Rattle.snl_load.specs.Places as spec
use Rattle.snl_load.proofs.links.variable_among.Given as goal

-- no copy so far has it, so the rest decides
abbrev pub invariant-loop-places : goal.invariant-loop-places
invariant-loop-places l = spec.variable_among (drop l.places-index l.copies) l.offset ≡ spec.variable_among l.copies l.offset
