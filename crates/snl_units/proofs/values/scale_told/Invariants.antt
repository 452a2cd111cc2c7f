use Rattle.std.proofs.Common.{◌≡◌, drop}
use Rattle.snl_units.specs.Values.{scale_told}
use Rattle.snl_units.proofs.values.scale_told.Given as goal

-- those before it say none
abbrev pub invariant-loop-one : goal.invariant-loop-one
invariant-loop-one l = scale_told (drop l.one-index l.units) l.name ≡ scale_told l.units l.name
