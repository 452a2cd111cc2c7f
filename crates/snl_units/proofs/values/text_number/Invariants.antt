use Rattle.std.proofs.Common.{◌≡◌, drop}
use Rattle.snl_units.specs.Values.{text_number}
use Rattle.snl_units.proofs.values.text_number.Given as goal

-- those before it gave none
abbrev pub invariant-loop-one : goal.invariant-loop-one
invariant-loop-one l = text_number (drop l.one-index l.units) l.name l.text ≡ text_number l.units l.name l.text
