use Rattle.std.proofs.Common.{◌≡◌, drop}
use Rattle.snl_units.specs.Values.{number_in}
use Rattle.snl_units.proofs.same.number_in.Given as goal

-- those before it are other texts
abbrev pub invariant-loop-one : goal.invariant-loop-one
invariant-loop-one l = number_in (drop l.one-index l.numbers) l.text ≡ number_in l.numbers l.text
