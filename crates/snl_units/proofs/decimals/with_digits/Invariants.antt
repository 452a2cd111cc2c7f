use Rattle.std.proofs.Common.{◌≡◌, drop}
use Rattle.snl_units.specs.Exact.{number_behind}
use Rattle.snl_units.proofs.decimals.with_digits.Given as goal

-- with those that are left it is the number of all
abbrev pub invariant-loop-digit : goal.invariant-loop-digit
invariant-loop-digit l = number_behind l.number (drop l.digit-index l.digits) ≡ number_behind l.fn.number l.digits
