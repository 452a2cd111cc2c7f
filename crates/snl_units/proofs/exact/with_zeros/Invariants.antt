use Rattle.std.proofs.Common.{◌≡◌, ◌-◌, ◌*◌, ◌^◌}
use Rattle.snl_units.proofs.exact.with_zeros.Given as goal

-- with the zeros that are left it is the number with all
abbrev pub invariant-loop : goal.invariant-loop
invariant-loop l = l.number * 10 ^ (l.zeros - l.counter) ≡ l.fn.number * 10 ^ l.zeros
