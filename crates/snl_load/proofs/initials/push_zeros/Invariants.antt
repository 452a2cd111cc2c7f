use Rattle.std.proofs.Common.{◌≡◌, ◌++◌, ◌-◌, pos}
use Rattle.std.specs.Prelude.{replicate}
use Rattle.snl_load.proofs.initials.push_zeros.Given as goal

-- zeros so far, and those that are left
abbrev pub invariant-loop-more : goal.invariant-loop-more
invariant-loop-more l = l.words.items ++ replicate (l.count - l._more) (pos 0) ≡ l.fn.words.items ++ replicate l.count (pos 0)
