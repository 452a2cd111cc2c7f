use Rattle.std.proofs.Common.{◌≡◌, ◌+◌, ◌-◌}
use Rattle.snl_meaning.specs.World.{zeroed}
use Rattle.snl_vm.proofs.elements.zero_from.Given as goal

-- the words that are left make what all of them make
abbrev pub invariant-loop-number : goal.invariant-loop-number
invariant-loop-number l = zeroed l.words.items (l.place + l.number) (l.count - l.number) ≡ zeroed l.fn.words.items l.place l.count
