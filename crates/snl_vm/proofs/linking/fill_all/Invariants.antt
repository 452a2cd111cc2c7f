use Rattle.std.proofs.Common.{◌≡◌, ◌+◌, drop}
use Rattle.snl_meaning.specs.World.{overwritten}
use Rattle.snl_vm.proofs.linking.fill_all.Given as goal

-- the numbers that are left make what all of them make
abbrev pub invariant-loop-after : goal.invariant-loop-after
invariant-loop-after l = overwritten l.words.items (l.place + l.after) (drop l.after l.numbers) ≡ overwritten l.fn.words.items l.place l.numbers
