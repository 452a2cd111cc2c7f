use Rattle.std.proofs.Common.{◌≡◌, ◌+◌, ◌-◌}
use Rattle.snl_meaning.specs.World.{words_at, overwritten}
use Rattle.snl_vm.proofs.linking.overwrite_all.Given as goal

-- the words that are left make what all of them make
abbrev pub invariant-loop-number : goal.invariant-loop-number
invariant-loop-number l =
    overwritten l.words.items (l.to + l.number) (words_at l.others (l.from + l.number) (l.count - l.number)) ≡ overwritten l.fn.words.items l.to (words_at l.others l.from l.count)
