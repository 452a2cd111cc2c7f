use Rattle.std.proofs.Common.{◌≡◌, ◌+◌, ◌-◌}
use Rattle.snl_meaning.specs.World.{words_at, overwritten}
use Rattle.snl_vm.proofs.queues.copy_front.Given as goal

-- the words that are left make what all of them make
abbrev pub invariant-loop-number : goal.invariant-loop-number
invariant-loop-number l =
    overwritten l.words.items (l.place + l.number) (words_at l.ring.items l.number (l.count - l.number))
    ≡ overwritten l.initial.words.items l.place (words_at l.ring.items 0 l.count)
