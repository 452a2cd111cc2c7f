use Rattle.std.proofs.Common.{◌≡◌, ◌+◌, ◌-◌, ◌≤◌, ◌++◌, length}
use Rattle.snl_meaning.specs.World.{words_at}
use Rattle.snl_vm.proofs.queues.append_all.Given as goal

-- the words that are left make what all of them make
abbrev pub invariant-loop-number : goal.invariant-loop-number
invariant-loop-number l = record {
  items : l.ring.items ++ words_at l.words (l.place + l.number) (l.count - l.number) ≡ l.initial.ring.items ++ words_at l.words l.place l.count;
  fits : length l.ring.items + (l.count - l.number) ≤ l.ring.capacity;
  same : l.ring.capacity ≡ l.initial.ring.capacity;
}
