use Rattle.std.proofs.Common.{◌≡◌, ◌+◌, drop}
use Rattle.std.specs.List.{sum_by}
use Rattle.snl_vm.specs.Footprint.{queue_words}
use Rattle.snl_vm.proofs.room.with_queues.Given as goal

-- the words so far, and those that are left
abbrev pub invariant-loop-queue : goal.invariant-loop-queue
invariant-loop-queue l = l.words + sum_by queue_words (drop l.queue-index l.queues) ≡ l.fn.sum + sum_by queue_words l.queues
