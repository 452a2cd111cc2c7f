use Rattle.std.proofs.Common.{◌≡◌, ◌-◌, drop, length}
use Rattle.snl_vm.specs.Views.{world_of}
use Rattle.snl_schedule.specs.Refresh.{refreshed_from}
use Rattle.snl_schedule.proofs.refreshing.refresh.Given as goal

-- what is left of the links gives what all of them give, and what they are tied to stays
abbrev pub invariant-loop-link : goal.invariant-loop-link
invariant-loop-link l =
    (refreshed_from l.set l.from (drop l.from l.initial.store.ties.items) (world_of l.store) ≡ refreshed_from l.set 0 l.initial.store.ties.items (world_of l.initial.store))
    × (l.store.ties.items ≡ l.initial.store.ties.items)

-- each turn passes a link
abbrev pub decreases-loop-link : goal.decreases-loop-link
decreases-loop-link l = length l.store.ties.items - l.from
