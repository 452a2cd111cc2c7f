use Rattle.std.proofs.Common.{◌≡◌, drop}
use Rattle.std.specs.List.{list_all}
use Rattle.snl_vm.specs.Views.{world_of}
use Rattle.snl_schedule.specs.Instant.{is_link_ready}
use Rattle.snl_schedule.proofs.starting.first_missing.Given as goal

-- those so far are ready, so the rest decides
abbrev pub invariant-loop-number : goal.invariant-loop-number
invariant-loop-number l = list_all (is_link_ready (world_of l.store)) (drop l.number l.links) ≡ list_all (is_link_ready (world_of l.store)) l.links
