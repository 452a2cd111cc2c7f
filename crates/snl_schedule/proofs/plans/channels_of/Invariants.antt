use Rattle.std.proofs.Common.{◌≡◌, ◌++◌, drop, map}
use Rattle.snl_schedule.proofs.plans.channels_of.Given as goal

-- channels so far, and those that are left
abbrev pub invariant-loop-link : goal.invariant-loop-link
invariant-loop-link l = l.channels.items ++ map (λ k. k.channel) (drop l.link-index l.links) ≡ map (λ k. k.channel) l.links
