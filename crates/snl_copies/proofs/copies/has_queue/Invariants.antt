use Rattle.std.proofs.Common.{◌≡◌, drop}
use Rattle.std.specs.List.{list_any}
use Rattle.snl_copies.specs.Copies.{queued_at}
use Rattle.snl_copies.specs.Tests.{is_at}
use Rattle.snl_copies.proofs.copies.has_queue.Given as goal

abbrev pub invariant-loop-site : goal.invariant-loop-site
invariant-loop-site l = list_any (λ s. is_at l.variable (queued_at s)) (drop l.site-index l.sites) ≡ list_any (λ s. is_at l.variable (queued_at s)) l.sites
