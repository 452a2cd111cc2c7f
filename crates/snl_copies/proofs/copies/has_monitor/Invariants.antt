use Rattle.std.proofs.Common.{◌≡◌, drop}
use Rattle.std.specs.List.{list_any}
use Rattle.snl_copies.specs.Copies.{monitored_at}
use Rattle.snl_copies.specs.Tests.{is_at}
use Rattle.snl_copies.proofs.copies.has_monitor.Given as goal

abbrev pub invariant-loop-site : goal.invariant-loop-site
invariant-loop-site l = list_any (λ s. is_at l.variable (monitored_at s)) (drop l.site-index l.sites) ≡ list_any (λ s. is_at l.variable (monitored_at s)) l.sites
