use Rattle.std.proofs.Common.{◌≡◌, ℕ, nat_eq, drop}
use Rattle.std.specs.HashMap.{get}
use Rattle.snl_names.specs.Scopes.{or_in}
use Rattle.snl_rules.specs.Words.{first_queue}
use Rattle.snl_rules.proofs.queues.queue_sizes.Given as goal

abbrev pub invariant-loop-site : goal.invariant-loop-site
invariant-loop-site l =
    (variable : ℕ) → or_in (get nat_eq l.sizes variable) (first_queue (drop l.site-index l.sites) variable) ≡ first_queue l.sites variable
