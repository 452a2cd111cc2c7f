use Rattle.std.proofs.Common.{◌≡◌, ℕ, nat_eq, take}
use Rattle.std.specs.HashSet.{contains}
use Rattle.std.specs.List.{list_any}
use Rattle.snl_rules.specs.Tests.{uses_declared}
use Rattle.snl_rules.proofs.facts.note_uses.Given as goal

abbrev pub invariant-loop-site : goal.invariant-loop-site
invariant-loop-site l = (v : ℕ) → contains nat_eq l.used v ≡ list_any (uses_declared v) (take l.site-index l.sites)
