use Rattle.std.proofs.Common.{◌≡◌, ℕ, nat_eq, take}
use Rattle.std.specs.HashMap.{get}
use Rattle.snl_rules.specs.Tests.{first_whole}
use Rattle.snl_rules.proofs.facts.note_firsts.Given as goal

abbrev pub invariant-loop-site : goal.invariant-loop-site
invariant-loop-site l = (v : ℕ) → get nat_eq l.firsts v ≡ first_whole (take l.site-index l.sites) v
