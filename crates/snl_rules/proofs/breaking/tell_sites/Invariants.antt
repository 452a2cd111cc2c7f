use Rattle.std.proofs.Common.{◌≡◌, ◌++◌, take, drop}
use Rattle.snl_rules.specs.ElementTables.{seen_in}
use Rattle.snl_rules.specs.Tests.{seen_facts, broken_from, all_broken}
use Rattle.snl_rules.proofs.breaking.tell_sites.Given as goal

abbrev pub invariant-loop-site : goal.invariant-loop-site
invariant-loop-site l =
    (seen_in l.seen ≡ seen_facts (take l.site-index l.sites))
    × (l.found.items ++ broken_from (take l.site-index l.sites) l.sites (drop l.site-index l.sites) ≡ all_broken l.sites)
