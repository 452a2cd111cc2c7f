-- A law of the rules.
use Rattle.std.specs.Prelude.{List, ◌↔◌}
use Rattle.std.specs.List.{Contains}
use Rattle.snl_names.specs.declared.sites.Site.{Site}
use Rattle.snl_rules.specs.declared.rules.Broken.{Broken}
use Rattle.snl_rules.specs.Rules.{IsBroken}
use Rattle.snl_rules.specs.Tests.{all_broken}

-- What the tests tell, of which there are examples, is what is broken by the rules.
abbrev pub ToldIsBroken : Type 0
ToldIsBroken = (all : List Site) (b : Broken) → Contains (all_broken all) b ↔ IsBroken all b
