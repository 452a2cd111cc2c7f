use Rattle.std.proofs.Common.{◌≡◌, take}
use Rattle.snl_rules.specs.ElementTables.{named_in, sorts_of}
use Rattle.snl_rules.specs.Tests.{named_of}
use Rattle.snl_rules.proofs.elements.Elements.note_all.Given as goal

abbrev pub invariant-loop-site : goal.invariant-loop-site
invariant-loop-site l = named_in l.self ≡ named_of (sorts_of l.naming) (take l.site-index l.sites)
