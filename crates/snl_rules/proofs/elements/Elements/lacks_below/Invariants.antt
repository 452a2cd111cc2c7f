use Rattle.std.proofs.Common.{◌≡◌, ℕ, ◌<◌, true}
use Rattle.snl_rules.specs.ElementTables.{element_in}
use Rattle.snl_rules.proofs.elements.Elements.lacks_below.Given as goal

abbrev pub invariant-loop-element : goal.invariant-loop-element
invariant-loop-element l = (k : ℕ) → k < l.element → element_in l.self l.variable k ≡ true
