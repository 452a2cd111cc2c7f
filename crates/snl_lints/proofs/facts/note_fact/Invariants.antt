use Rattle.std.proofs.Common.{◌≡◌, ℕ, nat_eq, take}
use Rattle.std.specs.HashSet.{contains}
use Rattle.std.specs.List.{list_any}
use Rattle.snl_names.specs.UseTables.{declared_at}
use Rattle.snl_lints.specs.Facts.{does}
use Rattle.snl_lints.proofs.facts.note_fact.Given as goal

abbrev pub invariant-loop-touch : goal.invariant-loop-touch
invariant-loop-touch l = (v : ℕ) → contains nat_eq l.variables v ≡ list_any (does (declared_at l.uses) l.fact v) (take l.touch-index l.touches)
