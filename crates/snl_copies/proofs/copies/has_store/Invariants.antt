use Rattle.std.proofs.Common.{◌≡◌, drop}
use Rattle.std.specs.List.{list_any}
use Rattle.snl_names.specs.UseTables.{declared_at}
use Rattle.snl_copies.specs.Tests.{stores}
use Rattle.snl_copies.proofs.copies.has_store.Given as goal

abbrev pub invariant-loop-touch : goal.invariant-loop-touch
invariant-loop-touch l = list_any (stores (declared_at l.uses) l.variable) (drop l.touch-index l.code) ≡ list_any (stores (declared_at l.uses) l.variable) l.code
