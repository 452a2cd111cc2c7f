use Rattle.std.proofs.Common.{◌≡◌, ◌++◌, drop}
use Rattle.std.specs.List.{flat_map}
use Rattle.snl_names.specs.UseTables.{declared_at}
use Rattle.snl_lints.specs.FactTables.{given_in, known_by_tables}
use Rattle.snl_lints.specs.Lints.{remarks_at}
use Rattle.snl_lints.proofs.remarks.push_remarks.Given as goal

abbrev pub invariant-loop-touch : goal.invariant-loop-touch
invariant-loop-touch l =
    l.remarks.items ++ flat_map (remarks_at (declared_at l.sources.uses.now) (given_in l.sources.macros.now) (known_by_tables l.tables)) (drop l.touch-index l.touches)
    ≡ l.initial.remarks.items ++ flat_map (remarks_at (declared_at l.sources.uses.now) (given_in l.sources.macros.now) (known_by_tables l.tables)) l.touches
