use Rattle.std.proofs.Common.{◌≡◌, ◌++◌, map, drop}
use Rattle.snl_names.specs.CopyVariables.{variable_view}
use Rattle.snl_meaning.specs.Names.{placed_by}
use Rattle.snl_meaning.proofs.names.push_places.Given as goal

abbrev pub invariant-loop-number : goal.invariant-loop-number
invariant-loop-number l =
    l.places.items ++ placed_by l.is_shared l.place (map variable_view (drop l.number l.variables))
    ≡ l.initial.places.items ++ placed_by l.is_shared 0 (map variable_view l.variables)
