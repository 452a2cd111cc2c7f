use Rattle.std.proofs.Common.{◌≡◌, ◌++◌, map, drop}
use Rattle.std.specs.List.{flat_map}
use Rattle.snl_syntax.specs.view.Expressions.{boxed}
use Rattle.snl_resolve.specs.Seen.{sight_of}
use Rattle.snl_names.specs.Sites.{in_value}
use Rattle.snl_resolve.proofs.declarations.note_values.Given as goal

abbrev pub invariant-loop-value : goal.invariant-loop-value
invariant-loop-value l =
    l.sites.items ++ flat_map (in_value (sight_of l.sight)) (map boxed (drop l.value-index l.values))
    ≡ l.initial.sites.items ++ flat_map (in_value (sight_of l.sight)) (map boxed l.values)
