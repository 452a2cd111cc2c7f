use Rattle.std.proofs.Common.{◌≡◌, ◌++◌, map, drop}
use Rattle.std.specs.List.{flat_map}
use Rattle.snl_syntax.specs.view.Definitions.{definition_view}
use Rattle.snl_resolve.specs.Seen.{sight_of}
use Rattle.snl_names.specs.Programs.{in_definition}
use Rattle.snl_resolve.proofs.definitions.note_each.Given as goal

abbrev pub invariant-loop-definition : goal.invariant-loop-definition
invariant-loop-definition l =
    l.sites.items ++ flat_map (in_definition l.in_state (sight_of l.sight)) (map definition_view (drop l.definition-index l.definitions))
    ≡ l.initial.sites.items ++ flat_map (in_definition l.in_state (sight_of l.sight)) (map definition_view l.definitions)
