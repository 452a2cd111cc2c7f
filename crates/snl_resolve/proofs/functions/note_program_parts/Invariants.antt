use Rattle.std.proofs.Common.{◌≡◌, ◌++◌, [], map, drop}
use Rattle.std.specs.List.{flat_map}
use Rattle.snl_syntax.specs.view.Definitions.{definition_view}
use Rattle.snl_names.specs.Chains.{scopes_of}
use Rattle.snl_names.specs.Programs.{in_program_parts}
use Rattle.snl_names.specs.Sights.{headings_by}
use Rattle.snl_resolve.proofs.functions.note_program_parts.Given as goal

abbrev pub invariant-loop-definition : goal.invariant-loop-definition
invariant-loop-definition l =
    (l.sites.items ++ in_program_parts (scopes_of l.scopes) l.functions (map definition_view (drop l.definition-index l.definitions))
    ≡ l.initial.sites.items ++ in_program_parts (scopes_of l.scopes) [] (map definition_view l.definitions))
    × (l.functions ++ flat_map headings_by (map definition_view (drop l.definition-index l.definitions)) ≡ flat_map headings_by (map definition_view l.definitions))
