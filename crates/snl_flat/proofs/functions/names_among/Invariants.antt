use Rattle.std.proofs.Common.{◌≡◌, ◌++◌, drop, map}
use Rattle.std.specs.List.{flat_map}
use Rattle.snl_syntax.specs.view.Definitions.{definition_view}
use Rattle.snl_names.specs.Variables.{function_by}
use Rattle.snl_flat.proofs.functions.names_among.Given as goal

-- names so far, and those that are left
abbrev pub invariant-loop-definition : goal.invariant-loop-definition
invariant-loop-definition l =
    l.names.items ++ map (λ f. f.name) (flat_map function_by (map definition_view (drop l.definition-index l.definitions)))
    ≡ map (λ f. f.name) (flat_map function_by (map definition_view l.definitions))
