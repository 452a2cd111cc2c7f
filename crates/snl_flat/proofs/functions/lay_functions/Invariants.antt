use Rattle.std.proofs.Common.{◌≡◌, ◌++◌, [], drop, length, map, take}
use Rattle.std.specs.List.{flat_map}
use Rattle.snl_syntax.specs.view.Definitions.{definition_view}
use Rattle.snl_names.specs.Variables.{function_by}
use Rattle.snl_emit.specs.FunctionCode.{entries_from, functions_code}
use Rattle.snl_meaning.specs.Known.{entries}
use Rattle.snl_flat.specs.Heres.{routine_by}
use Rattle.snl_flat.proofs.functions.lay_functions.Given as goal

-- functions so far, and those that are left, below the names of those so far
abbrev pub invariant-loop-definition : goal.invariant-loop-definition
invariant-loop-definition l =
    (l.code.items ++ functions_code (take (length l.kept.items) l.common.names.now)
    (map (routine_by l.common.sites.now l.common.bodies.now) (flat_map function_by (map definition_view (drop l.definition-index l.definitions))))
    ≡ l.initial.code.items ++ functions_code [] (map (routine_by l.common.sites.now l.common.bodies.now) (flat_map function_by (map definition_view l.definitions))))
    × (entries l.kept.items ++ entries_from (length l.code.items) (take (length l.kept.items) l.common.names.now)
    (map (routine_by l.common.sites.now l.common.bodies.now) (flat_map function_by (map definition_view (drop l.definition-index l.definitions))))
    ≡ entries_from (length l.initial.code.items) [] (map (routine_by l.common.sites.now l.common.bodies.now) (flat_map function_by (map definition_view l.definitions))))
    × (take (length l.kept.items) l.common.names.now ++ map (λ f. f.name) (flat_map function_by (map definition_view (drop l.definition-index l.definitions))) ≡ l.common.names.now)
