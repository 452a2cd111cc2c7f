use Rattle.std.proofs.Common.{◌≡◌, ◌++◌, map, drop}
use Rattle.std.specs.List.{flat_map}
use Rattle.snl_syntax.specs.view.Declarations.{declaration_view}
use Rattle.snl_names.specs.Variables.{by_declaration}
use Rattle.snl_names.specs.Chains.{scopes_of}
use Rattle.snl_names.specs.CopyVariables.{variable_view}
use Rattle.snl_resolve.proofs.block_variables.push_declarations.Given as goal

abbrev pub invariant-loop-declared : goal.invariant-loop-declared
invariant-loop-declared l =
    map variable_view l.kept.items ++ flat_map (by_declaration (scopes_of l.scopes)) (map declaration_view (drop l.declared-index l.declarations))
    ≡ map variable_view l.initial.kept.items ++ flat_map (by_declaration (scopes_of l.scopes)) (map declaration_view l.declarations)
