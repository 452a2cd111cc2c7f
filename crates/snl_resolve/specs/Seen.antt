-- What code has in sight, and what is noted within its own scope.
use Rattle.std.specs.Prelude.{List, [], ◌++◌}
use Rattle.std.specs.List.{flat_map}
use Rattle.snl_resolve.specs.declared.sights.Sight.{Sight}
use Rattle.snl_names.specs.Chains.{scopes_of}
use Rattle.snl_names.specs.Sights as plain
use Rattle.snl_names.specs.Scopes.{Scope}
use Rattle.snl_names.specs.declared.sites.Site.{Site}
use Rattle.snl_names.specs.Programs.{in_program_parts, in_parts}
use Rattle.snl_syntax.specs.Programs.{ProgramTree}

-- The scopes of its chain, and its functions.
abbrev pub sight_of : Sight → plain.Sight
sight_of s = record { scopes = scopes_of s.scopes; functions = s.functions.now }

-- What stands in a program behind the names of its definitions, within these scopes.
abbrev pub in_program : List Scope → ProgramTree → List Site
in_program s p =
    in_program_parts s [] p.definitions
    ++ in_parts (record { scopes = s; functions = flat_map plain.headings_by p.definitions }) p.entry p.state_sets p.exit
