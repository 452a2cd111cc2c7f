-- The scopes that a chain of tables stands for.
use Rattle.std.specs.Prelude.{List, [], ◌∷◌}
use Rattle.snl_names.specs.declared.scopes.Scopes.{Scopes, Outside, Within'}
use Rattle.snl_names.specs.Scopes.{Scope}

-- Each table stands for its scope; the innermost comes first.
abbrev pub scopes_of : Scopes → List Scope
scopes_of Outside = []
scopes_of (Within' scope q outer) = scope.now ∷ scopes_of outer
