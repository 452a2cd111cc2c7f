-- What the tables of the check stand for.
use Rattle.std.specs.Prelude.{◌≡◌, ℕ, List, nat_eq, Option, Some, None, if◌then◌else◌}
use Rattle.std.specs.Borrow.{Bor}
use Rattle.std.specs.Cmp.Lexicographic.{pointwise}
use Rattle.std.specs.HashMap.{HashMap, get_by}
use Rattle.snl_names.specs.declared.scopes.Declared.{Declared}
use Rattle.snl_names.specs.Scopes.{first_of, is_spelled}

-- What a table has at a name
abbrev pub found_in : {S : Type 0} → HashMap (Bor (List ℕ)) Declared S → List ℕ → Option Declared
found_in table name = get_by (λ key. pointwise nat_eq name key.now) table

-- The table has the first declaration of each name
abbrev pub IsTable : {S : Type 0} → HashMap (Bor (List ℕ)) Declared S → List Declared → Type 0
IsTable table scope = (name : List ℕ) → found_in table name ≡ first_of name scope

-- The declaration, where its name is spelled so
abbrev pub only : List ℕ → Declared → Option Declared
only name d = if is_spelled name d.name then Some d else None
