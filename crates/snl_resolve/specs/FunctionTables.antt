-- What a table of functions stands for.
use Rattle.std.specs.Prelude.{◌≡◌, ℕ, List, nat_eq, Option, Some, None, if◌then◌else◌}
use Rattle.std.specs.Borrow.{Bor}
use Rattle.std.specs.Cmp.Lexicographic.{pointwise}
use Rattle.std.specs.HashMap.{HashMap, get_by}
use Rattle.snl_names.specs.declared.calls.Heading.{Heading}
use Rattle.snl_names.specs.Calls.{heading_in}
use Rattle.snl_names.specs.Scopes.{is_spelled}

-- What a table has at a name.
abbrev pub function_in : {S : Type 0} → HashMap (Bor (List ℕ)) Heading S → List ℕ → Option Heading
function_in table name = get_by (λ key. pointwise nat_eq name key.now) table

-- The table has the first function of each name.
abbrev pub IsFunctionTable : {S : Type 0} → HashMap (Bor (List ℕ)) Heading S → List Heading → Type 0
IsFunctionTable table functions = (name : List ℕ) → function_in table name ≡ heading_in functions name

-- The function, where its name is spelled so.
abbrev pub only_function : List ℕ → Heading → Option Heading
only_function name f = if is_spelled name f.name then Some f else None
