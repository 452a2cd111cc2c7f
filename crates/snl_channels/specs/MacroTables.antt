-- What a table of macros stands for.
use Rattle.std.specs.Prelude.{ℕ, List, [], Option, option_map, unwrap_or, bytes_eq}
use Rattle.std.specs.Borrow.{Bor}
use Rattle.std.specs.HashMap.{HashMap, get_by}
use Rattle.snl_channels.specs.declared.macros.MacroTable.{MacroTable}

-- The value that a table has at a name.
abbrev pub found : {S : Type 0} → HashMap (Bor (List ℕ)) (Bor (List ℕ)) S → List ℕ → Option (List ℕ)
found table name = option_map (λ v. v.now) (get_by (λ key. bytes_eq name key.now) table)

abbrev pub found_in : MacroTable → List ℕ → Option (List ℕ)
found_in table name = found table.values name

-- The value that stands for a name.
abbrev pub value_in : MacroTable → List ℕ → List ℕ
value_in table name = unwrap_or (found_in table name) []
