-- What a table of names and their numbers stands for.
use Rattle.std.specs.Prelude.{◌≡◌, ℕ, List, nat_eq, Option, Some, None, if◌then◌else◌}
use Rattle.std.specs.Borrow.{Bor}
use Rattle.std.specs.Cmp.Lexicographic.{pointwise}
use Rattle.std.specs.HashMap.{HashMap, get_by}
use Rattle.snl_text.specs.declared.tokens.Token.{Token}
use Rattle.snl_names.specs.Numbered.{number_of}
use Rattle.snl_names.specs.Scopes.{is_spelled}

-- The number that a table has for a name.
abbrev pub number_in : {S : Type 0} → HashMap (Bor (List ℕ)) ℕ S → List ℕ → Option ℕ
number_in table name = get_by (λ key. pointwise nat_eq name key.now) table

-- The table has the number of the first of each name.
abbrev pub IsNumberTable : {S : Type 0} → HashMap (Bor (List ℕ)) ℕ S → List Token → Type 0
IsNumberTable table names = (name : List ℕ) → number_in table name ≡ number_of names name

-- The number, where the name is spelled so.
abbrev pub only_number : List ℕ → Token → ℕ → Option ℕ
only_number name t k = if is_spelled name t then Some k else None
