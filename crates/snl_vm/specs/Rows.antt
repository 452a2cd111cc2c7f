-- Rows of numbers by keys.
use Rattle.std.specs.Prelude.{ℕ, ◌+◌, Bool, false, ◌==◌, List, [], ◌∷◌, ◌++◌, map, slice_index_or, Option, None, Some, if◌then◌else◌}
use Rattle.snl_vm.specs.declared.rows.Rows.{Rows}

-- Whether a place has this key.
abbrev pub has_key : ℕ → Option ℕ → Bool
has_key key None = false
has_key key (Some k) = k == key

-- The numbers of the places that have a key, from a number on.
abbrev pub numbers_of : ℕ → ℕ → List (Option ℕ) → List ℕ
numbers_of key number [] = []
numbers_of key number (k ∷ ks) = if has_key key k then number ∷ numbers_of key (number + 1) ks else numbers_of key (number + 1) ks

-- The row of a key; empty where there is none.
abbrev pub row_in : List (List ℕ) → ℕ → List ℕ
row_in rows key = slice_index_or rows key []

-- All rows.
abbrev pub rows_of : Rows → List (List ℕ)
rows_of r = map (λ row. row.items) r.rows.items

-- A row after one number more came to the row of a key.
abbrev pub with_number : ℕ → ℕ → ℕ → List ℕ → List ℕ
with_number key number other row = if key == other then row ++ number ∷ [] else row
