-- Links in rows, by the words where they begin.
use Rattle.std.specs.Prelude.{◌≡◌, ℕ, List, Option}
use Rattle.snl_vm.specs.declared.rows.Rows.{Rows}
use Rattle.snl_vm.specs.Rows.{row_in, rows_of, numbers_of}

-- The row of each word has the numbers of the links that begin there.
abbrev pub HasRows : Rows → List (Option ℕ) → Type 0
HasRows rows places = (place : ℕ) → row_in (rows_of rows) place ≡ numbers_of place 0 places
