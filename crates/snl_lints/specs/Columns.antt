-- Columns, in bytes from 1 on.
use Rattle.std.specs.Prelude.{◌≡◌, ◌≤◌, ℕ, zero, suc, ◌==◌, List, length, slice_index, nat_lt, if◌then◌else◌}
use Rattle.snl_lints.specs.declared.columns.Counted.{Counted}

-- The column of the place behind so many bytes of a text: 1 at its start and behind a newline, and one more behind any other byte.
abbrev pub column_at : List ℕ → ℕ → ℕ
column_at text zero = 1
column_at text (suc k) = if slice_index text k == 10 then 1 else suc (column_at text k)

-- An offset, or the end of a text where it is past that.
abbrev pub within : List ℕ → ℕ → ℕ
within text offset = if nat_lt offset (length text) then offset else length text

-- The column of an offset.
abbrev pub column_of : List ℕ → ℕ → ℕ
column_of text offset = column_at text (within text offset)

-- The begin of a text.
abbrev pub start : Counted
start = record { offset = 0; column = 1 }

-- The column of a place of a text was counted.
pub record IsCounted (text : List ℕ) (c : Counted) : Type 0 where
  pub column_is : c.column ≡ column_at text c.offset
  pub small : c.column ≤ suc c.offset
  pub inside : c.offset ≤ length text
