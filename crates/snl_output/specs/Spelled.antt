-- A format as it is spelled.
use Rattle.std.specs.Prelude.{ℕ, List}
use Rattle.snl_output.specs.declared.formats.Format.{Format}

-- with its quotes
abbrev pub spelled_in : Format → List ℕ
spelled_in format = format.spelled.items
