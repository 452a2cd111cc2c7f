-- The table of the numbers of some texts.
use Rattle.std.specs.Prelude.{◌≡◌, ℕ, List, length, bytes_eq, unwrap_or}
use Rattle.std.specs.Borrow.{Bor}
use Rattle.std.specs.HashMap.{HashMap, get_by}
use Rattle.snl_meaning.specs.Names.{text_number}

-- The table has of each text the number of the first that is this one, and nothing of a text that is not among them.
abbrev pub IsStringTable : {S : Type 0} → HashMap (Bor (List ℕ)) ℕ S → List (List ℕ) → Type 0
IsStringTable table all = (text : List ℕ) → unwrap_or (get_by (λ key. bytes_eq text key.now) table) (length all) ≡ text_number all text
