-- The table of the numbers of some offsets.
use Rattle.std.specs.Prelude.{◌≡◌, ℕ, List, length, nat_eq, unwrap_or}
use Rattle.indexmap.specs.IndexMap.{get}
use Rattle.std.specs.HashMap.{HashMap}
use Rattle.snl_meaning.specs.Names.{number_at}

-- The table has of each offset the number of the first that is this one, and nothing of an offset that is not among them.
abbrev pub IsOffsetTable : {S : Type 0} → HashMap ℕ ℕ S → List ℕ → Type 0
IsOffsetTable table all = (offset : ℕ) → unwrap_or (get nat_eq table offset) (length all) ≡ number_at all offset
