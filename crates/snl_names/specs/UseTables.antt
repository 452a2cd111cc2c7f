-- The table of what the names of a program mean, by their offsets.
use Rattle.std.specs.Prelude.{◌≡◌, ℕ, List, Option, None, Some, nat_eq}
use Rattle.indexmap.specs.IndexMap.{get}
use Rattle.std.specs.HashMap.{HashMap}
use Rattle.snl_text.specs.declared.tokens.Pos.{Pos}
use Rattle.snl_syntax.specs.Programs.{ProgramTree}
use Rattle.snl_names.specs.declared.sites.Site.{Site}
use Rattle.snl_names.specs.declared.use_table.UseTable.{UseTable}
use Rattle.snl_names.specs.Programs.{sites}
use Rattle.snl_names.specs.Uses.{declared_in}

-- What is found, or else what comes later.
abbrev pub or_later : Option (Option Pos) → Option Pos → Option Pos
or_later None later = later
or_later (Some place) later = place

-- What a table has at an offset, or else what comes later.
abbrev pub place_in : {S : Type 0} → HashMap ℕ (Option Pos) S → ℕ → Option Pos → Option Pos
place_in table offset later = or_later (get nat_eq table offset) later

-- What a table answers for an offset.
abbrev pub declared_at : UseTable → ℕ → Option Pos
declared_at table offset = place_in table.places offset None

-- The table answers for each offset what the first of some sites says that uses a name there.
abbrev pub IsUseTable : UseTable → List Site → Type 0
IsUseTable table sites = (offset : ℕ) → declared_at table offset ≡ declared_in offset sites

-- The same for all sites of a program.
abbrev pub IsTableOf : UseTable → ProgramTree → Type 0
IsTableOf table p = IsUseTable table (sites p)
