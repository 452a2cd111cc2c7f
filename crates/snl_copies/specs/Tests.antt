-- The tests by which it is told whether a copy is written, on what a table says of the names of a program.
use Rattle.std.specs.Prelude.{◌≡◌, ℕ, Bool, true, false, not, ◌&&◌, ◌||◌, ◌==◌, List, [], ◌∷◌, ◌++◌, slice_get, Option, None, Some, if◌then◌else◌}
use Rattle.std.specs.List.{list_any, flat_map}
use Rattle.snl_text.specs.declared.tokens.Pos.{Pos}
use Rattle.snl_text.specs.declared.tokens.Token.{Token}
use Rattle.snl_syntax.specs.Definitions.{DefinitionTree, function}
use Rattle.snl_syntax.specs.Functions.{FunctionTree}
use Rattle.snl_syntax.specs.Programs.{ClauseTree, StateTree, StateSetTree, ProgramTree}
use Rattle.snl_names.specs.declared.sites.Site.{Site}
use Rattle.snl_names.specs.declared.use_table.UseTable.{UseTable}
use Rattle.snl_names.specs.Programs.{sites}
use Rattle.snl_names.specs.Scopes.{is_spelled}
use Rattle.snl_names.specs.Uses.{declared_of}
use Rattle.snl_names.specs.UseTables.{declared_at}
use Rattle.snl_copies.specs.declared.copies.SetCopy.{SetCopy}
use Rattle.snl_copies.specs.declared.touches.Touch.{Touch}
use Rattle.snl_copies.specs.declared.touches.Touch.TheVariants.{Reads, Writes, Begins, Calls, Leads}
use Rattle.snl_copies.specs.declared.unwritten.Unwritten.{Unwritten}
use Rattle.snl_copies.specs.Code.{in_function, in_clause}
use Rattle.snl_copies.specs.Copies.{monitored_at, queued_at, code_of}

-- There is a declaration, and it is this variable's.
abbrev pub is_at : ℕ → Option Pos → Bool
is_at variable None = false
is_at variable (Some place) = place.offset == variable

-- Some site is a `monitor` of the variable, and none is a `syncQ`.
abbrev pub is_refreshed : List Site → ℕ → Bool
is_refreshed all variable = list_any (λ s. is_at variable (monitored_at s)) all && not (list_any (λ s. is_at variable (queued_at s)) all)

-- ---- what code does with the functions that it calls

-- A call of the function.
abbrev pub calls : FunctionTree → Touch → Bool
calls f (Calls x) = is_spelled f.name.text.now x
calls f t = false

-- Code, and behind it that of a function which it calls.
abbrev pub with_function : FunctionTree → List Touch → List Touch
with_function f code = if list_any (calls f) code then code ++ in_function f else code

-- The same of a definition, if it is a function.
abbrev pub with_called : DefinitionTree → List Touch → List Touch
with_called (function f) code = with_function f code
with_called d code = code

-- Code with the functions among these definitions that it calls, or that they call: the last one first, since each calls those above it.
abbrev pub all_code : List DefinitionTree → List Touch → List Touch
all_code [] code = code
all_code (d ∷ below) code = with_called d (all_code below code)

-- ---- copies

-- It writes the variable.
abbrev pub stores : (ℕ → Option Pos) → ℕ → Touch → Bool
stores at variable (Writes t) = is_at variable (at t.pos.offset)
stores at variable (Begins t) = t.pos.offset == variable
stores at variable t = false

-- A refresh or code on the copy writes the variable.
abbrev pub is_written : UseTable → SetCopy → ℕ → Bool
is_written uses copy variable = is_refreshed copy.sites.items variable || list_any (stores (declared_at uses) variable) copy.code.items

-- The same of a program and a state set.
abbrev pub is_written_in : ProgramTree → ℕ → ℕ → Bool
is_written_in p set variable = is_refreshed (sites p) variable || list_any (stores (declared_of p) variable) (all_code p.definitions (code_of p set))

-- What is known of a state set's copy.
pub record IsCopyOf (p : ProgramTree) (set : ℕ) (copy : SetCopy) : Type 0 where
  pub sites : copy.sites.items ≡ sites p
  pub code : copy.code.items ≡ all_code p.definitions (code_of p set)

-- ---- what clauses read

-- It leads to the state of this name.
abbrev pub leads : List ℕ → Touch → Bool
leads name (Leads x) = is_spelled name x
leads name t = false

-- A name with the declaration that it means, where the copy is not written.
abbrev pub unless_written : Bool → Token → Pos → List Unwritten
unless_written true t place = []
unless_written false t place = record { name = t; declared = place } ∷ []

-- The same where it means one.
abbrev pub unwritten_by : (ℕ → Bool) → Token → Option Pos → List Unwritten
unwritten_by written t None = []
unwritten_by written t (Some place) = unless_written (written place.offset) t place

-- The name by which a variable is read.
abbrev pub unwritten_at : UseTable → SetCopy → Touch → List Unwritten
unwritten_at uses copy (Reads t) = unwritten_by (is_written uses copy) t (declared_at uses t.pos.offset)
unwritten_at uses copy t = []

-- Those of code.
abbrev pub unwritten_in : UseTable → SetCopy → List Touch → List Unwritten
unwritten_in uses copy code = flat_map (unwritten_at uses copy) code

-- Those of a clause with the functions that it calls, where it leads to the state.
abbrev pub in_clause_to : List DefinitionTree → List ℕ → UseTable → SetCopy → ClauseTree → List Unwritten
in_clause_to defs name uses copy c = if list_any (leads name) (in_clause c) then unwritten_in uses copy (all_code defs (in_clause c)) else []

-- Those of a state's clauses.
abbrev pub in_state_to : List DefinitionTree → List ℕ → UseTable → SetCopy → StateTree → List Unwritten
in_state_to defs name uses copy s = flat_map (in_clause_to defs name uses copy) s.clauses

-- Those of a state set's states, if there is one.
abbrev pub in_set_to : List DefinitionTree → List ℕ → UseTable → SetCopy → Option StateSetTree → List Unwritten
in_set_to defs name uses copy None = []
in_set_to defs name uses copy (Some g) = flat_map (in_state_to defs name uses copy) g.states
