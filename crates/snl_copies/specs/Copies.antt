-- When a state set's copy of a variable can be written while a program runs. A variable goes by the offset of its declaration.
use Rattle.std.specs.Prelude.{◌≡◌, ℕ, ◌==◌, List, [], ◌∷◌, ◌++◌, slice_get, Option, None, Some, ◌⊎◌, if◌then◌else◌}
use Rattle.std.specs.List.{Any, Contains}
use Rattle.snl_text.specs.declared.tokens.Pos.{Pos}
use Rattle.snl_text.specs.declared.tokens.Token.{Token}
use Rattle.snl_syntax.specs.Definitions.{DefinitionTree, function}
use Rattle.snl_syntax.specs.Functions.{FunctionTree}
use Rattle.snl_syntax.specs.Statements.{BlockTree}
use Rattle.snl_syntax.specs.Programs.{ClauseTree, StateTree, StateSetTree, ProgramTree}
use Rattle.snl_names.specs.declared.sites.Site.{Site}
use Rattle.snl_names.specs.declared.sites.Site.TheVariants.{Defined}
use Rattle.snl_names.specs.declared.sites.Sort.TheVariants.{Monitor, Queue}
use Rattle.snl_names.specs.Programs.{sites}
use Rattle.snl_names.specs.Uses.{declared_pos, declared_of}
use Rattle.snl_copies.specs.declared.touches.Touch.{Touch}
use Rattle.snl_copies.specs.declared.touches.Touch.TheVariants.{Reads, Writes, Begins, Calls, Leads}
use Rattle.snl_copies.specs.Code.{if_there, in_block, in_function, in_clause, in_state_set}

-- There is a declaration, and it is this variable's.
abbrev pub IsAt : ℕ → Option Pos → Type 0
IsAt variable None = ⊥
IsAt variable (Some place) = place.offset ≡ variable

-- ---- by a refresh

-- The variable of which, or of an element of which, a site is the `monitor`.
abbrev pub monitored_at : Site → Option Pos
monitored_at (Defined Monitor word t m sub wrong part) = declared_pos m
monitored_at s = None

-- The variable of which a site is the `syncQ`.
abbrev pub queued_at : Site → Option Pos
queued_at (Defined (Queue size) word t m sub wrong part) = declared_pos m
queued_at s = None

-- A refresh can bring each copy a value: the variable is monitored, and its values don't go into a queue.
abbrev pub Refreshed : ProgramTree → ℕ → Type 0
Refreshed p variable = Any (λ s. IsAt variable (monitored_at s)) (sites p) × (Any (λ s. IsAt variable (queued_at s)) (sites p) → ⊥)

-- ---- by code

-- A block of the program runs on the copy of the first state set.
abbrev pub for_first : ℕ → Option BlockTree → List Touch
for_first set b = if set == 0 then if_there in_block b else []

-- The code that runs on the copy of a state set, without that of functions.
abbrev pub code_of : ProgramTree → ℕ → List Touch
code_of p set = for_first set p.entry ++ if_there in_state_set (slice_get p.state_sets set) ++ for_first set p.exit

-- The function is called, where R says what is done.
abbrev pub IsCalled : (Touch → Type 0) → FunctionTree → Type 0
IsCalled R f = (x : Token) × R (Calls x) × (x.text.now ≡ f.name.text.now)

-- It is done in the function that a definition is, and that is called.
abbrev pub InCalled : (Touch → Type 0) → DefinitionTree → Touch → Type 0
InCalled R (function f) t = IsCalled R f × Contains (in_function f) t
InCalled R d t = ⊥

-- What code does that stands below these definitions: what stands in it; and what stands in a function that is called by the
-- code, or by a function below that one.
abbrev pub Does : List DefinitionTree → List Touch → Touch → Type 0
Does [] code t = Contains code t
Does (d ∷ below) code t = Does below code t ⊎ InCalled (Does below code) d t

-- What writes the variable: a store by a name of it, or that its block or its function begins.
abbrev pub Stores : ProgramTree → ℕ → Touch → Type 0
Stores p variable (Writes t) = IsAt variable (declared_of p t.pos.offset)
Stores p variable (Begins t) = t.pos.offset ≡ variable
Stores p variable t = ⊥

-- Code on the copy of the state set writes the variable.
abbrev pub Stored : ProgramTree → ℕ → ℕ → Type 0
Stored p set variable = (t : Touch) × Does p.definitions (code_of p set) t × Stores p variable t

-- The state set's copy of the variable can be written: by a refresh, or by code that runs on this copy. What it begins with
-- is no write.
abbrev pub Written : ProgramTree → ℕ → ℕ → Type 0
Written p set variable = Refreshed p variable ⊎ Stored p set variable

-- ---- what clauses read

-- It leads to the state of this name.
abbrev pub LeadsTo : List ℕ → Touch → Type 0
LeadsTo name (Leads x) = x.text.now ≡ name
LeadsTo name t = ⊥

-- The clause stands in a state of the state set.
pub record HasClause (p : ProgramTree) (set : ℕ) (c : ClauseTree) : Type 0 where
  pub state_set : StateSetTree
  pub state : StateTree
  pub stands : slice_get p.state_sets set ≡ Some state_set
  pub among : Contains state_set.states state
  pub inside : Contains state.clauses c

-- A clause of the state set that can lead to the state of this name reads, itself or in a function, a variable by this
-- name, and the state set's copy of that is never written.
pub record ReadsUnwritten (p : ProgramTree) (set : ℕ) (name : List ℕ) (t : Token) (place : Pos) : Type 0 where
  pub clause : ClauseTree
  pub stands : HasClause p set clause
  pub leads : Any (LeadsTo name) (in_clause clause)
  pub reads : Does p.definitions (in_clause clause) (Reads t)
  pub means : declared_of p t.pos.offset ≡ Some place
  pub never : Written p set place.offset → ⊥
