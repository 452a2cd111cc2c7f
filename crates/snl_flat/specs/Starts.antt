-- Where the pieces and the functions of a program begin in its code.
use Rattle.std.specs.Prelude.{ℕ, Bool, false, List, [], map, Option, None, Some, Vec, slice_get, option_map, option_and_then}
use Rattle.std.proofs.Common.{Global}
use Rattle.snl_meaning.specs.Known.{entries}
use Rattle.snl_meaning.specs.Run as run
use Rattle.snl_flat.specs.declared.code.Code.{Code}
use Rattle.snl_flat.specs.declared.starts.ClauseStarts.{ClauseStarts}
use Rattle.snl_flat.specs.declared.starts.Piece.{Piece}
use Rattle.snl_flat.specs.declared.starts.Piece.TheVariants.{ProgramEntry, ProgramExit, Entry, Exit, Condition, Block}
use Rattle.snl_flat.specs.declared.starts.StateStarts.{StateStarts}

-- Of a state: whether it is reached, and so has code, and where its pieces begin.
pub record StateTable : Type 0 where
  pub is_reached : Bool
  pub entry : Option ℕ
  pub clauses : List ClauseStarts
  pub exit : Option ℕ

-- Of a state without code.
abbrev pub no_pieces : StateTable
no_pieces = record { is_reached = false; entry = None; clauses = []; exit = None }

-- Of a program: by state set its states.
pub record ProgramTable : Type 0 where
  pub entry : Option ℕ
  pub sets : List (List StateTable)
  pub exit : Option ℕ

-- What stands for a state.
abbrev pub state_table : StateStarts → StateTable
state_table s = record { is_reached = s.is_reached; entry = s.entry; clauses = s.clauses.items; exit = s.exit }

-- What stands for the states of a state set.
abbrev pub state_tables : Vec StateStarts Global → List StateTable
state_tables v = map state_table v.items

-- What stands for those of a program.
abbrev pub table_of : Code → ProgramTable
table_of c = record { entry = c.entry; sets = map state_tables c.sets.items; exit = c.exit }

-- What stands for the functions: where each begins, with its parameters.
abbrev pub entries_of : Code → List run.Entry
entries_of c = entries c.functions.items

-- The part of a table for a state, and for a clause.
abbrev pub state_in : ProgramTable → ℕ → ℕ → Option StateTable
state_in t set state = option_and_then (λ states. slice_get states state) (slice_get t.sets set)

-- The same for a clause.
abbrev pub clause_in : ProgramTable → ℕ → ℕ → ℕ → Option ClauseStarts
clause_in t set state k = option_and_then (λ s. slice_get s.clauses k) (state_in t set state)

-- Whether the code has a state; a state that is not there it does not have.
abbrev pub is_held : Option StateTable → Bool
is_held None = false
is_held (Some s) = s.is_reached

-- The same by its number.
abbrev pub holds_in : ProgramTable → ℕ → ℕ → Bool
holds_in t set state = is_held (state_in t set state)

-- Where a piece begins; none where there is no such piece.
abbrev pub start_in : ProgramTable → Piece → Option ℕ
start_in t ProgramEntry = t.entry
start_in t ProgramExit = t.exit
start_in t (Entry set state) = option_and_then (λ s. s.entry) (state_in t set state)
start_in t (Exit set state) = option_and_then (λ s. s.exit) (state_in t set state)
start_in t (Condition set state k) = option_and_then (λ c. c.condition) (clause_in t set state k)
start_in t (Block set state k) = option_map (λ c. c.block) (clause_in t set state k)
