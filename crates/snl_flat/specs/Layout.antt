-- The code of a program: that of its functions, and then that of its pieces in the order of the source, and where each piece begins.
use Rattle.std.specs.Prelude.{ℕ, suc, Bool, true, false, List, [], ◌∷◌, ◌++◌, Option, None, Some, length}
use Rattle.snl_syntax.specs.Programs.{ClauseTree, StateTree, StateSetTree, ProgramTree}
use Rattle.snl_meaning.specs.declared.instrs.Instr.{Instr}
use Rattle.snl_emit.specs.BlockCode.{condition_piece, block_piece}
use Rattle.snl_emit.specs.FunctionCode.{functions_code}
use Rattle.snl_meaning.specs.Names.{Here}
use Rattle.snl_flat.specs.Heres.{here_in, routines_in}
use Rattle.snl_flat.specs.declared.starts.ClauseStarts.{ClauseStarts}
use Rattle.snl_flat.specs.Reached.{Table}
use Rattle.snl_flat.specs.Starts.{StateTable, ProgramTable, no_pieces}

-- ---- rows

-- The code of a row whose members have numbers from k on.
abbrev pub row_code : {A : Type 0} → (ℕ → A → List Instr) → ℕ → List A → List Instr
row_code code k [] = []
row_code code k (a ∷ all) = code k a ++ row_code code (suc k) all

-- What is known of each member by its number and the code before it.
abbrev pub row_starts : {A B : Type 0} → (ℕ → A → List Instr) → (ℕ → List Instr → A → B) → ℕ → List Instr → List A → List B
row_starts code starts k before [] = []
row_starts code starts k before (a ∷ all) = starts k before a ∷ row_starts code starts (suc k) (before ++ code k a) all

-- ---- a piece that may be missing

-- Its code.
abbrev pub maybe_code : {A : Type 0} → (A → List Instr) → Option A → List Instr
maybe_code code None = []
maybe_code code (Some a) = code a

-- Where it begins, after this code.
abbrev pub start_after : {A : Type 0} → List Instr → Option A → Option ℕ
start_after before None = None
start_after before (Some a) = Some (length before)

-- ---- clauses, states, state sets

-- A clause: its condition, then its block.
abbrev pub clause_code : Here → ℕ → ClauseTree → List Instr
clause_code h k c = maybe_code (condition_piece h) c.condition ++ block_piece h c.block

-- Where the two begin.
abbrev pub clause_starts : Here → ℕ → List Instr → ClauseTree → ClauseStarts
clause_starts h k before c = record { condition = start_after before c.condition; block = length (before ++ maybe_code (condition_piece h) c.condition) }

-- A state: its entry block, its clauses, its exit block.
abbrev pub state_code : Here → ℕ → StateTree → List Instr
state_code h k s = maybe_code (block_piece h) s.entry ++ (row_code (clause_code h) 0 s.clauses ++ maybe_code (block_piece h) s.exit)

-- Where they begin.
abbrev pub state_starts : Here → ℕ → List Instr → StateTree → StateTable
state_starts h k before s = record {
  is_reached = true;
  entry = start_after before s.entry;
  clauses = row_starts (clause_code h) (clause_starts h) 0 (before ++ maybe_code (block_piece h) s.entry) s.clauses;
  exit = start_after ((before ++ maybe_code (block_piece h) s.entry) ++ row_code (clause_code h) 0 s.clauses) s.exit;
}

-- A state that is reached has its code; one that is not has none.
abbrev pub code_if : Bool → Here → ℕ → StateTree → List Instr
code_if true h k s = state_code h k s
code_if false h k s = []

-- Where its pieces begin.
abbrev pub starts_if : Bool → Here → ℕ → List Instr → StateTree → StateTable
starts_if true h k before s = state_starts h k before s
starts_if false h k before s = no_pieces

-- The state of a number, by a table of the states of its state set that are reached.
abbrev pub kept_code : Here → (ℕ → Bool) → ℕ → StateTree → List Instr
kept_code h reached k s = code_if (reached k) h k s

-- Where its pieces begin.
abbrev pub kept_starts : Here → (ℕ → Bool) → ℕ → List Instr → StateTree → StateTable
kept_starts h reached k before s = starts_if (reached k) h k before s

-- A state set of this number: its states.
abbrev pub set_code : Table → ProgramTree → ℕ → StateSetTree → List Instr
set_code reached p n g = row_code (kept_code (here_in p n) (reached n)) 0 g.states

-- Where they begin.
abbrev pub set_starts : Table → ProgramTree → ℕ → List Instr → StateSetTree → List StateTable
set_starts reached p n before g = row_starts (kept_code (here_in p n) (reached n)) (kept_starts (here_in p n) (reached n)) 0 before g.states

-- ---- the program

-- All functions.
abbrev pub routines_code : ProgramTree → List Instr
routines_code p = functions_code [] (routines_in p)

-- The program, by a table of the states that are reached: its functions, its entry block, its state sets, its exit block. The two
-- blocks run on the copy of the first state set.
abbrev pub program_code : Table → ProgramTree → List Instr
program_code reached p =
    routines_code p ++ (maybe_code (block_piece (here_in p 0)) p.entry
    ++ (row_code (set_code reached p) 0 p.state_sets ++ maybe_code (block_piece (here_in p 0)) p.exit))

-- Where the pieces begin.
abbrev pub program_starts : Table → ProgramTree → ProgramTable
program_starts reached p = record {
  entry = start_after (routines_code p) p.entry;
  sets = row_starts (set_code reached p) (set_starts reached p) 0 (routines_code p ++ maybe_code (block_piece (here_in p 0)) p.entry) p.state_sets;
  exit = start_after ((routines_code p ++ maybe_code (block_piece (here_in p 0)) p.entry) ++ row_code (set_code reached p) 0 p.state_sets) p.exit;
}
