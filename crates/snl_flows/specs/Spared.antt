-- Code that spares the words of free links, whatever its operands are: so their pieces keep links settled, and no table of operands is needed.
use Rattle.std.specs.Prelude.{◌≡◌, ◌⊎◌, ◌+◌, ◌-◌, ◌≤◌, ◌<◌, ℕ, ℤ, Bool, true, false, List, [], Option, None, Some, length, slice_get, slice_index_or}
use Rattle.snl_channels.specs.Links.{Link}
use Rattle.snl_flat.specs.declared.code.Code.{Code}
use Rattle.snl_flat.specs.declared.starts.Piece.{Piece}
use Rattle.snl_flat.specs.Pieces.{IsCodeOf, PieceTree, kept_piece}
use Rattle.snl_flat.specs.Starts.{entries_of, holds_in, start_in, table_of}
use Rattle.snl_meaning.specs.declared.instrs.Instr.{Instr}
use Rattle.snl_meaning.specs.declared.instrs.Instr.TheVariants.{Store, StoreAt, Adjust, Increment, AdjustAt, Jump, JumpIfZero, Tick, AskLink, AskElement, Clear, Assign, Call, Return, Leave, End}
use Rattle.snl_meaning.specs.declared.instrs.Variable.{Variable}
use Rattle.snl_meaning.specs.declared.ties.Tied.{Tied}
use Rattle.snl_meaning.specs.Run.{Entry}
use Rattle.snl_meaning.specs.Keeping.{world_after}
use Rattle.snl_meaning.specs.World.{World}
use Rattle.snl_load.specs.Meaning.{program_meaning}
use Rattle.snl_machine.specs.Reached.{AreReached}
use Rattle.snl_schedule.specs.declared.events.Event.{Event}
use Rattle.snl_schedule.specs.Event.{line_of}
use Rattle.snl_syntax.specs.Programs.{ProgramTree}
use Rattle.snl_alike.specs.Runs.{EventComes}
use Rattle.snl_flows.specs.Flows.{set_of}
use Rattle.snl_flows.specs.Settled.{AreKnown, CanBeFree, IsFree, IsSettled, Layout, PieceSettles, home_at, layout_for}
use Rattle.snl_flows.specs.Unwritten.{IsElementClear, IsNoTaking, IsVariableClear, TakesClear}

-- ---- what an instruction writes

module _ (free : List ℕ) (l : Layout) (set : ℕ) where
  -- A variable of functions, or one behind the words of each free link: whatever a subscript is, it names none of these.
  abbrev pub IsBehindFree : Variable → Type 0
  IsBehindFree v = (v.is_shared ≡ true) ⊎ ((link home : ℕ) (t : Tied) → IsFree free l link t → home_at l set link ≡ Some home → home + t.count ≤ v.place)

  -- An instruction writes no word of a free link, whatever its operands are, and takes nothing out of a queue.
  abbrev pub IsSparing : List Entry → Instr → Type 0
  IsSparing functions (Store v line) = IsElementClear free l set v 0
  IsSparing functions (StoreAt v line) = IsBehindFree v
  IsSparing functions (Adjust v op op_line line is_before) = IsElementClear free l set v 0
  IsSparing functions (Increment v op op_line line) = IsElementClear free l set v 0
  IsSparing functions (AdjustAt v op op_line line is_before) = IsBehindFree v
  IsSparing functions (AskLink query v) = IsNoTaking query
  IsSparing functions (AskElement query v) = IsNoTaking query
  IsSparing functions (Clear v) = IsVariableClear free l set v
  IsSparing functions (Assign v element line) = IsElementClear free l set v element
  IsSparing functions (Call function n line) = TakesClear free l set (slice_get functions function)
  IsSparing functions _ = Unit {0}

-- ---- where it leads

-- An address is one of those that pieces can come to.
abbrev pub IsAmong : (reached : List Bool) → (at : ℕ) → Type 0
IsAmong reached at = slice_index_or reached at false ≡ true

-- So is where a function begins, if there is one.
abbrev pub BeginsAmong : (reached : List Bool) → Option Entry → Type 0
BeginsAmong reached None = Unit {0}
BeginsAmong reached (Some e) = IsAmong reached e.start

-- An instruction at an address leads to such addresses alone.
abbrev pub LeadsAmong : (reached : List Bool) → List Entry → (at : ℕ) → Instr → Type 0
LeadsAmong reached functions at (Jump n) = IsAmong reached (at + 1 + n)
LeadsAmong reached functions at (JumpIfZero n) = IsAmong reached (at + 1) × IsAmong reached (at + 1 + n)
LeadsAmong reached functions at (Tick line back) = IsAmong reached (at - back)
LeadsAmong reached functions at (Call function n line) = IsAmong reached (at + 1) × BeginsAmong reached (slice_get functions function)
LeadsAmong reached functions at Return = Unit {0}
LeadsAmong reached functions at (Leave state) = Unit {0}
LeadsAmong reached functions at End = Unit {0}
LeadsAmong reached functions at _ = IsAmong reached (at + 1)

-- Each instruction at such an address leads to others of them, and spares the words of free links.
pub record AreSparing (free : List ℕ) (l : Layout) (set : ℕ) (functions : List Entry) (reached : List Bool) (code : List Instr) : Type 0 where
  pub leads : (at : ℕ) (i : Instr) → slice_get code at ≡ Some i → IsAmong reached at → LeadsAmong reached functions at i
  pub spares : (at : ℕ) (i : Instr) → slice_get code at ≡ Some i → IsAmong reached at → IsSparing free l set functions i

-- ---- the law

-- A piece that the code has keeps links settled, where that is so of the addresses that its state set's pieces can come to, and it begins at one
-- of them.
abbrev pub PiecesSpare : Type 0
PiecesSpare = (p : ProgramTree) (ls : List Link) (c : Code) (free : List ℕ) (values : List (List (List ℤ))) (name : Piece) (piece : PieceTree) (start : ℕ) (reached : List Bool) →
    IsCodeOf p c → CanBeFree free (layout_for p ls) → kept_piece (holds_in (table_of c)) p name ≡ Some piece → start_in (table_of c) name ≡ Some start → IsAmong reached start →
    AreSparing free (layout_for p ls) (set_of piece) (entries_of c) reached c.instrs.items → PieceSettles (IsSettled free values (layout_for p ls)) p piece

-- Tables, by state set, say of addresses that the pieces of its states can come to them: pieces that the code has begin there, and all there spares
-- the words of free links.
pub record AreSparingOf (p : ProgramTree) (ls : List Link) (c : Code) (free : List ℕ) (tables : List (List Bool)) : Type 0 where
  pub begins : (name : Piece) (piece : PieceTree) (start : ℕ) → kept_piece (holds_in (table_of c)) p name ≡ Some piece → start_in (table_of c) name ≡ Some start →
      IsAmong (slice_index_or tables (set_of piece) []) start
  pub spares : (set : ℕ) → AreSparing free (layout_for p ls) set (entries_of c) (slice_index_or tables set []) c.instrs.items

-- Then a line keeps links settled, if its event has no other values for them, and the states of the world are some that a run can come to.
abbrev pub LinesSpare : Type 0
LinesSpare = (p : ProgramTree) (ls : List Link) (c : Code) (free : List ℕ) (values : List (List (List ℤ))) (tables : List (List Bool)) (waits : Bool) (budget ms : ℕ) (event : Event)
    (w : World) → IsCodeOf p c → 0 < length p.state_sets → CanBeFree free (layout_for p ls) → AreSparingOf p ls c free tables →
    EventComes (AreKnown free values (layout_for p ls)) event → AreReached p (holds_in (table_of c)) w → IsSettled free values (layout_for p ls) w →
    IsSettled free values (layout_for p ls) (world_after (line_of (program_meaning p ls waits) budget ms event w))
