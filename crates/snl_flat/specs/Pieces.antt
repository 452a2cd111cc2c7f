-- The pieces of a program, and what it means that code is the code of a program.
use Rattle.std.specs.Prelude.{◌≡◌, ◌≤◌, ℕ, Bool, true, List, map, Option, None, Some, slice_get, option_map, option_and_then, if◌then◌else◌}
use Rattle.std.specs.List.{flat_map}
use Rattle.snl_syntax.specs.Expressions.{ExprTree}
use Rattle.snl_syntax.specs.Programs.{ClauseTree, StateTree, ProgramTree}
use Rattle.snl_syntax.specs.Statements.{BlockTree}
use Rattle.snl_names.specs.Programs.{sites}
use Rattle.snl_meaning.specs.declared.instrs.Instr.{Instr}
use Rattle.snl_meaning.specs.Names.{format_at}
use Rattle.snl_meaning.specs.Run as run
use Rattle.snl_emit.specs.Depths.{block_depth, expression_depth}
use Rattle.snl_emit.specs.Right.{IsConditionAt, IsBlockAt}
use Rattle.snl_flat.specs.declared.code.Code.{Code}
use Rattle.snl_flat.specs.declared.starts.Piece.{Piece}
use Rattle.snl_flat.specs.declared.starts.Piece.TheVariants.{ProgramEntry, ProgramExit, Entry, Exit, Condition, Block}
use Rattle.snl_flat.specs.Apart.{AreApart}
use Rattle.snl_flat.specs.Depths.{capped, program_depth}
use Rattle.snl_flat.specs.Heres.{entries_in, outlines_in, scene_in}
use Rattle.snl_flat.specs.Reached.{Table, HasState, TellsReached}
use Rattle.snl_flat.specs.Starts.{StateTable, entries_of, table_of, state_in, holds_in, start_in}

-- ---- the pieces of a program

-- What a piece is: a condition or a block, on the copy of a state set.
pub data PieceTree : Type 0 where
  Test : (set : ℕ) (condition : ExprTree) → PieceTree
  Action : (set : ℕ) (block : BlockTree) → PieceTree

-- A state by its number, in a state set by its number.
abbrev pub state_at : ProgramTree → ℕ → ℕ → Option StateTree
state_at p set state = option_and_then (λ g. slice_get g.states state) (slice_get p.state_sets set)

-- A clause by its number, in a state.
abbrev pub clause_at : ProgramTree → ℕ → ℕ → ℕ → Option ClauseTree
clause_at p set state k = option_and_then (λ s. slice_get s.clauses k) (state_at p set state)

-- The piece of a name; none where the program has no such piece. The program's own two blocks run on the copy of the
-- first state set.
abbrev pub piece_of : ProgramTree → Piece → Option PieceTree
piece_of p ProgramEntry = option_map (Action 0) p.entry
piece_of p ProgramExit = option_map (Action 0) p.exit
piece_of p (Entry set state) = option_and_then (λ s. option_map (Action set) s.entry) (state_at p set state)
piece_of p (Exit set state) = option_and_then (λ s. option_map (Action set) s.exit) (state_at p set state)
piece_of p (Condition set state k) = option_and_then (λ c. option_map (Test set) c.condition) (clause_at p set state k)
piece_of p (Block set state k) = option_map (λ c. Action set c.block) (clause_at p set state k)

-- Whether the code has the pieces of this name, by a table of the states that are reached.
abbrev pub is_kept : Table → Piece → Bool
is_kept reached (Entry set state) = reached set state
is_kept reached (Exit set state) = reached set state
is_kept reached (Condition set state k) = reached set state
is_kept reached (Block set state k) = reached set state
is_kept reached _ = true

-- The piece of a name, if the code has it: one of a state that is not reached it does not have.
abbrev pub kept_piece : Table → ProgramTree → Piece → Option PieceTree
kept_piece reached p name = if is_kept reached name then piece_of p name else None

-- How many operands a piece holds at once.
abbrev pub piece_depth : ProgramTree → PieceTree → ℕ
piece_depth p (Test set e) = expression_depth (outlines_in p) e
piece_depth p (Action set b) = block_depth (outlines_in p) b

-- No piece holds more operands than its program does: room for the depth of the program is enough for each of them.
abbrev pub DepthIsEnough : Type 0
DepthIsEnough = (p : ProgramTree) (name : Piece) (piece : PieceTree) → piece_of p name ≡ Some piece → piece_depth p piece ≤ program_depth p

-- ---- the code of a program

-- The code at an address is right for a piece, with functions that begin where their entries say, and with room for as many operands
-- as the piece needs at once.
abbrev pub IsPieceAt : ProgramTree → List Instr → List run.Entry → ℕ → PieceTree → Type 0
IsPieceAt p code functions start (Test set e) = (room : ℕ) → expression_depth (outlines_in p) e ≤ room → IsConditionAt (scene_in p set) code functions room start e
IsPieceAt p code functions start (Action set b) = (room : ℕ) → block_depth (outlines_in p) b ≤ room → IsBlockAt (scene_in p set) code functions room start b

-- There is an address for a piece where there is a piece, and the code there is right for it.
abbrev pub IsPlaced : ProgramTree → List Instr → List run.Entry → Option PieceTree → Option ℕ → Type 0
IsPlaced p code functions (Some piece) (Some start) = IsPieceAt p code functions start piece
IsPlaced p code functions None None = Unit {0}
IsPlaced p code functions _ _ = ⊥

-- The texts that code keeps, by their numbers.
abbrev pub texts_of : Code → List (List ℕ)
texts_of c = map (λ t. t.items) c.texts.items

-- Code is that of a program: it tells exactly which states are reached; each function has its entry; each piece of the program, but
-- for those of other states, has its address, where the code is right for it; no other piece has one; the conditions of each state
-- that is reached have stretches of code of their own, one after another; its texts are the strings of the program; and its depth is
-- that of the program, or 2^64 - 1 where that is more.
pub record IsCodeOf (p : ProgramTree) (c : Code) : Type 0 where
  pub reached : TellsReached p (holds_in (table_of c))
  pub within : (set state : ℕ) → holds_in (table_of c) set state ≡ true → HasState p set state
  pub functions : entries_of c ≡ entries_in p
  pub placed : (piece : Piece) → IsPlaced p c.instrs.items (entries_of c) (kept_piece (holds_in (table_of c)) p piece) (start_in (table_of c) piece)
  pub apart : (set state : ℕ) (s : StateTree) (t : StateTable) → state_at p set state ≡ Some s → state_in (table_of c) set state ≡ Some t → t.is_reached ≡ true →
      AreApart p set c.instrs.items (entries_of c) 0 s.clauses t.clauses
  pub texts : texts_of c ≡ flat_map format_at (sites p)
  pub depth : c.depth ≡ capped (program_depth p)
