-- What it means that the code of a program lies inside: each instruction leads to one that is there, and names what is there.
use Rattle.std.specs.Prelude.{◌≡◌, ◌<◌, ◌≤◌, ◌⊎◌, ◌+◌, ◌-◌, ◌^◌, Bool, true, false, ℕ, List, Option, length, Some, slice_get}
use Rattle.snl_text.specs.declared.tokens.Pos.{Pos}
use Rattle.snl_text.specs.declared.tokens.Token.{Token}
use Rattle.snl_syntax.specs.Programs.{ProgramTree}
use Rattle.snl_names.specs.declared.builtins.Builtin.TheVariants as call
use Rattle.snl_names.specs.declared.calls.Form.TheVariants.{FlagName}
use Rattle.snl_names.specs.declared.sites.Meaning.{Meaning}
use Rattle.snl_names.specs.declared.sites.Purpose.TheVariants.{Flagged}
use Rattle.snl_names.specs.declared.sites.Site.TheVariants as site
use Rattle.snl_names.specs.declared.sites.Site.TheVariants.{Use}
use Rattle.snl_names.specs.Builtins.{form_of}
use Rattle.snl_names.specs.Programs.{sites}
use Rattle.snl_names.specs.Uses.{declared_of}
use Rattle.snl_names.specs.Variables.{CopyVariable, functions_of, shared_variables, variables_of}
use Rattle.snl_meaning.specs.declared.instrs.Instr.{Instr}
use Rattle.snl_meaning.specs.declared.instrs.Instr.TheVariants.{Load, Check, Get, Peek, Store, StoreAt, Adjust, Increment, AdjustAt, Jump, JumpIfZero, Tick, Print, Put, PutAt, Ask, AskLink, AskElement, Clear, Assign, Call, Return, Leave, End}
use Rattle.snl_meaning.specs.declared.instrs.Variable.{Variable}
use Rattle.snl_meaning.specs.declared.names.Placed.{Placed}
use Rattle.snl_meaning.specs.Names.{flags_of, formats_of, words_of}
use Rattle.snl_meaning.specs.Run.{Entry}
use Rattle.snl_flat.specs.declared.code.Code.{Code}
use Rattle.snl_flat.specs.declared.starts.Piece.{Piece}
use Rattle.snl_flat.specs.Heres.{here_in, placed_in, shared_in}
use Rattle.snl_flat.specs.Layout.{routines_code}
use Rattle.snl_flat.specs.Pieces.{PieceTree, Test, Action, piece_of}
use Rattle.snl_flat.specs.Starts.{entries_of, table_of, start_in}

-- The instruction of an address leads to one that is there, in code of this size: a jump to one behind it, a tick to one before it
-- or to itself, each other one to the next, unless it ends the piece or a call. So what a return leads to is there: it is what stands
-- behind a call.
abbrev pub LeadsInside : (size at : ℕ) → Instr → Type 0
LeadsInside size at (Jump n) = at + 1 + n < size
LeadsInside size at (JumpIfZero n) = at + 1 + n < size
LeadsInside size at (Tick line back) = back ≤ at
LeadsInside size at Return = Unit {0}
LeadsInside size at (Leave state) = Unit {0}
LeadsInside size at End = Unit {0}
LeadsInside size at _ = at + 1 < size

-- The variables that code which runs on the copy of a state set may name: those of the copy, or those of functions.
abbrev pub held_by : ProgramTree → (set : ℕ) → (is_shared : Bool) → List CopyVariable
held_by p set false = variables_of p set
held_by p set true = shared_variables p

-- The same with their places.
abbrev pub placed_by : ProgramTree → (set : ℕ) → (is_shared : Bool) → List Placed
placed_by p set false = placed_in p set
placed_by p set true = shared_in p

-- A variable is one of the copy of a state set, or of functions, as it says itself; so it lies within their words, if these are no
-- more than an index can count.
pub record IsVariableOf (p : ProgramTree) (set : ℕ) (v : Variable) : Type 0 where
  pub number : ℕ
  pub placed : Placed
  pub is : slice_get (placed_by p set v.is_shared) number ≡ Some placed
  pub variable : placed.variable ≡ v
  pub within : words_of (held_by p set v.is_shared) ≤ 2 ^ 64 - 1 → v.place + v.size ≤ words_of (held_by p set v.is_shared)

-- What the rules of calls and of event flags make sure of: each call is one of a known function, with the arguments that it takes;
-- and each name that is used as an event flag means the declaration of one.
pub record FlagsAreDeclared (p : ProgramTree) : Type 0 where
  pub calls : (n : ℕ) (f : Token) (is_known is_fit may_stand has_value : Bool) (function : Option Pos) →
      slice_get (sites p) n ≡ Some (site.Call f is_known is_fit may_stand has_value function) → (is_known ≡ true) × (is_fit ≡ true)
  pub flags : (n : ℕ) (x : Token) (m : Meaning) (has_subscript : Bool) → slice_get (sites p) n ≡ Some (Use Flagged x m has_subscript) →
      (d : Pos) × (k : ℕ) × (declared_of p x.pos.offset ≡ Some d) × (slice_get (flags_of (sites p)) k ≡ Some d.offset)

-- What an instruction names is there, where it runs on the copy of a state set: its variable, and the element of that, unless it is
-- the first; a function of the program; a state of the state set, if that has one; a string of the program; and where a call takes
-- the name of an event flag, one of the program's, if the rules are kept.
abbrev pub NamesInside : ProgramTree → (set : ℕ) → Instr → Type 0
NamesInside p set (Load v) = IsVariableOf p set v
NamesInside p set (Check v line) = IsVariableOf p set v
NamesInside p set (Get v) = IsVariableOf p set v
NamesInside p set (Peek v) = IsVariableOf p set v
NamesInside p set (Store v line) = IsVariableOf p set v
NamesInside p set (StoreAt v line) = IsVariableOf p set v
NamesInside p set (Adjust v by op_line line is_before) = IsVariableOf p set v
NamesInside p set (AdjustAt v by op_line line is_before) = IsVariableOf p set v
NamesInside p set (Put v async) = IsVariableOf p set v
NamesInside p set (PutAt v async) = IsVariableOf p set v
NamesInside p set (AskLink query v) = IsVariableOf p set v
NamesInside p set (AskElement query v) = IsVariableOf p set v
NamesInside p set (Clear v) = IsVariableOf p set v
NamesInside p set (Increment v by op_line line) = IsVariableOf p set v
NamesInside p set (Assign v k line) = IsVariableOf p set v × ((k < v.size) ⊎ (k ≡ 0))
NamesInside p set (Call function count line) = function < length (functions_of p)
NamesInside p set (Leave state) = 0 < length (here_in p set).states → state < length (here_in p set).states
NamesInside p set (Print format count) = format < length (formats_of (here_in p set))
NamesInside p set (Ask query flag) = FlagsAreDeclared p → form_of (call.Ask query) ≡ FlagName → flag < length (flags_of (sites p))
NamesInside p set _ = Unit {0}

-- A state set on whose copy pieces run: one of the program's, or the first, on which the program's own two blocks run.
abbrev pub RunsOn : ProgramTree → ℕ → Type 0
RunsOn p set = (set < length p.state_sets) ⊎ (set ≡ 0)

-- The state set on whose copy a piece runs.
abbrev pub set_of : PieceTree → ℕ
set_of (Test set condition) = set
set_of (Action set b) = set

-- An address is in the piece that begins at another one: it does not lie before that, and no piece ends between them.
abbrev pub IsInPiece : List Instr → (start at : ℕ) → Type 0
IsInPiece code start at = (start ≤ at) × ((k : ℕ) → start ≤ k → k < at → slice_get code k ≡ Some End → ⊥)

-- A function begins at an instruction, in code of this size, and its parameters are variables, on whatever copy it runs.
pub record IsEntryInside (p : ProgramTree) (size : ℕ) (e : Entry) : Type 0 where
  pub start : e.start < size
  pub parameters : (set n : ℕ) (v : Variable) → slice_get e.parameters n ≡ Some v → IsVariableOf p set v

-- All code of a program lies inside: each instruction leads inside; it names what is there on a copy on which pieces run; in a piece
-- that is the copy on which the piece runs, and in functions, whose code stands first, that is every copy; and there is an entry for
-- each function, which lies inside.
pub record IsInside (p : ProgramTree) (c : Code) : Type 0 where
  pub leads : (at : ℕ) (i : Instr) → slice_get c.instrs.items at ≡ Some i → LeadsInside (length c.instrs.items) at i
  pub names : (at : ℕ) (i : Instr) → slice_get c.instrs.items at ≡ Some i → (set : ℕ) × RunsOn p set × NamesInside p set i
  pub own : (name : Piece) (piece : PieceTree) (start at : ℕ) (i : Instr) → piece_of p name ≡ Some piece → start_in (table_of c) name ≡ Some start →
      IsInPiece c.instrs.items start at → slice_get c.instrs.items at ≡ Some i → NamesInside p (set_of piece) i
  pub everywhere : (at : ℕ) (i : Instr) → at < length (routines_code p) → slice_get c.instrs.items at ≡ Some i → (set : ℕ) → NamesInside p set i
  pub count : length (entries_of c) ≡ length (functions_of p)
  pub entry : (function : ℕ) (e : Entry) → slice_get (entries_of c) function ≡ Some e → IsEntryInside p (length c.instrs.items) e
