-- What the outline of a program tells: its state sets, their states and clauses, each with its place in the source.
use Rattle.std.specs.Prelude.{ℕ, List, map}
use Rattle.snl_outline.specs.declared.shapes.ClauseOutline.{ClauseOutline}
use Rattle.snl_outline.specs.declared.shapes.ProgramOutline.{ProgramOutline}
use Rattle.snl_outline.specs.declared.shapes.SetOutline.{SetOutline}
use Rattle.snl_outline.specs.declared.shapes.StateOutline.{StateOutline}
use Rattle.snl_outline.specs.Shapes.{target_name}
use Rattle.snl_syntax.specs.Programs.{ClauseTree, StateTree, StateSetTree, ProgramTree}

-- Of a clause: the name of where it leads, and the line and the offset of its word `when`.
pub record ClauseTold : Type 0 where
  pub target : List ℕ
  pub line : ℕ
  pub offset : ℕ

-- Of a state: its name with its line, and its clauses in order.
pub record StateTold : Type 0 where
  pub name : List ℕ
  pub line : ℕ
  pub clauses : List ClauseTold

-- Of a state set: its name, and its states in order.
pub record SetTold : Type 0 where
  pub name : List ℕ
  pub states : List StateTold

-- Of a program: its name with its line, and its state sets in order.
pub record ProgramTold : Type 0 where
  pub name : List ℕ
  pub line : ℕ
  pub sets : List SetTold

-- ---- of the tree

-- Of a clause,
abbrev pub clause_told : ClauseTree → ClauseTold
clause_told c = record { target = target_name c.target; line = c.word.pos.line; offset = c.word.pos.offset }

-- a state,
abbrev pub state_told : StateTree → StateTold
state_told s = record { name = s.name.text.now; line = s.name.pos.line; clauses = map clause_told s.clauses }

-- a state set,
abbrev pub set_told : StateSetTree → SetTold
set_told g = record { name = g.name.text.now; states = map state_told g.states }

-- and a program.
abbrev pub program_told : ProgramTree → ProgramTold
program_told p = record { name = p.name.text.now; line = p.name.pos.line; sets = map set_told p.state_sets }

-- ---- of an outline

-- What that of a clause says,
abbrev pub clause_said : ClauseOutline → ClauseTold
clause_said c = record { target = c.target.items; line = c.line; offset = c.offset }

-- of a state,
abbrev pub state_said : StateOutline → StateTold
state_said s = record { name = s.name.items; line = s.line; clauses = map clause_said s.clauses.items }

-- of a state set,
abbrev pub set_said : SetOutline → SetTold
set_said g = record { name = g.name.items; states = map state_said g.states.items }

-- and of a program.
abbrev pub program_said : ProgramOutline → ProgramTold
program_said o = record { name = o.name.items; line = o.line; sets = map set_said o.sets.items }
