-- What a program shows to who looks at it from outside: its state sets, their states, and where their clauses lead.
use Rattle.std.specs.Prelude.{ℕ, List, map, codes}
use Rattle.snl_syntax.specs.Programs.{TargetTree, to_state, to_exit, ClauseTree, StateTree, StateSetTree, ProgramTree}
use Rattle.snl_outline.specs.declared.shapes.ClauseOutline.{ClauseOutline}
use Rattle.snl_outline.specs.declared.shapes.ProgramOutline.{ProgramOutline}
use Rattle.snl_outline.specs.declared.shapes.SetOutline.{SetOutline}
use Rattle.snl_outline.specs.declared.shapes.StateOutline.{StateOutline}

-- ---- the shape of a program

-- A state: its name, and the name of where each of its clauses leads, in order.
pub record StateShape : Type 0 where
  pub name : List ℕ
  pub targets : List (List ℕ)

-- A state set: its name, and its states in order.
pub record SetShape : Type 0 where
  pub name : List ℕ
  pub states : List StateShape

-- A program: its name, and its state sets in order.
pub record Shape : Type 0 where
  pub name : List ℕ
  pub sets : List SetShape

-- The name of where a clause leads; `exit` is that of the way out of the program, and of no state.
abbrev pub target_name : TargetTree → List ℕ
target_name (to_state x) = x.text.now
target_name to_exit = codes "exit"

-- Those of clauses, in order.
abbrev pub targets_of : List ClauseTree → List (List ℕ)
targets_of cs = map (λ c. target_name c.target) cs

-- The shape of a state,
abbrev pub state_shape : StateTree → StateShape
state_shape s = record { name = s.name.text.now; targets = targets_of s.clauses }

-- of a state set,
abbrev pub set_shape : StateSetTree → SetShape
set_shape g = record { name = g.name.text.now; states = map state_shape g.states }

-- and of a program.
abbrev pub shape_of : ProgramTree → Shape
shape_of p = record { name = p.name.text.now; sets = map set_shape p.state_sets }

-- ---- outlines

-- Where the clauses of an outline lead,
abbrev pub targets_in : List ClauseOutline → List (List ℕ)
targets_in clauses = map (λ c. c.target.items) clauses

-- and the shape that an outline has, of a state,
abbrev pub outlined_state : StateOutline → StateShape
outlined_state s = record { name = s.name.items; targets = targets_in s.clauses.items }

-- of a state set,
abbrev pub outlined_set : SetOutline → SetShape
outlined_set g = record { name = g.name.items; states = map outlined_state g.states.items }

-- and of a program.
abbrev pub outlined : ProgramOutline → Shape
outlined o = record { name = o.name.items; sets = map outlined_set o.sets.items }
