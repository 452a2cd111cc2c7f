-- The state sets of a program, with the names of their states.
use Rattle.std.specs.Prelude.{ℕ, List, map}
use Rattle.snl_outline.specs.declared.shapes.SetOutline.{SetOutline}
use Rattle.snl_syntax.specs.Programs.{ProgramTree, StateSetTree}

-- A state set: its name, and those of its states, in the order of the source. A state has the number of its place, from 0 on.
pub record Names : Type 0 where
  pub set : List ℕ
  pub states : List (List ℕ)

-- Those of a state set,
abbrev pub names_in : StateSetTree → Names
names_in s = record { set = s.name.text.now; states = map (λ state. state.name.text.now) s.states }

-- and of a program.
abbrev pub names_of : ProgramTree → List Names
names_of p = map names_in p.state_sets

-- Those of an outline.
abbrev pub seen : SetOutline → Names
seen o = record { set = o.name.items; states = map (λ state. state.name.items) o.states.items }
