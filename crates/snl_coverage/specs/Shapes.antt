-- The lines of the transitions of a program, by its shape.
use Rattle.std.specs.Prelude.{ℕ, List, Vec, map}
use Rattle.std.proofs.Common.{Global}
use Rattle.std.specs.List.{flat_map}
use Rattle.snl_heard.specs.Words.{go_end}
use Rattle.snl_outline.specs.Shapes.{SetShape, Shape, StateShape, outlined}
use Rattle.snl_coverage.specs.declared.charts.Chart.{Chart}

-- ---- the lines of its clauses

-- What follows the time in the lines of clauses that lead to these states, in order,
abbrev pub arrow_texts : List ℕ → List ℕ → List (List ℕ) → List (List ℕ)
arrow_texts set from targets = map (go_end set from) targets

-- of the clauses of a state,
abbrev pub state_texts : List ℕ → StateShape → List (List ℕ)
state_texts set s = arrow_texts set s.name s.targets

-- of a state set,
abbrev pub set_texts : SetShape → List (List ℕ)
set_texts g = flat_map (state_texts g.name) g.states

-- and of a program: one for each clause.
abbrev pub go_texts : Shape → List (List ℕ)
go_texts p = flat_map set_texts p.sets

-- Texts that the code keeps.
abbrev pub bytes_of : List (Vec ℕ Global) → List (List ℕ)
bytes_of texts = map (λ text. text.items) texts

-- ---- charts

-- The shape that a chart has is that of its outline.
abbrev pub charted : Chart → Shape
charted c = outlined c.outline
