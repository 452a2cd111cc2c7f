-- Which states of a program are reached, by a table of them.
use Rattle.std.specs.Prelude.{◌≡◌, ◌<◌, ◌↔◌, ℕ, Bool, true, false, List, [], Vec, length, map, slice_get, unwrap_or, Option, None, Some}
use Rattle.std.proofs.Common.{Global}
use Rattle.snl_syntax.specs.Programs.{StateSetTree, ProgramTree}
use Rattle.snl_reach.specs.Marks.{AreReached}
use Rattle.snl_reach.specs.Reach.{IsReached}
use Rattle.snl_flat.specs.Heres.{states_by}

-- For each state set, and each number of a state in it, whether that state is in the table.
abbrev pub Table : Type 0
Table = (set state : ℕ) → Bool

-- A state set of a program has a state of this number.
abbrev pub HasState : ProgramTree → (set state : ℕ) → Type 0
HasState p set state = state < length (states_by (slice_get p.state_sets set))

-- The table tells of each state of a program whether it is reached.
abbrev pub TellsReached : ProgramTree → Table → Type 0
TellsReached p reached = (set state : ℕ) (g : StateSetTree) → slice_get p.state_sets set ≡ Some g → state < length g.states →
    (reached set state ≡ true) ↔ IsReached g.states state

-- ---- the table of marks

-- Whether a state has a mark, by its number; a state that is not there has none.
abbrev pub is_marked : List Bool → ℕ → Bool
is_marked marks state = unwrap_or (slice_get marks state) false

-- The marks of the states of a state set, if there is one.
abbrev pub marks_by : Option (List Bool) → List Bool
marks_by None = []
marks_by (Some marks) = marks

-- The same by the number of the state set.
abbrev pub marks_in : List (List Bool) → ℕ → List Bool
marks_in marks set = marks_by (slice_get marks set)

-- What stands for the marks of all state sets.
abbrev pub rows : List (Vec Bool Global) → List (List Bool)
rows marks = map (λ row. row.items) marks

-- The table of those states that have a mark.
abbrev pub table_by : List (Vec Bool Global) → Table
table_by marks set = is_marked (marks_in (rows marks) set)

-- In each state set those states have a mark that are reached.
abbrev pub AreMarked : List StateSetTree → List (Vec Bool Global) → Type 0
AreMarked sets marks = (k : ℕ) (g : StateSetTree) → slice_get sets k ≡ Some g → AreReached g.states (marks_in (rows marks) k)
