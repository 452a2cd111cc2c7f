-- The lines of transitions, but for their times: they are made before a run.
use Rattle.std.specs.Prelude.{ℕ, Bool, not, ◌&&◌, nat_lt, List, [], length, Option, Some, None, map, option_map, codes, slice_get, slice_index_or, if◌then◌else◌}
use Rattle.snl_output.specs.Lines.{go_rest}
use Rattle.snl_output.specs.Texts.{text_in}
use Rattle.snl_schedule.specs.declared.goes.Go.{Go}
use Rattle.snl_schedule.specs.declared.goes.Goes.{Goes}
use Rattle.snl_schedule.specs.declared.plans.ClausePlan.{ClausePlan}
use Rattle.snl_schedule.specs.declared.plans.Destination.{Destination}
use Rattle.snl_schedule.specs.declared.plans.Destination.TheVariants as to
use Rattle.snl_schedule.specs.declared.plans.StatePlan.{StatePlan}

-- The name of a state by its number; empty where there is none.
abbrev pub name_at : List StatePlan → ℕ → List ℕ
name_at states state = elim (slice_get states state) [ None ↦ [] | Some s ↦ s.name.items ]

-- The name of where a clause leads.
abbrev pub target_name : List StatePlan → Destination → List ℕ
target_name states (to.State target) = name_at states target
target_name states to.Exit = codes "exit"

-- Whether a name is short. So the lines that are kept take no more memory than so much for each clause.
abbrev pub is_short : List ℕ → Bool
is_short name = not (nat_lt 64 (length name))

-- What follows the time in the line of a transition between short names; None where one of them is long.
abbrev pub kept_text : List ℕ → List ℕ → List ℕ → Option (List ℕ)
kept_text set from to = if is_short set && is_short from && is_short to then Some (go_rest set from to) else None

-- A line that is kept: where its clause leads, and what follows the time, if that is kept.
abbrev pub Kept : Type 0
Kept = Destination × Option (List ℕ)

-- That of a clause, in a state set and a state of these names.
abbrev pub kept_for : List ℕ → List StatePlan → List ℕ → ClausePlan → Kept
kept_for set states from c = (c.target, kept_text set from (target_name states c.target))

-- Those of the clauses of a state,
abbrev pub kept_in : List ℕ → List StatePlan → StatePlan → List Kept
kept_in set states s = map (kept_for set states s.name.items) s.clauses.items

-- and of all states of a state set.
abbrev pub kept_of : List ℕ → List StatePlan → List (List Kept)
kept_of set states = map (kept_in set states) states

-- What the code keeps of a line,
abbrev pub kept_view : Go → Kept
kept_view g = (g.target, option_map text_in g.text)

-- and of all lines.
abbrev pub kept_views : Goes → List (List Kept)
kept_views gs = map (λ row. map kept_view row.items) gs.rows.items

-- What is kept of the line of a clause, by the numbers of its state and of the clause.
abbrev pub kept_at : Goes → ℕ → ℕ → Option Kept
kept_at gs state clause = slice_get (slice_index_or (kept_views gs) state []) clause
