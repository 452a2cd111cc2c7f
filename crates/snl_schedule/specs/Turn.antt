-- A turn of a state set: refresh, conditions, and at most one transition.
use Rattle.std.specs.Prelude.{ℕ, Bool, true, false, not, ◌||◌, ◌==◌, List, [], ◌∷◌, ◌++◌, Option, None, Some, slice_index_or, codes, if◌then◌else◌}
use Rattle.snl_output.specs.Lines.{go_line, fault_line, fault_text}
use Rattle.snl_meaning.specs.Ran.{Ran, Gives, Faults, then_do}
use Rattle.snl_meaning.specs.Words.{spent}
use Rattle.snl_meaning.specs.World.{World, copy_of, with_copy}
use Rattle.snl_schedule.specs.declared.plans.Again.{Again}
use Rattle.snl_schedule.specs.declared.plans.Destination.{Destination}
use Rattle.snl_schedule.specs.declared.plans.Destination.TheVariants as to
use Rattle.snl_schedule.specs.declared.transitions.Turned.{Turned}
use Rattle.snl_schedule.specs.declared.transitions.Turned.TheVariants.{Stayed, Moved, Exited}
use Rattle.snl_schedule.specs.Refresh.{refreshed}

-- ---- what a state set is to its turns

-- A clause: whether its condition holds, what its block does (it answers the state that it leaves for, if it does), where
-- the clause leads, and the line of the word `when`.
pub record Clause : Type 0 where
  pub holds : World → Ran Bool
  pub acts : World → Ran (Option ℕ)
  pub target : Destination
  pub line : ℕ

-- A state: what its entry block and its exit block do, and which of these things it does also where a transition leads
-- from it to itself.
pub record State : Type 0 where
  pub name : List ℕ
  pub entry : World → Ran (Unit {0})
  pub clauses : List Clause
  pub exit : World → Ran (Unit {0})
  pub again : Again

-- A state set, with its number.
pub record StateSet : Type 0 where
  pub set : ℕ
  pub name : List ℕ
  pub states : List State

-- A block that is not there does nothing.
abbrev pub nothing : World → Ran (Unit {0})
nothing w = Gives tt w []

-- What a number that names no state means.
abbrev pub no_state : State
no_state = record { name = []; entry = nothing; clauses = []; exit = nothing; again = record { time = true; entry = true; exit = true } }

-- A state by its number,
abbrev pub state_in : StateSet → ℕ → State
state_in s state = slice_index_or s.states state no_state

-- and its name.
abbrev pub state_name : StateSet → ℕ → List ℕ
state_name s state = (state_in s state).name

-- ---- the choice of a clause

-- What follows a condition: this clause, if it held, and otherwise another one.
abbrev pub chosen_if : Clause → (World → Ran (Option Clause)) → Bool → World → Ran (Option Clause)
chosen_if c others true w = Gives (Some c) w []
chosen_if c others false w = others w

-- The first clause whose condition holds. Each condition is evaluated in the world that the one before left; those after
-- the clause are not evaluated.
abbrev pub chosen : List Clause → World → Ran (Option Clause)
chosen [] w = Gives None w []
chosen (c ∷ cs) w = then_do (c.holds w) (chosen_if c (chosen cs))

-- ---- the states of a transition

-- Whether something is due on the way from a state to a state: always where they differ, and where they are the same only
-- if the state does it again.
abbrev pub is_due : Bool → (from to : ℕ) → Bool
is_due again from to = again || not (from == to)

-- It is done where it is due.
abbrev pub if_due : Bool → (World → Ran (Unit {0})) → World → Ran (Unit {0})
if_due due act w = if due then act w else nothing w

-- A state set is in a state from now on. The time of its entry is now, where that is due.
abbrev pub entered_in : (set state : ℕ) → Bool → World → World
entered_in set state is_timed w =
    let c = copy_of set w in with_copy set (record c { state = state; entered = if is_timed then w.time else c.entered }) w

-- The old state: its exit block, where that is due.
abbrev pub left_for : StateSet → (from to : ℕ) → World → Ran (Unit {0})
left_for s from to w = let q = state_in s from in if_due (is_due q.again.exit from to) q.exit w

-- The new state: the time of its entry, and then its entry block, where they are due.
abbrev pub come_to : StateSet → (from to : ℕ) → World → Ran (Unit {0})
come_to s from to w =
    let q = state_in s to in if_due (is_due q.again.entry from to) q.entry (entered_in s.set to (is_due q.again.time from to) w)

-- It was a transition to a state.
abbrev pub moved : Unit {0} → World → Ran Turned
moved _ w = Gives Moved w []

-- From a state to a state: what the old one does, and then the new one.
abbrev pub crossed : StateSet → (from to : ℕ) → World → Ran Turned
crossed s from to w = then_do (left_for s from to w) (λ _ u. then_do (come_to s from to u) moved)

-- ---- a transition

-- The line of a transition.
abbrev pub told_go : StateSet → ℕ → List ℕ → World → Ran (Unit {0})
told_go s from to w = Gives tt w (go_line w.time s.name (state_name s from) to)

-- The line, and then the states. A transition that leads out of the program is told as leading to `exit`; it enters no
-- state, and no block of a state is done.
abbrev pub arrived : StateSet → ℕ → Destination → World → Ran Turned
arrived s from (to.State target) w = then_do (told_go s from (state_name s target) w) (λ _ u. crossed s from target u)
arrived s from to.Exit w = then_do (told_go s from (codes "exit") w) (λ _ u. Gives Exited u [])

-- The state that a block left for; where it left for none, what the clause says.
abbrev pub target_by : Option ℕ → Destination → Destination
target_by None target = target
target_by (Some state) target = to.State state

-- What follows the block of a clause.
abbrev pub arrived_by : StateSet → ℕ → Destination → Option ℕ → World → Ran Turned
arrived_by s from target left w = arrived s from (target_by left target) w

-- A clause's block, and then where it leads.
abbrev pub acted : StateSet → ℕ → Clause → World → Ran Turned
acted s from c w = then_do (c.acts w) (arrived_by s from c.target)

-- A transition, in its order: a tick, charged to the word `when`; the block of the clause; the line; the exit block of the
-- old state; the time of entry of the new one; its entry block.
abbrev pub transition : StateSet → ℕ → Clause → World → Ran Turned
transition s from c w = then_do (spent c.line w) (λ _ u. acted s from c u)

-- ---- a turn

-- The transition of the clause that was chosen, if one was.
abbrev pub fired : StateSet → ℕ → Option Clause → World → Ran Turned
fired s from None w = Gives Stayed w []
fired s from (Some c) w = transition s from c w

-- The conditions of the state of a number, and the transition.
abbrev pub tried : StateSet → ℕ → World → Ran Turned
tried s from w = then_do (chosen (state_in s from).clauses w) (fired s from)

-- A fault is told in a line of its own.
abbrev pub told_fault : {A : Type 0} → List ℕ → Ran A → Ran A
told_fault set (Gives v w text) = Gives v w text
told_fault set (Faults f line w text) = Faults f line w (text ++ fault_line w.time set line (fault_text f))

-- A turn after the refresh.
abbrev pub turn_after : StateSet → World → Ran Turned
turn_after s w = told_fault s.name (tried s (copy_of s.set w).state w)

-- A turn; which transition it had.
abbrev pub turn_of : StateSet → World → Ran Turned
turn_of s w = turn_after s (refreshed s.set w)
