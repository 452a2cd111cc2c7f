-- Which states a run can come to, by a table of them: without the pieces of all others a program does the same.
use Rattle.std.specs.Prelude.{◌≡◌, ◌↔◌, ℕ, Bool, true, List, slice_get, Some}
use Rattle.snl_syntax.specs.Programs.{StateSetTree, ProgramTree}
use Rattle.snl_reach.specs.Reach.{LeadsTo}
use Rattle.snl_channels.specs.Links.{Link}
pub use Rattle.snl_flat.specs.Reached.{Table, HasState, TellsReached}
use Rattle.snl_load.specs.First.{first_world_of}
use Rattle.snl_load.specs.Meaning.{program_meaning}
use Rattle.snl_load.specs.Reached.{only_reached}
use Rattle.snl_meaning.specs.declared.live.Live.TheVariants.{Ended}
use Rattle.snl_meaning.specs.Keeping.{world_after}
use Rattle.snl_meaning.specs.World.{World, copy_of}
use Rattle.snl_schedule.specs.declared.events.Event.{Event}
use Rattle.snl_schedule.specs.Event.{HasInstant, line_of}

-- A state is in the table, if there is such a state.
abbrev pub IsIn : ProgramTree → Table → (set state : ℕ) → Type 0
IsIn p reached set state = HasState p set state → reached set state ≡ true

-- The first state of each state set is in the table, and with each state that is in it each state that it names as a target.
pub record IsClosed (p : ProgramTree) (reached : Table) : Type 0 where
  pub first : (set : ℕ) → IsIn p reached set 0
  pub next : (set i j : ℕ) (g : StateSetTree) → slice_get p.state_sets set ≡ Some g → reached set i ≡ true → LeadsTo g.states i j → reached set j ≡ true

-- As long as the run has not ended, the state that each state set is in is in the table.
abbrev pub AreReached : ProgramTree → Table → World → Type 0
AreReached p reached w = (w.phase ≡ Ended → ⊥) → (set : ℕ) → IsIn p reached set (copy_of set w).state

-- ---- laws of closed tables

-- Before the first event it is so.
abbrev pub FirstAreReached : Type 0
FirstAreReached = (p : ProgramTree) (ls : List Link) (reached : Table) → IsClosed p reached → AreReached p reached (first_world_of p ls)

-- After a line it is so again, whatever its event is, and also where the run comes to a fault.
abbrev pub ReachedStay : Type 0
ReachedStay = (p : ProgramTree) (ls : List Link) (waits : Bool) (reached : Table) (budget ms : ℕ) (event : Event) (w : World) → IsClosed p reached →
    AreReached p reached w → AreReached p reached (world_after (line_of (program_meaning p ls waits) budget ms event w))

-- In such a world a line does the same without the pieces of all states that are not in the table.
abbrev pub UnreachedDoNothing : Type 0
UnreachedDoNothing = (p : ProgramTree) (ls : List Link) (waits : Bool) (reached : Table) (budget ms : ℕ) (event : Event) (w : World) → IsClosed p reached →
    AreReached p reached w → line_of (only_reached reached (program_meaning p ls waits)) budget ms event w ≡ line_of (program_meaning p ls waits) budget ms event w

-- Nor does it have its instants at other times.
abbrev pub InstantsAreTheSame : Type 0
InstantsAreTheSame = (p : ProgramTree) (ls : List Link) (waits : Bool) (reached : Table) (budget ms : ℕ) (w : World) (t : ℕ) → IsClosed p reached →
    AreReached p reached w → HasInstant (only_reached reached (program_meaning p ls waits)) budget ms w t ↔ HasInstant (program_meaning p ls waits) budget ms w t

-- ---- the table of all states that are reached

-- The table that tells which states are reached is closed.
abbrev pub ReachedAreClosed : Type 0
ReachedAreClosed = (p : ProgramTree) (reached : Table) → TellsReached p reached → IsClosed p reached
