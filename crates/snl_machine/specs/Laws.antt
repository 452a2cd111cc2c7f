-- Laws of machines, and of the state sets that they run.
use Rattle.std.specs.Prelude.{◌≡◌, ℕ, Bool, List}
use Rattle.snl_syntax.specs.Programs.{StateSetTree, ProgramTree}
use Rattle.snl_channels.specs.Links.{Link}
use Rattle.snl_meaning.specs.Keeping.{world_after}
use Rattle.snl_meaning.specs.World.{World, copy_of}
use Rattle.snl_schedule.specs.Turn.{turn_of}
use Rattle.snl_flat.specs.Starts.{table_of, holds_in}
use Rattle.snl_schedule.specs.declared.events.Event.{Event}
use Rattle.snl_schedule.specs.Event.{line_of}
use Rattle.snl_load.specs.Meaning.{set_meaning}
use Rattle.snl_load.specs.Reached.{only_reached}
use Rattle.snl_machine.specs.declared.machine.Machine.{Machine}
use Rattle.snl_machine.specs.MachineOf.{IsMachineOf, task_held, task_of}
use Rattle.snl_machine.specs.Reached.{Table, AreReached}

-- The states that the code of a machine has: the program's states that are reached.
abbrev pub states_held : Machine → Table
states_held m = holds_in (table_of m.code)

-- What a machine of a program runs is what the program means on its tree, without the pieces of the states that are not reached.
-- So at each line it does what the program means, in its own world and in each other one whose states are reached.
pub record RunsAs (p : ProgramTree) (ls : List Link) (waits : Bool) (m : Machine) : Type 0 where
  pub channels : (task_held m).channels ≡ (task_of p ls waits).channels
  pub program : (task_held m).program ≡ only_reached (states_held m) (task_of p ls waits).program
  pub lines : (budget ms : ℕ) (event : Event) (w : World) → AreReached p (states_held m) w →
      line_of (task_held m).program budget ms event w ≡ line_of (task_of p ls waits).program budget ms event w
  pub stay : (budget ms : ℕ) (event : Event) (w : World) → AreReached p (states_held m) w →
      AreReached p (states_held m) (world_after (line_of (task_of p ls waits).program budget ms event w))

-- A machine of a program runs what the program means on its tree.
abbrev pub RunsItsProgram : Type 0
RunsItsProgram = (p : ProgramTree) (ls : List Link) (waits : Bool) (budget : ℕ) (m : Machine) → IsMachineOf p ls waits budget m → RunsAs p ls waits m

-- A turn of a state set changes nothing of the copy of another one: all that passes between them is event flags, buffers and
-- marks. The words of functions, which all share, pass nothing on: whatever stood there a call overwrites or sets to 0.
abbrev pub TurnsStayApart : Type 0
TurnsStayApart = (p : ProgramTree) (set other : ℕ) (g : StateSetTree) (w : World) → (set ≡ other → ⊥) →
    copy_of other (world_after (turn_of (set_meaning p set g) w)) ≡ copy_of other w
