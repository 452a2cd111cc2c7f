-- What it means that a world is one of a program: a run begins in such a world, and comes to no other.
use Rattle.std.specs.Prelude.{◌≡◌, ◌≤◌, ◌-◌, ℕ, Bool, List, length, slice_get}
use Rattle.snl_syntax.specs.Programs.{ProgramTree}
use Rattle.snl_channels.specs.Links.{Link}
use Rattle.snl_flat.specs.Heres.{states_by}
use Rattle.snl_load.specs.Meaning.{program_meaning}
use Rattle.snl_machine.specs.Frames.{frame_in}
use Rattle.snl_machine.specs.Ranges.{Reached}
use Rattle.snl_machine.specs.Wakes.{IsWakeLater}
use Rattle.snl_meaning.specs.declared.live.Live.TheVariants.{Ended}
use Rattle.snl_meaning.specs.Frames.{frame_of}
use Rattle.snl_meaning.specs.Keeping.{world_after}
use Rattle.snl_meaning.specs.World.{World, copy_of}
use Rattle.snl_schedule.specs.declared.events.Event.{Event}
use Rattle.snl_schedule.specs.Event.{line_of}

-- The number of the last state of a state set; 0 where it has none.
abbrev pub last_state : ProgramTree → ℕ → ℕ
last_state p set = length (states_by (slice_get p.state_sets set)) - 1

-- Each state set is in one of its states.
abbrev pub StatesExist : ProgramTree → World → Type 0
StatesExist p w = (set : ℕ) → (copy_of set w).state ≤ last_state p set

-- A world is one of a program with some links: it has the frame of the program; as long as the run goes on, each state set is in
-- one of its states; and the wake of a program that runs lies after now.
pub record IsWorldOf (p : ProgramTree) (ls : List Link) (w : World) : Type 0 where
  pub frame_is : frame_of w ≡ frame_in p ls w.time
  pub states_exist : (w.phase ≡ Ended → ⊥) → StatesExist p w
  pub wake_is_later : IsWakeLater w

-- A line leaves a world of a program, whatever its event is, and also where the run comes to a fault.
abbrev pub WorldsStay : Type 0
WorldsStay = (p : ProgramTree) (ls : List Link) (waits : Bool) (budget ms : ℕ) (event : Event) (w : World) → IsWorldOf p ls w →
    IsWorldOf p ls (world_after (line_of (program_meaning p ls waits) budget ms event w))

-- So every world that a run comes to is one of its program.
abbrev pub WorldsAreTheProgram : Type 0
WorldsAreTheProgram = (p : ProgramTree) (ls : List Link) (waits : Bool) (budget : ℕ) (w : World) → Reached p ls waits budget w → IsWorldOf p ls w
