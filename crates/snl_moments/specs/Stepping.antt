-- Where an event, and a line of a trace, leads a machine.
use Rattle.std.specs.Prelude.{◌≡◌, ℕ, List, Option, Ok}
use Rattle.snl_machine.specs.MachineOf.{StaysMachineOf, world_held}
use Rattle.snl_machine.specs.declared.machine.Machine.{Machine}
use Rattle.snl_meaning.specs.Keeping.{world_after}
use Rattle.snl_moments.specs.Plans.{SameAsked}
use Rattle.snl_moments.specs.Tells.{sizes_of}
use Rattle.snl_moments.specs.Walks.{IsRefused, MeansAs}
use Rattle.snl_moments.specs.declared.line_step.Done.{Done}
use Rattle.snl_moments.specs.declared.line_step.Done.TheVariants.{Bad, Well}
use Rattle.snl_moments.specs.declared.subject.Subject.{Subject}
use Rattle.snl_schedule.specs.declared.events.Event.{Event}
use Rattle.snl_trace.specs.Run.{Rules, line_done}

-- A machine goes to a world, and stays one of its program; how large the world is stays, too.
pub record GoesTo (old new : Machine) : Type 0 where
  pub sizes : sizes_of (world_held new) ≡ sizes_of (world_held old)
  pub stays : StaysMachineOf old new

-- It does what an event at a time means.
pub record Follows (ms : ℕ) (event : Event) (old new : Machine) : Type 0 where
  pub goes : GoesTo old new
  pub world : (r : Rules) → MeansAs r old → world_held new ≡ world_after (r.act ms event (world_held old))

-- A line that was read so, and done.
pub record LineFollows (line : List ℕ) (old new : Machine) : Type 0 where
  pub goes : GoesTo old new
  pub world : (r : Rules) → MeansAs r old →
      (read : Option (ℕ × Event)) × (r.read (world_held old).time line ≡ Ok read) × (world_held new ≡ world_after (line_done r 0 line (world_held old)))

-- The stores and the moments of a walk are as before, and what is asked of it.
pub record LeavesMoments (old new : Subject) : Type 0 where
  pub spares : new.spares.items ≡ old.spares.items
  pub moments : new.moments.items ≡ old.moments.items
  pub asked : SameAsked old new

-- What came of a line: where it can't be read, the machine stays as it is.
abbrev pub IsDone : List ℕ → Done → Subject → Subject → Type 0
IsDone line (Well e) old new = LineFollows line old.machine new.machine × LeavesMoments old new
IsDone line (Bad number fault) old new =
    (new.machine ≡ old.machine) × LeavesMoments old new
    × ((r : Rules) → MeansAs r old.machine → IsRefused r (world_held old.machine) line)
