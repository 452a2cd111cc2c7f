-- Laws of whole instants: their rounds end by themselves, and they spend no more than the budget.
use Rattle.std.specs.Prelude.{◌≡◌, ◌≤◌, ℕ, Bool, List, []}
use Rattle.snl_syntax.specs.Programs.{ProgramTree}
use Rattle.snl_channels.specs.Links.{Link}
use Rattle.snl_meaning.specs.declared.faults.Fault.{Fault}
use Rattle.snl_meaning.specs.Ran.{Ran, Gives, Faults, also}
use Rattle.snl_meaning.specs.World.{World}
use Rattle.snl_load.specs.Meaning.{program_meaning}
use Rattle.snl_schedule.specs.declared.transitions.Turned.TheVariants.{Stayed, Moved, Exited}
use Rattle.snl_meaning.specs.Keeping.{world_after}
use Rattle.snl_schedule.specs.Instant.{Program, round_of, exited, all_rounds, instant_of}

-- Rounds from a world, one after another, until one has no transition, leads out of the program or faults, and what they
-- give together. Nothing bounds how many there are.
pub data Rounds (p : Program) : World → Ran (Unit {0}) → Type 0 where
  -- one that has no transition is the last; the wake is the least due time that it noted
  Last : (w u : World) (text : List ℕ) → round_of p w ≡ Gives Stayed u text → Rounds p w (also text (Gives tt (record u { wake = u.due }) []))
  -- one that leads out of the program is the last
  Leaves : (w u : World) (text : List ℕ) → round_of p w ≡ Gives Exited u text → Rounds p w (also text (exited p u))
  -- one that faults is the last
  Stops : (f : Fault) (line : ℕ) (w u : World) (text : List ℕ) → round_of p w ≡ Faults f line u text → Rounds p w (Faults f line u text)
  -- after one that has a transition there are others
  Again : (w u : World) (text : List ℕ) (r : Ran (Unit {0})) → round_of p w ≡ Gives Moved u text → Rounds p u r → Rounds p w (also text r)

-- The rounds of an instant end because one has no transition, leads out of the program, or faults: never because the
-- number of rounds is used up that `all_rounds` allows.
abbrev pub RoundsEnd : Type 0
RoundsEnd = (p : ProgramTree) (ls : List Link) (waits : Bool) (w : World) → Rounds (program_meaning p ls waits) w (all_rounds (program_meaning p ls waits) w)

-- An instant, which begins with the budget, leaves no more than that: no tick is ever given back. Where none is left, each
-- transition, each turn of a loop and each call of a function is a fault; so an instant never takes more of them than the budget.
abbrev pub TicksWithinBudget : Type 0
TicksWithinBudget = (p : ProgramTree) (ls : List Link) (waits : Bool) (budget : ℕ) (w : World) → (world_after (instant_of (program_meaning p ls waits) budget w)).ticks ≤ budget
