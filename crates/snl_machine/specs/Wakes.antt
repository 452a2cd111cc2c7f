-- Laws of time: wakes ascend and end by themselves, and time never falls.
use Rattle.std.specs.Prelude.{◌≡◌, ◌≤◌, ◌<◌, ℕ, Bool, List, [], None, Some}
use Rattle.snl_syntax.specs.Programs.{ProgramTree}
use Rattle.snl_channels.specs.Links.{Link}
use Rattle.snl_meaning.specs.declared.faults.Fault.{Fault}
use Rattle.snl_meaning.specs.declared.live.Live.TheVariants.{Running, Ended}
use Rattle.snl_meaning.specs.Keeping.{world_after}
use Rattle.snl_meaning.specs.Ran.{Ran, Gives, Faults, also}
use Rattle.snl_meaning.specs.World.{World}
use Rattle.snl_schedule.specs.declared.events.Event.{Event}
use Rattle.snl_schedule.specs.Event.{wake_before, all_wakes, line_of}
use Rattle.snl_schedule.specs.Instant.{Program, instant_of}
use Rattle.snl_load.specs.Meaning.{program_meaning}
use Rattle.snl_machine.specs.Ranges.{Reached}

-- Wakes from a world, one after another, until none comes before a time or an instant faults, and what they give together.
-- Nothing bounds how many there are.
pub data Wakes (p : Program) (budget ms : ℕ) : World → Ran (Unit {0}) → Type 0 where
  -- none comes before that time
  NoneLeft : (w : World) → wake_before ms w ≡ None → Wakes p budget ms w (Gives tt w [])
  -- the instant at the first one faults
  Faulty : (f : Fault) (line wake : ℕ) (w u : World) (text : List ℕ) → wake_before ms w ≡ Some wake →
      instant_of p budget (record w { time = wake }) ≡ Faults f line u text → Wakes p budget ms w (Faults f line u text)
  -- after the instant at the first one come the others
  Next : (wake : ℕ) (w u : World) (text : List ℕ) (r : Ran (Unit {0})) → wake_before ms w ≡ Some wake →
      instant_of p budget (record w { time = wake }) ≡ Gives tt u text → Wakes p budget ms u r → Wakes p budget ms w (also text r)

-- A due time that was noted lies after now.
abbrev pub IsDueLater : World → Type 0
IsDueLater w = (n : ℕ) → w.due ≡ Some n → w.time < n

-- Time stands still, and due times that are noted lie after it.
abbrev pub KeepsDue : World → World → Type 0
KeepsDue w u = (u.time ≡ w.time) × (IsDueLater w → IsDueLater u)

-- The wake of a program that runs lies after now.
abbrev pub IsWakeLater : World → Type 0
IsWakeLater w = (n : ℕ) → w.phase ≡ Running → w.wake ≡ Some n → w.time < n

-- So it does in all worlds that a run comes to.
abbrev pub WakesLieLater : Type 0
WakesLieLater = (p : ProgramTree) (ls : List Link) (waits : Bool) (budget : ℕ) (w : World) → Reached p ls waits budget w → IsWakeLater w

-- After a line the wake lies after now again.
abbrev pub WakesStayLater : Type 0
WakesStayLater = (p : ProgramTree) (ls : List Link) (waits : Bool) (budget ms : ℕ) (event : Event) (w : World) → IsWakeLater w →
    IsWakeLater (world_after (line_of (program_meaning p ls waits) budget ms event w))

-- All wakes before a time are run: they never end because there are no more than `all_wakes` allows.
abbrev pub WakesEnd : Type 0
WakesEnd = (p : ProgramTree) (ls : List Link) (waits : Bool) (budget ms : ℕ) (w : World) → IsWakeLater w →
    Wakes (program_meaning p ls waits) budget ms w (all_wakes (program_meaning p ls waits) budget ms w)

-- Time never falls, and never passes that of the event, as long as no event comes before the time of the last one.
abbrev pub TimeNeverFalls : Type 0
TimeNeverFalls = (p : ProgramTree) (ls : List Link) (waits : Bool) (budget ms : ℕ) (event : Event) (w : World) → IsWakeLater w → w.time ≤ ms →
    (w.time ≤ (world_after (line_of (program_meaning p ls waits) budget ms event w)).time) × ((world_after (line_of (program_meaning p ls waits) budget ms event w)).time ≤ ms)

-- After a line the time is that of its event, unless the program has ended: it may have done so at a wake before.
abbrev pub TimeIsTheEvents : Type 0
TimeIsTheEvents = (p : ProgramTree) (ls : List Link) (waits : Bool) (budget ms : ℕ) (event : Event) (w : World) → IsWakeLater w →
    ((world_after (line_of (program_meaning p ls waits) budget ms event w)).phase ≡ Ended → ⊥) → (world_after (line_of (program_meaning p ls waits) budget ms event w)).time ≡ ms

-- Where no wake comes before the event, and the program had not ended, the time is that of the event, also where that ends it.
abbrev pub TimeIsTheEventsAlone : Type 0
TimeIsTheEventsAlone = (p : ProgramTree) (ls : List Link) (waits : Bool) (budget ms : ℕ) (event : Event) (w : World) →
    wake_before ms w ≡ None → (w.phase ≡ Ended → ⊥) → (world_after (line_of (program_meaning p ls waits) budget ms event w)).time ≡ ms
