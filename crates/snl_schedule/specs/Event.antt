-- What one line of a trace does: first all wakes before its time, then the event.
use Rattle.std.specs.Prelude.{◌≡◌, ℕ, zero, suc, ◌-◌, Bool, true, false, ◌&&◌, nat_lt, List, [], Option, None, Some, if◌then◌else◌}
use Rattle.snl_schedule.specs.declared.events.Event.{Event}
use Rattle.snl_schedule.specs.declared.events.Event.TheVariants.{Up, Down, Val, Done, Tick, Other}
use Rattle.snl_meaning.specs.declared.live.Live.{Live}
use Rattle.snl_meaning.specs.declared.live.Live.TheVariants.{Running, Ended}
use Rattle.snl_meaning.specs.Ran.{Ran, Gives, Faults, then_do}
use Rattle.snl_meaning.specs.World.{World}
use Rattle.snl_meaning.specs.declared.ties.Tied.{Tied}
use Rattle.snl_schedule.specs.Arrivals.{connected, received, answered, are_fit}
use Rattle.snl_schedule.specs.Instant.{Program, instant_of}

-- What an event changes of channels and buffers. A channel that goes down answers no puts any more, so no link of it waits.
abbrev pub applied : Program → Event → World → World
applied p (Up channel) w = connected channel true w
applied p (Down channel) w = answered p channel (connected channel false w)
applied p (Val channel values) w = received p channel values.items w
applied p (Done channel) w = answered p channel w
applied p Tick w = w
applied p Other w = w

-- ---- wakes

-- The wake, by how far the program has come, if it comes before a time.
abbrev pub wake_by : ℕ → Live → Option ℕ → Option ℕ
wake_by ms Running (Some wake) = if nat_lt wake ms then Some wake else None
wake_by ms _ _ = None

-- The same of the world as it is.
abbrev pub wake_before : ℕ → World → Option ℕ
wake_before ms w = wake_by ms w.phase w.wake

-- An instant at the wake, if there is one, and then the others.
abbrev pub woken : Program → ℕ → (World → Ran (Unit {0})) → Option ℕ → World → Ran (Unit {0})
woken p budget others None w = Gives tt w []
woken p budget others (Some wake) w = then_do (instant_of p budget (record w { time = wake })) (λ _ u. others u)

-- At most so many wakes before a time, one after another.
abbrev pub wakes_of : Program → (budget ms n : ℕ) → World → Ran (Unit {0})
wakes_of p budget ms zero w = Gives tt w []
wakes_of p budget ms (suc n) w = woken p budget (wakes_of p budget ms n) (wake_before ms w) w

-- Each wake lies after the one before it, so there are at most as many as there are milliseconds until then.
abbrev pub all_wakes : Program → (budget ms : ℕ) → World → Ran (Unit {0})
all_wakes p budget ms w = wakes_of p budget ms (ms - w.time) w

-- ---- a line

-- An event at its time, by how far the program has come then: what has ended stays as it is.
abbrev pub event_by : Program → (budget ms : ℕ) → Event → Live → World → Ran (Unit {0})
event_by p budget ms event Ended w = Gives tt w []
event_by p budget ms event _ w = instant_of p budget (applied p event (record w { time = ms }))

-- All wakes before the time of an event, and then the event.
abbrev pub passed : Program → (budget ms : ℕ) → Event → World → Ran (Unit {0})
passed p budget ms event w = then_do (all_wakes p budget ms w) (λ _ u. event_by p budget ms event u.phase u)

-- What instants give to who asked for them: a fault ends the run.
abbrev pub closed : Ran (Unit {0}) → Ran Live
closed (Gives _ w text) = Gives w.phase w text
closed (Faults f line w text) = Faults f line (record w { phase = Ended }) text

-- An event at a time, by how far the program has come: what has ended stays as it is, its time too.
abbrev pub line_by : Program → ℕ → ℕ → Event → Live → World → Ran Live
line_by p budget ms event Ended w = Gives Ended w []
line_by p budget ms event _ w = closed (passed p budget ms event w)

-- The same of the world as it is.
abbrev pub line_of : Program → ℕ → ℕ → Event → World → Ran Live
line_of p budget ms event w = line_by p budget ms event w.phase w

-- The times at which a line has an instant: at each wake before its time, one after another, and, unless the program has ended
-- by then, at its own.
pub data HasInstant (p : Program) (budget ms : ℕ) (w : World) : ℕ → Type 0 where
  -- at the wake that comes after so many others
  AtWake : (n wake : ℕ) (u : World) (text : List ℕ) → wakes_of p budget ms n w ≡ Gives tt u text → wake_before ms u ≡ Some wake → HasInstant p budget ms w wake
  -- after all of them
  AtLine : (u : World) (text : List ℕ) → all_wakes p budget ms w ≡ Gives tt u text → (u.phase ≡ Ended → ⊥) → HasInstant p budget ms w ms

-- Whether an event fits: its channel, where it has one, is one of so many, and its values fit the links of that.
abbrev pub is_event_fit : ℕ → List Tied → Event → Bool
is_event_fit channels ls (Up channel) = nat_lt channel channels
is_event_fit channels ls (Down channel) = nat_lt channel channels
is_event_fit channels ls (Val channel values) = nat_lt channel channels && are_fit channel values.items ls
is_event_fit channels ls (Done channel) = nat_lt channel channels
is_event_fit channels ls Tick = true
is_event_fit channels ls Other = true
