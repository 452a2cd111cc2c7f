-- A wake, as an event.
use Rattle.std.specs.Prelude.{◌≡◌, ℕ, Some}
use Rattle.snl_meaning.specs.World.{World}
use Rattle.snl_schedule.specs.Event.{closed, line_of, wake_before}
use Rattle.snl_schedule.specs.Instant.{Program, instant_of}
use Rattle.snl_schedule.specs.declared.events.Event.TheVariants.{Tick}

-- A `tick` at the time of the next wake has one instant, that of the wake, and nothing else.
abbrev pub TicksAreWakes : Type 0
TicksAreWakes = (p : Program) (budget ms wake : ℕ) (w : World) → wake_before ms w ≡ Some wake →
    line_of p budget wake Tick w ≡ closed (instant_of p budget (record w { time = wake }))
