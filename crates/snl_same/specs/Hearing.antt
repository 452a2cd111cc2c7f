-- What a plain line tells a machine.
use Rattle.std.specs.Prelude.{◌≡◌, ℕ, List, Option, None, Some, Ok}
use Rattle.snl_machine.specs.Lookup.{channel_of, fits_of}
use Rattle.snl_machine.specs.MachineOf.{world_held}
use Rattle.snl_machine.specs.declared.machine.Machine.{Machine}
use Rattle.snl_schedule.specs.declared.events.Event.{Event}
use Rattle.snl_schedule.specs.declared.events.Event.TheVariants as event
use Rattle.snl_trace.specs.Grammar.{read_of}

-- An event with values, of another channel; any other event is as it was.
abbrev pub with_number : ℕ → Event → Event
with_number number (event.Val channel values) = event.Val number values
with_number number (event.Up channel) = event.Up channel
with_number number (event.Down channel) = event.Down channel
with_number number (event.Done channel) = event.Done channel
with_number number event.Tick = event.Tick
with_number number event.Other = event.Other

-- The values that stand in a room, as those of a channel; without a channel time has passed.
abbrev pub event_by : Event → Option ℕ → Event
event_by room None = event.Tick
event_by room (Some number) = with_number number room

-- At the time at which a machine stands a line tells it values, which stand in a room, of a channel; or that time has passed.
abbrev pub Tells : Event → (ms : ℕ) → (channel : Option ℕ) → Machine → (line : List ℕ) → Type 0
Tells room ms channel m line = Ok (Some (ms, event_by room channel)) ≡ read_of (channel_of m) (fits_of m) (world_held m).time line
