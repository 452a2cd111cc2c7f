-- What a machine says of channels and of events.
use Rattle.std.specs.Prelude.{ℕ, Bool, List, Option, length}
use Rattle.snl_schedule.specs.declared.events.Event.{Event}
use Rattle.snl_schedule.specs.Event.{is_event_fit}
use Rattle.snl_machine.specs.declared.machine.Machine.{Machine}
use Rattle.snl_machine.specs.MachineOf.{task_held}
use Rattle.snl_load.specs.Names.{position_of}

-- The number of the channel of a name, if the machine's program has one.
abbrev pub channel_of : Machine → List ℕ → Option ℕ
channel_of m name = position_of (task_held m).channels name

-- Whether an event fits a machine's program: its channel, where it has one, is the program's, and its values fit.
abbrev pub fits_of : Machine → Event → Bool
fits_of m event = is_event_fit (length (task_held m).channels) (task_held m).program.links event
