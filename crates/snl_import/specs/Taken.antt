-- What a program takes of a trace: events of its own channels, with values that fit their variables.
use Rattle.std.specs.Prelude.{◌≡◌, ℕ, Bool, true, false, List, Option, None, Some, Result, Ok, Err, All}
use Rattle.snl_schedule.specs.declared.events.Event.{Event}
use Rattle.snl_schedule.specs.declared.events.Event.TheVariants as events
use Rattle.snl_machine.specs.declared.machine.Machine.{Machine}
use Rattle.snl_machine.specs.Lookup.{channel_of, fits_of}
use Rattle.snl_output.specs.TraceLines.{whole_lines}
use Rattle.snl_trace.specs.Grammar.{Told, told_of, event_of}
use Rattle.snl_trace.specs.declared.trace_faults.TraceFault.{TraceFault}

-- An event of one of a program's channels, or of none. It is neither a fault of the trace nor about a channel that the program does
-- not use.
abbrev pub is_own : Result Event TraceFault → Bool
is_own (Err fault) = false
is_own (Ok (events.Up channel)) = true
is_own (Ok (events.Down channel)) = true
is_own (Ok (events.Val channel values)) = true
is_own (Ok (events.Done channel)) = true
is_own (Ok events.Tick) = true
is_own (Ok events.Other) = false

-- What a line tells is taken by a machine's program, where the event that a run makes of it is such a one.
abbrev pub taken_by : Machine → Told → Bool
taken_by m told = is_own (event_of (channel_of m) (fits_of m) told)

-- Whatever a line tells is taken.
abbrev pub IsTaken : (Told → Bool) → List ℕ → Type 0
IsTaken taken line = (last : ℕ) (event : ℕ × Told) → told_of last line ≡ Ok (Some event) → taken event.1 ≡ true

-- Whatever a text tells is taken.
abbrev pub AreTaken : (Told → Bool) → List ℕ → Type 0
AreTaken taken text = All (IsTaken taken) (whole_lines text)

-- Whatever the trace tells that a sink was given is taken. A sink that tells nothing says nothing of that.
abbrev pub TellsTaken : (Told → Bool) → Option (List ℕ) → Type 0
TellsTaken taken None = Unit {0}
TellsTaken taken (Some text) = AreTaken taken text
