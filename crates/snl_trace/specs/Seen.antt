-- What the functions of the crate return, in the words of the grammar.
use Rattle.std.specs.Prelude.{ℕ, List, Option, Some, option_map, Result, Ok, Err, ℤ}
use denote.Ref.{Bor}
use Rattle.snl_schedule.specs.declared.events.Event.{Event}
use Rattle.snl_schedule.specs.declared.events.Event.TheVariants as events
use Rattle.snl_trace.specs.declared.reader.Heard.{Heard}
use Rattle.snl_trace.specs.declared.reader.Heard.TheVariants as heard
use Rattle.snl_trace.specs.declared.trace_faults.TraceFault.{TraceFault}
use Rattle.snl_trace.specs.declared.words.Telling.{Telling}
use Rattle.snl_trace.specs.declared.words.Telling.TheVariants as telling
use Rattle.snl_trace.specs.Fields.{fields}
use Rattle.snl_trace.specs.Grammar as grammar
use Rattle.snl_trace.specs.Grammar.{Told, ◌>>=◌}

-- what is told, with the values that stand apart
abbrev pub told : List ℤ → Telling → Told
told values (telling.Up name) = grammar.Up name.now
told values (telling.Down name) = grammar.Down name.now
told values (telling.Done name) = grammar.Done name.now
told values (telling.Val name) = grammar.Val name.now values
told values telling.Tick = grammar.Tick

-- the same result, with its value as a view shows it
abbrev pub seen : {A B : Type 0} → (A → B) → Result A TraceFault → Result B TraceFault
seen view (Ok value) = Ok (view value)
seen view (Err fault) = Err fault

-- the time, and the fields that are left
abbrev pub time_seen : ℕ × Bor (List ℕ) → ℕ × List (List ℕ)
time_seen time = (time.0, fields time.1.now)

-- the time and what is told, if anything is
abbrev pub told_seen : List ℤ → Option (ℕ × Telling) → Option (ℕ × Told)
told_seen values heard = option_map (λ at. (at.0, told values at.1)) heard

-- the event that was heard, where the one with values stands apart
abbrev pub event_heard : Event → Heard → Event
event_heard room (heard.Up channel) = events.Up channel
event_heard room (heard.Down channel) = events.Down channel
event_heard room (heard.Done channel) = events.Done channel
event_heard room heard.Values = room
event_heard room heard.Tick = events.Tick
event_heard room heard.Other = events.Other

-- the channel of an event that says no more; 0 of any other
abbrev pub channel_in : Event → ℕ
channel_in (events.Up channel) = channel
channel_in (events.Down channel) = channel
channel_in (events.Done channel) = channel
channel_in event = 0

-- the same event of another channel
abbrev pub with_channel : ℕ → Event → Event
with_channel number (events.Up channel) = events.Up number
with_channel number (events.Down channel) = events.Down number
with_channel number (events.Done channel) = events.Done number
with_channel number event = event

-- the time and the event that was heard, if one was
abbrev pub event_seen : Event → Option (ℕ × Heard) → Option (ℕ × Event)
event_seen room at = option_map (λ h. (h.0, event_heard room h.1)) at

-- the time and an event, if it is one
abbrev pub event_at_time : ℕ → Result Event TraceFault → Result (Option (ℕ × Event)) TraceFault
event_at_time ms made = made >>= λ event. Ok (Some (ms, event))

-- whether an event has room for values
abbrev pub HasRoom : Event → Type 0
HasRoom (events.Val channel values) = Unit {0}
HasRoom (events.Up channel) = ⊥
HasRoom (events.Down channel) = ⊥
HasRoom (events.Done channel) = ⊥
HasRoom events.Tick = ⊥
HasRoom events.Other = ⊥
