-- A text that is a trace: what a run hears of its lines.
use Rattle.std.specs.Prelude.{◌≡◌, ◌==◌, ◌+◌, ℕ, List, [], ◌∷◌, ◌++◌, Option, None, Some, Result, Ok, Err, take, if◌then◌else◌}
use Rattle.snl_output.specs.TraceLines.{whole_lines}
use Rattle.snl_trace.specs.Grammar.{Told, Up, Down, Val, Tick, Done, told_of}
use Rattle.snl_trace.specs.declared.trace_faults.TraceFault.{TraceFault}
use Rattle.snl_logs.specs.Held.{numbers_of}
use Rattle.snl_import.specs.declared.happenings.Happening.{Happening}
use Rattle.snl_import.specs.declared.happenings.Happening.TheVariants as happenings

-- How far a run has heard a trace: the time of the last event, and how many events were values of a channel.
abbrev pub Heard : Type 0
Heard = ℕ × ℕ

-- An event that is values of a channel counts.
abbrev pub value_count : Told → ℕ
value_count (Val name values) = 1
value_count (Up name) = 0
value_count (Down name) = 0
value_count Tick = 0
value_count (Done name) = 0

-- What is heard of a line, and then of others. A line that tells no event, as a comment, is none of these.
abbrev pub heard_then : Result (Option (ℕ × Told)) TraceFault → Heard → (Heard → Option Heard) → Option Heard
heard_then (Err fault) heard others = None
heard_then (Ok None) heard others = None
heard_then (Ok (Some event)) heard others = others (event.0, heard.1 + value_count event.1)

-- How far a run has heard behind these lines, which are events by its own grammar. None where it refuses one of them, as for a time
-- below that of the event before.
abbrev pub hears : Heard → List (List ℕ) → Option Heard
hears heard [] = Some heard
hears heard (line ∷ lines) = heard_then (told_of heard.0 line) heard (λ behind. hears behind lines)

-- The bytes behind the last newline of a text that goes on from a line that has begun.
abbrev pub rest_from : List ℕ → List ℕ → List ℕ
rest_from begun [] = begun
rest_from begun (byte ∷ bytes) = if byte == 10 then rest_from [] bytes else rest_from (begun ++ byte ∷ []) bytes

-- A text is events, a line each, that a run takes, and that lead it from one moment to another: no time is below that of the event
-- before.
pub record AreEvents (from : Heard) (text : List ℕ) (to : Heard) : Type 0 where
  pub whole : rest_from [] text ≡ []
  pub told : hears from (whole_lines text) ≡ Some to

-- What happens to a channel, as an event of a trace. Of more than 1,024 values a run hears the first ones.
abbrev pub told_by : List ℕ → Happening → Told
told_by name happenings.Up = Up name
told_by name happenings.Down = Down name
told_by name (happenings.Values values) = Val name (take 1024 (numbers_of values.now))

-- Events behind events are events.
abbrev pub EventsGoOn : Type 0
EventsGoOn = (from mid to : Heard) (xs ys : List ℕ) → AreEvents from xs mid → AreEvents mid ys to → AreEvents from (xs ++ ys) to
