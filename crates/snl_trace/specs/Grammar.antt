-- What a line of a trace tells: a time and an event, no event, or a fault.
use Rattle.std.specs.Prelude.{ℕ, List, [], ◌∷◌, Option, None, Some, Result, Ok, Err, Bool, ℤ, length, take, option_map, nat_lt, if◌then◌else◌, codes}
use Rattle.std.specs.List.{list_all}
use Rattle.std.specs.Str.{bytes_eq}
use Rattle.snl_schedule.specs.declared.events.Event.{Event}
use Rattle.snl_schedule.specs.declared.events.Event.TheVariants as events
use Rattle.snl_trace.specs.declared.trace_faults.TraceFault.{TraceFault}
use Rattle.snl_trace.specs.declared.trace_faults.TraceFault.TheVariants.{NotAscii, BadTime, BackInTime, UnknownWord, FieldCount, BadValue, OutOfRange, LineTooLong}
use Rattle.snl_trace.specs.declared.words.LineWord.{LineWord}
use Rattle.snl_trace.specs.declared.words.LineWord.TheVariants as words
use Rattle.snl_trace.specs.Fields.{is_text, is_silent, fields}
use Rattle.snl_output.specs.TraceLines.{without_return}
use Rattle.snl_trace.specs.Numbers.{time_of, spelled_value}

-- what the fields behind the time tell, with a channel by its name
pub data Told : Type 0 where
  Up : (name : List ℕ) → Told
  Down : (name : List ℕ) → Told
  Val : (name : List ℕ) (values : List ℤ) → Told
  Tick : Told
  Done : (name : List ℕ) → Told

infixl 10 ◌>>=◌
-- the first fault, or else what comes of the value
abbrev pub ◌>>=◌ : {A B : Type 0} → Result A TraceFault → (A → Result B TraceFault) → Result B TraceFault
(Ok value) >>= next = next value
(Err fault) >>= next = Err fault

-- the value of each field, if each spells one
abbrev pub put_first : Option ℤ → Option (List ℤ) → Option (List ℤ)
put_first None values = None
put_first (Some value) values = option_map (λ rest. value ∷ rest) values

-- the values that fields spell, if each of them spells one
unfoldable pub values_of : List (List ℕ) → Option (List ℤ)
values_of [] = Some []
values_of (field ∷ rest) = put_first (spelled_value field) (values_of rest)

-- of the values the first 1,024
abbrev pub kept : Option (List ℤ) → Result (List ℤ) TraceFault
kept None = Err BadValue
kept (Some values) = Ok (take 1024 values)

-- of one or more fields
abbrev pub kept_values : List (List ℕ) → Result (List ℤ) TraceFault
kept_values [] = Err FieldCount
kept_values (field ∷ rest) = kept (values_of (field ∷ rest))

-- nothing more
abbrev pub ended : List (List ℕ) → Result (Unit {0}) TraceFault
ended [] = Ok tt
ended (field ∷ rest) = Err FieldCount

-- a name, and nothing more
unfoldable pub name_alone : List (List ℕ) → Result (List ℕ) TraceFault
name_alone [] = Err FieldCount
name_alone (name ∷ rest) = ended rest >>= λ _. Ok name

-- what `up` tells with these fields after it
unfoldable pub up_with : List (List ℕ) → Result Told TraceFault
up_with rest = name_alone rest >>= λ name. Ok (Up name)

-- what `down` tells with these fields after it
unfoldable pub down_with : List (List ℕ) → Result Told TraceFault
down_with rest = name_alone rest >>= λ name. Ok (Down name)

-- what `done` tells with these fields after it
unfoldable pub done_with : List (List ℕ) → Result Told TraceFault
done_with rest = name_alone rest >>= λ name. Ok (Done name)

-- what `val` tells with these fields after it
unfoldable pub val_with : List (List ℕ) → Result Told TraceFault
val_with [] = Err FieldCount
val_with (name ∷ rest) = kept_values rest >>= λ values. Ok (Val name values)

-- `tick` stands alone
unfoldable pub tick_with : List (List ℕ) → Result Told TraceFault
tick_with rest = ended rest >>= λ _. Ok Tick

-- the words
unfoldable pub word_of : List ℕ → Option LineWord
word_of field =
    if bytes_eq field (codes "up") then Some words.Up
    else if bytes_eq field (codes "down") then Some words.Down
    else if bytes_eq field (codes "val") then Some words.Val
    else if bytes_eq field (codes "tick") then Some words.Tick
    else if bytes_eq field (codes "done") then Some words.Done
    else None

-- what a word tells with these fields after it
abbrev pub told_after : Option LineWord → List (List ℕ) → Result Told TraceFault
told_after None rest = Err UnknownWord
told_after (Some words.Up) rest = up_with rest
told_after (Some words.Down) rest = down_with rest
told_after (Some words.Val) rest = val_with rest
told_after (Some words.Tick) rest = tick_with rest
told_after (Some words.Done) rest = done_with rest

-- what the fields behind the time tell
unfoldable pub told_by : List (List ℕ) → Result Told TraceFault
told_by [] = Err FieldCount
told_by (field ∷ rest) = told_after (word_of field) rest

-- a time that is not below that of the last event
abbrev pub in_order : ℕ → Option ℕ → Result ℕ TraceFault
in_order last None = Err BadTime
in_order last (Some ms) = if nat_lt ms last then Err BackInTime else Ok ms

-- the time, and the fields behind it
unfoldable pub timed : ℕ → List (List ℕ) → Result (ℕ × List (List ℕ)) TraceFault
timed last [] = Err BadTime
timed last (field ∷ rest) = in_order last (time_of field) >>= λ ms. Ok (ms, rest)

-- what the fields of a line tell, and when
unfoldable pub spoken : ℕ → List (List ℕ) → Result (Option (ℕ × Told)) TraceFault
spoken last line = do
  time ← timed last line
  told ← told_by time.1
  Ok (Some (time.0, told))

-- what a line tells that has no newline or carriage return left
abbrev pub said : ℕ → List ℕ → Result (Option (ℕ × Told)) TraceFault
said last line =
    if is_silent line then Ok None
    else if list_all is_text line then spoken last (fields line)
    else Err NotAscii

-- what a line tells, after an event at the time `last`
unfoldable pub told_of : ℕ → List ℕ → Result (Option (ℕ × Told)) TraceFault
told_of last line = if nat_lt 32768 (length line) then Err LineTooLong else said last (without_return line)

-- the event for a machine, of whose channels `channel` gives the numbers, and which takes the events that `fits` passes
abbrev pub up_at : Option ℕ → Event
up_at None = events.Other
up_at (Some number) = events.Up number

-- the same where it is down
abbrev pub down_at : Option ℕ → Event
down_at None = events.Other
down_at (Some number) = events.Down number

-- the same where the puts of a channel were answered
abbrev pub done_at : Option ℕ → Event
done_at None = events.Other
done_at (Some number) = events.Done number

-- an event, if it fits
abbrev pub if_fits : Bool → Event → Result Event TraceFault
if_fits fits event = if fits then Ok event else Err OutOfRange

-- the event of values of a channel
abbrev pub val_of : ℕ → List ℤ → Event
val_of number values = events.Val number (record { items = values })

-- values of a channel, where it has a number
abbrev pub val_at : (Event → Bool) → Option ℕ → List ℤ → Result Event TraceFault
val_at fits None values = Ok events.Other
val_at fits (Some number) values = if_fits (fits (val_of number values)) (val_of number values)

-- the event that is told: names become numbers of channels
abbrev pub event_of : (List ℕ → Option ℕ) → (Event → Bool) → Told → Result Event TraceFault
event_of channel fits (Up name) = Ok (up_at (channel name))
event_of channel fits (Down name) = Ok (down_at (channel name))
event_of channel fits (Val name values) = val_at fits (channel name) values
event_of channel fits Tick = Ok events.Tick
event_of channel fits (Done name) = Ok (done_at (channel name))

-- the same, with its time, of a line that tells one
abbrev pub event_at : (List ℕ → Option ℕ) → (Event → Bool) → Option (ℕ × Told) → Result (Option (ℕ × Event)) TraceFault
event_at channel fits None = Ok None
event_at channel fits (Some told) = event_of channel fits told.1 >>= λ event. Ok (Some (told.0, event))

-- what a line says to a machine
abbrev pub read_of : (List ℕ → Option ℕ) → (Event → Bool) → ℕ → List ℕ → Result (Option (ℕ × Event)) TraceFault
read_of channel fits last line = told_of last line >>= event_at channel fits
