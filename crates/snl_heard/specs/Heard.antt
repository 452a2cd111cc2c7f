-- What a requirement hears of the lines that a program writes: lines of a trace.
use Rattle.std.specs.Prelude.{ℕ, ◌+◌, List, [], ◌∷◌, ◌++◌, Option, None, Some, bytes_eq, codes, decimal, map, if◌then◌else◌}
use Rattle.snl_outline.specs.Names.{Names}
use Rattle.snl_heard.specs.Words.{has_time, kind_of, rest_of, set_of, target_of, time_of}
use Rattle.snl_output.specs.Lines.{joined}

-- ---- one line that the program writes

-- `MS val put:CHANNEL V ..`: a put, as an event.
abbrev pub put_event : (time rest : List ℕ) → List ℕ
put_event time rest = joined (time ∷ codes " val put:" ∷ rest ∷ [])

-- `MS val state:SET N`: a state set is in its state of that number.
abbrev pub state_event : (time set : List ℕ) → ℕ → List ℕ
state_event time set number = joined (time ∷ codes " val state:" ∷ set ∷ codes " " ∷ decimal number ∷ [])

-- The number of a name in a list of which the first has a number; None where it does not stand there.
unfoldable pub number_from : ℕ → (name : List ℕ) → List (List ℕ) → Option ℕ
number_from number name [] = None
number_from number name (other ∷ others) = if bytes_eq other name then Some number else number_from (number + 1) name others

-- The number of the state of a name, among the names of states.
abbrev pub number_of : (state : List ℕ) → List (List ℕ) → Option ℕ
number_of state states = number_from 0 state states

-- The event of a transition into the state of a number; none where the state set has no such state.
abbrev pub entered_in : (time : List ℕ) → Names → Option ℕ → List (List ℕ)
entered_in time names None = []
entered_in time names (Some number) = state_event time names.set number ∷ []

-- The same, with the state set and the state by their names.
unfoldable pub entered : List Names → (time set state : List ℕ) → List (List ℕ)
entered [] time set state = []
entered (names ∷ more) time set state =
    if bytes_eq names.set set then entered_in time names (number_of state names.states) else entered more time set state

-- At the start each state set is in its first state.
abbrev pub begun : List Names → (time : List ℕ) → List (List ℕ)
begun sets time = map (λ names. state_event time names.set 0) sets

-- What is heard of a line: of a put, a transition and the start as above, and of another line nothing.
abbrev pub heard_of : List Names → List ℕ → List (List ℕ)
heard_of sets line =
    if bytes_eq (kind_of line) (codes "put") then put_event (time_of line) (rest_of line) ∷ []
    else if bytes_eq (kind_of line) (codes "go") then entered sets (time_of line) (set_of line) (target_of line)
    else if bytes_eq (kind_of line) (codes "start") then begun sets (time_of line)
    else []

-- The same of several.
unfoldable pub heard_all : List Names → List (List ℕ) → List (List ℕ)
heard_all sets [] = []
heard_all sets (line ∷ lines) = heard_of sets line ++ heard_all sets lines

-- ---- one line of the trace

-- A line of the trace with its time, among the lines that it makes the program write. Those of another time are of wakes before it,
-- and what is heard of them comes in front of it; what is heard of those of its own time comes behind it.
unfoldable pub among : List Names → (ms : ℕ) → (line : List ℕ) → List (List ℕ) → List (List ℕ)
among sets ms line [] = line ∷ []
among sets ms line (written ∷ more) =
    if has_time ms written then line ∷ heard_all sets (written ∷ more) else heard_of sets written ++ among sets ms line more
