-- The trace that a requirement hears while a program runs over a trace.
use Rattle.std.specs.Prelude.{ℕ, ◌+◌, List, [], ◌∷◌, ◌++◌, Option, None, Some, Result, Ok, Err}
use Rattle.snl_heard.specs.Heard.{among}
use Rattle.snl_outline.specs.Names.{Names}
use Rattle.snl_meaning.specs.Keeping.{world_after}
use Rattle.snl_meaning.specs.Ran.{Ran, Gives, Faults}
use Rattle.snl_meaning.specs.World.{World}
use Rattle.snl_observer.specs.declared.closes.Ending.{Ending}
use Rattle.snl_output.specs.Does.{text_of}
use Rattle.snl_output.specs.TraceLines.{whole_lines}
use Rattle.snl_schedule.specs.declared.events.Event.{Event}
use Rattle.snl_trace.specs.Run.{Rules, line_done}
use Rattle.snl_trace.specs.declared.runner.End.{End}
use Rattle.snl_trace.specs.declared.trace_faults.TraceFault.{TraceFault}

-- What is heard at a line of the trace that the program reads so: an event among the lines that it makes the program write, a line
-- without an event as it is, and of a bad line nothing.
abbrev pub heard_by : List Names → Rules → (line : List ℕ) → Result (Option (ℕ × Event)) TraceFault → World → List (List ℕ)
heard_by sets rules line (Err fault) w = []
heard_by sets rules line (Ok None) w = line ∷ []
heard_by sets rules line (Ok (Some at)) w = among sets at.0 line (whole_lines (text_of (rules.act at.0 at.1 w)))

-- The same of a line.
abbrev pub heard_at : List Names → Rules → (line : List ℕ) → World → List (List ℕ)
heard_at sets rules line w = heard_by sets rules line (rules.read w.time line) w

-- What is heard at a line without an event, by how the program ended there: the line, unless it is bad.
abbrev pub heard_quiet : (line : List ℕ) → Option Ending → List (List ℕ)
heard_quiet line None = line ∷ []
heard_quiet line (Some e) = []

-- The same of any line that was done, by its time, where it has an event, and by the text that the program wrote.
abbrev pub heard_told : List Names → (line : List ℕ) → (ms : Option ℕ) → Option Ending → (text : List ℕ) → List (List ℕ)
heard_told sets line None e text = heard_quiet line e
heard_told sets line (Some ms) e text = among sets ms line (whole_lines text)

-- The rest of a trace is heard where the run goes on.
abbrev pub or_none : Ran (Option End) → List (List ℕ) → List (List ℕ)
or_none (Gives None w text) rest = rest
or_none (Gives (Some e) w text) rest = []
or_none (Faults fault line w text) rest = []

-- The trace that is heard while a program runs over the lines of a trace, of which the first has a number, from a world on.
unfoldable pub heard : List Names → Rules → ℕ → List (List ℕ) → World → List (List ℕ)
heard sets rules number [] w = []
heard sets rules number (line ∷ lines) w =
    heard_at sets rules line w ++ or_none (line_done rules number line w) (heard sets rules (number + 1) lines (world_after (line_done rules number line w)))
