-- The run over a trace: one line after another, from a world on, up to the first that ends it.
use Rattle.std.specs.Prelude.{ℕ, ◌+◌, List, [], ◌∷◌, length, Option, None, Some, Result, Ok, Err}
use Rattle.snl_schedule.specs.declared.events.Event.{Event}
use Rattle.snl_meaning.specs.declared.live.Live.{Live}
use Rattle.snl_meaning.specs.declared.live.Live.TheVariants as live
use Rattle.snl_machine.specs.declared.machine.Machine.{Machine}
use Rattle.snl_output.specs.declared.faults.Stop.{Stop}
use Rattle.snl_output.specs.declared.faults.Stop.TheVariants as stop
use Rattle.snl_schedule.specs.Event.{line_of}
use Rattle.snl_machine.specs.MachineOf.{Task, task_held}
use Rattle.snl_schedule.specs.Event.{is_event_fit}
use Rattle.snl_load.specs.Names.{position_of}
use Rattle.snl_meaning.specs.Ran.{Ran, Gives, then_do}
use Rattle.snl_meaning.specs.World.{World}
use Rattle.snl_trace.specs.declared.runner.End.{End}
use Rattle.snl_trace.specs.declared.runner.End.TheVariants as end
use Rattle.snl_trace.specs.declared.trace_faults.TraceFault.{TraceFault}
use Rattle.snl_trace.specs.Grammar.{read_of}

-- what a machine's program makes of lines and events, with its budget
pub record Rules : Type 0 where
  -- what a line says, where the last event was at a time
  pub read : ℕ → List ℕ → Result (Option (ℕ × Event)) TraceFault
  -- what an event at a time does
  pub act : ℕ → Event → World → Ran Live

-- how the run ends after an event, if it ends there
abbrev pub end_by : Live → Option End
end_by live.Waiting = None
end_by live.Running = None
end_by live.Ended = Some end.ProgramEnded

-- the same of what the machine answers
abbrev pub ending_of : Result Live Stop → Option End
ending_of (Ok live) = end_by live
ending_of (Err (stop.Fault fault line)) = Some (end.Fault fault line)
ending_of (Err stop.Sink) = Some end.SinkFailed

-- an event at a time; how the run ends there, if it does
abbrev pub event_done : Rules → ℕ → Event → World → Ran (Option End)
event_done rules ms event w = then_do (rules.act ms event w) (λ live v. Gives (end_by live) v [])

-- a line that was read: at a bad one the run ends, and nothing happens; one without an event does nothing
abbrev pub done_by : Rules → ℕ → Result (Option (ℕ × Event)) TraceFault → World → Ran (Option End)
done_by rules number (Err fault) w = Gives (Some (end.TraceFault number fault)) w []
done_by rules number (Ok None) w = Gives None w []
done_by rules number (Ok (Some at)) w = event_done rules at.0 at.1 w

-- a line with its number; how the run ends there, if it does
abbrev pub line_done : Rules → ℕ → List ℕ → World → Ran (Option End)
line_done rules number line w = done_by rules number (rules.read w.time line) w

-- the run ends, or the rest comes
abbrev pub or_rest : (World → Ran End) → Option End → World → Ran End
or_rest rest None w = rest w
or_rest rest (Some end) w = Gives end w []

-- lines, of which the first has a number. After a fault of the program nothing comes either
unfoldable pub run_from : Rules → ℕ → List (List ℕ) → World → Ran End
run_from rules number [] w = Gives end.TraceEnded w []
run_from rules number (line ∷ lines) w =
    then_do (line_done rules number line w) (or_rest (λ v. run_from rules (number + 1) lines v))

-- those of a program with a budget
unfoldable pub rules_by : Task → ℕ → Rules
rules_by t budget = record {
  read = read_of (position_of t.channels) (is_event_fit (length t.channels) t.program.links);
  act = line_of t.program budget;
}

-- and of a machine
abbrev pub rules_of : Machine → Rules
rules_of m = rules_by (task_held m) m.budget
