-- What a line, or an event, makes a program do, by what a page was told of it that was empty.
use Rattle.std.specs.Prelude.{◌≡◌, ℕ, List, [], Option, None, Some}
use Rattle.snl_meaning.specs.Ran.{Ran}
use Rattle.snl_meaning.specs.World.{World}
use Rattle.snl_observer.specs.declared.closes.Ending.{Ending}
use Rattle.snl_observer.specs.declared.closes.Ending.TheVariants.{Exited, Faulted, Refused, Stopped}
use Rattle.snl_output.specs.Does.{text_of}
use Rattle.snl_schedule.specs.declared.events.Event.{Event}
use Rattle.snl_trace.specs.Run.{Rules, event_done, line_done}
use Rattle.snl_trace.specs.RunOver.{LineDoes}
use Rattle.snl_trace.specs.declared.runner.End.{End}
use Rattle.snl_trace.specs.declared.runner.End.TheVariants as end

-- How a run ends at a line of a number, by how its program does.
abbrev pub end_in : ℕ → Option Ending → Option End
end_in number None = None
end_in number (Some Exited) = Some end.ProgramEnded
end_in number (Some (Faulted fault line)) = Some (end.Fault fault line)
end_in number (Some (Refused fault)) = Some (end.TraceFault number fault)
end_in number (Some Stopped) = Some end.SinkFailed

-- Whatever the number of a line, it was done so: the program ends there or goes on, and wrote this text.
pub record DidAs (ran : ℕ → Ran (Option End)) (e : Option Ending) (v : World) (text : List ℕ) : Type 0 where
  pub does : (number : ℕ) → LineDoes (end_in number e) v (Some []) (Some text) (ran number)
  pub text_is : (number : ℕ) → text_of (ran number) ≡ text

-- An event at a time was done so,
abbrev pub DidEvent : Rules → ℕ → Event → World → Option Ending → World → List ℕ → Type 0
DidEvent rules ms event w e v text = DidAs (λ number. event_done rules ms event w) e v text

-- and a line.
abbrev pub LineDid : Rules → List ℕ → World → Option Ending → World → List ℕ → Type 0
LineDid rules line w e v text = DidAs (λ number. line_done rules number line w) e v text
