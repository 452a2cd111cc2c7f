-- What is told of a program over a trace and of the requirement that watches it.
use Rattle.std.specs.Prelude.{◌≡◌, ℕ, Bool, true, false, List, [], ◌++◌, Option, None, Some}
use Rattle.snl_outline.specs.Names.{Names}
use Rattle.snl_heard.specs.Printed.{IsPrinted}
use Rattle.snl_meaning.specs.Ran.{Ran, Gives, Faults}
use Rattle.snl_meaning.specs.World.{World}
use Rattle.snl_observer.specs.Heard.{heard}
use Rattle.snl_observer.specs.Stands.{Begins, StandsBy}
use Rattle.snl_observer.specs.declared.closes.Close.{Close}
use Rattle.snl_observer.specs.declared.closes.Close.TheVariants.{Memory, Never, Run, Watch}
use Rattle.snl_observer.specs.declared.closes.Ending.{Ending}
use Rattle.snl_observer.specs.declared.closes.Ending.TheVariants.{Exited, Faulted, Refused, Stopped}
use Rattle.snl_output.specs.Does.{text_of}
use Rattle.snl_output.specs.TraceLines.{lines_from, whole_lines}
use Rattle.snl_trace.specs.Run.{Rules, run_from}
use Rattle.snl_trace.specs.RunOver.{MayFollow}
use Rattle.snl_trace.specs.declared.runner.End.{End}
use Rattle.snl_trace.specs.declared.runner.End.TheVariants as end

-- A program and its requirement, by what each makes of lines and events, and where each begins; and the names of the program's states.
pub record Pair : Type 0 where
  pub run : Rules
  pub watch : Rules
  pub sets : List Names
  pub run_first : World
  pub watch_first : World

-- The run of the program over some lines,
abbrev pub run_over : Pair → List (List ℕ) → Ran End
run_over p lines = run_from p.run 1 lines p.run_first

-- the trace that the requirement hears then,
abbrev pub heard_over : Pair → List (List ℕ) → List (List ℕ)
heard_over p lines = heard p.sets p.run 1 lines p.run_first

-- and its run over that.
abbrev pub watch_over : Pair → List (List ℕ) → Ran End
watch_over p lines = run_from p.watch 1 (heard_over p lines) p.watch_first

-- A run ended so, and wrote a text.
abbrev pub EndsSo : Ran End → End → List ℕ → Type 0
EndsSo (Gives e w text) e' text' = (e ≡ e') × (text ≡ text')
EndsSo (Faults fault line w text) e' text' = (end.Fault fault line ≡ e') × (text ≡ text')

-- The requirement stands so behind all that it heard, and wrote a text.
pub record Watched (p : Pair) (lines : List (List ℕ)) (said : List ℕ) (how : Option Ending) : Type 0 where
  pub now : World
  pub by : StandsBy p.watch (heard_over p lines) p.watch_first now said how

-- It goes on, or came to its end by itself.
abbrev pub IsWell : Option Ending → Type 0
IsWell None = Unit {0}
IsWell (Some Exited) = Unit {0}
IsWell (Some (Faulted fault line)) = ⊥
IsWell (Some (Refused fault)) = ⊥
IsWell (Some Stopped) = ⊥

-- The program's run over some lines ended so, and all was written: what it gives, and what the requirement's run gives over what that heard.
pub record RunsSo (p : Pair) (lines : List (List ℕ)) (run said : List ℕ) (e : End) : Type 0 where
  pub ends : EndsSo (run_over p lines) e run
  pub how : Option Ending
  pub well : IsWell how
  pub watched : Watched p lines said how

-- What both wrote over some lines, by how the run closed: all that the program's run gives, which ends so, and all that the requirement's run
-- over the heard trace gives; or, where the requirement ended so by a mistake, all of its run, and a beginning of the program's; or, where
-- a state of it came to be that must not, beginnings of both. Where a line could not be written, or memory ended, nothing is said.
abbrev pub IsObserved : Pair → List (List ℕ) → (run said : List ℕ) → Close → Type 0
IsObserved p lines run said (Run end.SinkFailed) = Unit {0}
IsObserved p lines run said (Run end.SourceFailed) = ⊥
IsObserved p lines run said (Run end.TraceEnded) = RunsSo p lines run said end.TraceEnded
IsObserved p lines run said (Run end.ProgramEnded) = RunsSo p lines run said end.ProgramEnded
IsObserved p lines run said (Run (end.Fault fault line)) = RunsSo p lines run said (end.Fault fault line)
IsObserved p lines run said (Run (end.TraceFault number fault)) = RunsSo p lines run said (end.TraceFault number fault)
IsObserved p lines run said (Watch e) = Begins run (text_of (run_over p lines)) × Watched p lines said (Some e)
IsObserved p lines run said (Never place) = Begins run (text_of (run_over p lines)) × Begins said (text_of (watch_over p lines))
IsObserved p lines run said Memory = Unit {0}

-- Whether a run closed since no more of the trace could be read.
abbrev pub source_failed : Close → Bool
source_failed (Run end.SourceFailed) = true
source_failed (Run end.SinkFailed) = false
source_failed (Run end.TraceEnded) = false
source_failed (Run end.ProgramEnded) = false
source_failed (Run (end.Fault fault line)) = false
source_failed (Run (end.TraceFault number fault)) = false
source_failed (Watch e) = false
source_failed (Never place) = false
source_failed Memory = false

-- Whether something is said of how a run closed: each line could be written, and memory did not end.
abbrev pub is_told : Close → Bool
is_told (Run end.SinkFailed) = false
is_told (Run end.SourceFailed) = true
is_told (Run end.TraceEnded) = true
is_told (Run end.ProgramEnded) = true
is_told (Run (end.Fault fault line)) = true
is_told (Run (end.TraceFault number fault)) = true
is_told (Watch e) = true
is_told (Never place) = true
is_told Memory = false

-- The same over what a trace gave that has ended or not: where it could not be read to its end, over the lines that came whole, behind which
-- both go on;
abbrev pub ObservedBy : Bool → Pair → (gave : List ℕ) → (ended : Bool) → (run said : List ℕ) → Close → Type 0
ObservedBy true p gave ended run said close = RunsSo p (whole_lines gave) run said end.TraceEnded
ObservedBy false p gave ended run said close = (more : List ℕ) → MayFollow ended more → IsObserved p (lines_from [] (gave ++ more)) run said close

-- else over all lines, whatever may follow.
abbrev pub IsObservedOver : Pair → (gave : List ℕ) → (ended : Bool) → (run said : List ℕ) → Close → Type 0
IsObservedOver p gave ended run said close = ObservedBy (source_failed close) p gave ended run said close

-- What a sink tells in the end: the lines of the program as they are, those of the requirement each with `# watch ` in front, and of both
-- those that are right over what the trace gave.
pub record IsWritten (p : Pair) (gave : List ℕ) (ended : Bool) (close : Close) (told : Option (List ℕ)) : Type 0 where
  pub run : List ℕ
  pub said : List ℕ
  pub observed : IsObservedOver p gave ended run said close
  pub printed : is_told close ≡ true → (text : List ℕ) → told ≡ Some text → IsPrinted run said text
