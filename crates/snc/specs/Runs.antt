-- What was done with a trace: a program was run over it.
use Rattle.std.specs.Prelude.{ℕ, Bool, List, Option, None, Some}
use Rattle.snl_syntax.specs.Programs.{ProgramTree}
use Rattle.snl_check.specs.Waits.{waits}
use Rattle.snl_channels.specs.Links.{Link, links}
use Rattle.snl_load.specs.First.{first_world_of}
use Rattle.snl_machine.specs.MachineOf.{task_of}
use Rattle.snl_meaning.specs.World.{World}
use Rattle.snl_names.specs.declared.options.Options.{Options}
use Rattle.snl_output.specs.Devices.{counted}
use Rattle.snl_trace.specs.Ends.{sink_failed, source_failed}
use Rattle.snl_trace.specs.Run.{rules_by}
use Rattle.snl_trace.specs.RunOver.{RunsByLine}
use Rattle.snl_trace.specs.declared.runner.End.{End}
use Rattle.snc.specs.Outcomes.{at_first}

-- A program was run from a world on over a trace that gave some bytes and has ended or not, and the run ended so, in another world.
abbrev pub EndsAt : (whole : ProgramTree) (ls : List Link) (waiting : Bool) (budget : ℕ) (first : World) (gave : List ℕ) (ended : Bool)
    (told told' : Option (List ℕ)) (end : End) → World → Type 0
EndsAt whole ls waiting budget first gave ended told told' end last =
    RunsByLine (rules_by (task_of whole ls waiting) budget) end gave ended (at_first first told) last told'

-- The program was run from a world on over a trace that gave some bytes and has ended or not, and the run ended so. What was told is what
-- `snlrun` writes of these bytes: the lines that the meaning of the program gives over them, whatever may follow; where that could not
-- be written, a beginning of these lines; where the source failed, those of the lines that came whole.
pub record RunsLike (whole : ProgramTree) (ls : List Link) (waiting : Bool) (budget : ℕ) (first : World) (gave : List ℕ) (ended : Bool)
    (told told' : Option (List ℕ)) (end : End) : Type 0 where
  pub world : World
  pub ran : EndsAt whole ls waiting budget first gave ended told told' end world

-- The same from its first world on, with these macros, under the options in force.
abbrev pub RunsWith : (macros : List ℕ) (budget : ℕ) (gave : List ℕ) (ended : Bool) (told told' : Option (List ℕ)) → ProgramTree → Options → End → Type 0
RunsWith macros budget gave ended told told' whole options end =
    RunsLike whole (links whole macros) (waits options) budget (first_world_of whole (links whole macros)) gave ended told told' end

-- How often a trace failed, after an answer: once more exactly where it ended the run; without a run, as before.
abbrev pub trace_failures : Option End → ℕ → ℕ
trace_failures None failures = failures
trace_failures (Some end) failures = counted (source_failed end) failures

-- The same of a sink.
abbrev pub sink_failures : Option End → ℕ → ℕ
sink_failures None failures = failures
sink_failures (Some end) failures = counted (sink_failed end) failures
