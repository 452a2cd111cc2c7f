-- What `report` and `session` answer.
use Rattle.std.specs.Prelude.{◌≡◌, ℕ, Bool, true, List, [], Option, None, Some}
use Rattle.snl_syntax.specs.Programs.{ProgramTree}
use Rattle.snl_names.specs.declared.options.Options.{Options}
use Rattle.snl_messages.specs.Messages.{Said}
use Rattle.snl_messages.specs.Silence.{options_in_force}
use Rattle.snl_check.specs.Waits.{waits}
use Rattle.snl_channels.specs.Links.{Link, links}
use Rattle.snl_channels.specs.Tables.{tables}
use Rattle.snl_output.specs.Devices.{counted}
use Rattle.snl_machine.specs.MachineOf.{task_of}
use Rattle.snl_meaning.specs.World.{World}
use Rattle.snl_load.specs.First.{first_world_of}
use Rattle.snl_trace.specs.Ends.{source_failed, sink_failed}
use Rattle.snl_trace.specs.Run.{rules_by}
use Rattle.snl_trace.specs.RunOver.{Place, RunsOn}
use Rattle.snl_trace.specs.declared.runner.End.{End}
use Rattle.snl_trace.specs.declared.runner.End.TheVariants as end
use Rattle.snc.specs.Judging.{Finds, NoErrors}
use Rattle.snc.specs.Texts.{messages_text}
use Rattle.snc.specs.declared.jobs.Status.{Status}
use Rattle.snc.specs.declared.jobs.Status.TheVariants.{Well, SourceErrors, Usage, InputOutput, Memory, ProgramFault, TraceFault}

-- the number that the shell sees
abbrev pub code_of : Status → ℕ
code_of Well = 0
code_of SourceErrors = 1
code_of Usage = 2
code_of InputOutput = 3
code_of Memory = 4
code_of ProgramFault = 5
code_of TraceFault = 6

-- the status of messages: whether one is an error
abbrev pub IsStatusOf : List Said → Status → Type 0
IsStatusOf messages Well = NoErrors messages
IsStatusOf messages SourceErrors = NoErrors messages → ⊥
IsStatusOf messages _ = ⊥

-- the status of a run that ended so
abbrev pub status_of : End → Status
status_of end.TraceEnded = Well
status_of end.ProgramEnded = Well
status_of (end.Fault fault line) = ProgramFault
status_of (end.TraceFault line fault) = TraceFault
status_of _ = InputOutput

-- the tables of a program, where they were asked for and no message is an error; else nothing
abbrev pub tables_text : Bool → Status → Option ProgramTree → List ℕ
tables_text true Well (Some whole) = tables whole
tables_text _ _ _ = []

-- What `report` answers of a source whose file is called by a word, with the options of the call, and whether tables were
-- asked for: the text of all messages, the text of the tables, and the status.
pub record IsReport (given : Options) (asked : Bool) (word source text shown : List ℕ) (status : Status) : Type 0 where
  pub names : List (List ℕ)
  pub messages : List Said
  pub tree : Option ProgramTree
  pub finds : Finds given source names messages tree
  pub text_is : text ≡ messages_text word names messages
  pub status_is : IsStatusOf messages status
  pub shown_is : shown ≡ tables_text asked status tree

-- the run begins with the first line, in the first world of a program
abbrev pub at_first : World → Option (List ℕ) → Place
at_first w told = record { begun = []; number = 1; world = w; told = told }

-- A program with these links and a budget, which waits for its channels or does not, was run over a source into a sink,
-- and the run ended so. The lines that went out and the ending are those that the meaning of the program gives over the bytes
-- that the source gave, in the world that it begins in; where the sink failed, a beginning of these lines; where the source
-- failed, those of the lines that came whole. And each device's count of failures rose by one exactly where the run ended by that
-- device.
pub record IsRunOf {R S : Type 0} (source_gave : R → List ℕ) (source_ended : R → Bool) (source_failures : R → ℕ) (sink_told : S → Option (List ℕ)) (sink_failures : S → ℕ)
    (whole : ProgramTree) (ls : List Link) (waiting : Bool) (budget : ℕ) (trace trace' : R) (sink sink' : S) (end : End) : Type 0 where
  pub world : World
  pub ran : RunsOn (rules_by (task_of whole ls waiting) budget) end (source_gave trace) (source_gave trace') (source_ended trace')
      (at_first (first_world_of whole ls) (sink_told sink)) world (sink_told sink')
  pub source_counted : source_failures trace' ≡ counted (source_failed end) (source_failures trace)
  pub sink_counted : sink_failures sink' ≡ counted (sink_failed end) (sink_failures sink)

-- the accepted program was run with the links that these macros of the call give it; the options in force say whether it
-- waits
pub record IsRun {R S : Type 0} (source_gave : R → List ℕ) (source_ended : R → Bool) (source_failures : R → ℕ) (sink_told : S → Option (List ℕ)) (sink_failures : S → ℕ)
    (given : Options) (macros : List ℕ) (tree : Option ProgramTree) (budget : ℕ) (trace trace' : R) (sink sink' : S) (end : End) : Type 0 where
  pub whole : ProgramTree
  pub tree_is : tree ≡ Some whole
  pub run : IsRunOf source_gave source_ended source_failures sink_told sink_failures whole (links whole macros) (waits (options_in_force whole given)) budget trace trace' sink sink' end

-- How a session goes on. With an error nothing is run, and neither device is touched.
abbrev pub GoesOn : {R S : Type 0} → (R → List ℕ) → (R → Bool) → (R → ℕ) → (S → Option (List ℕ)) → (S → ℕ) → Options → List ℕ → List Said → Option ProgramTree → ℕ → R → R → S → S → Option End → Status → Type 0
GoesOn source_gave source_ended source_failures sink_told sink_failures given macros messages tree budget trace trace' sink sink' None status =
    (NoErrors messages → ⊥) × (status ≡ SourceErrors) × (trace' ≡ trace) × (sink' ≡ sink)
GoesOn source_gave source_ended source_failures sink_told sink_failures given macros messages tree budget trace trace' sink sink' (Some end) status =
    NoErrors messages × (status ≡ status_of end) × IsRun source_gave source_ended source_failures sink_told sink_failures given macros tree budget trace trace' sink sink' end

-- What `session` answers: the text of all messages, how the run ended, if there was one, and the status; and what became
-- of the two devices.
pub record IsSession {R S : Type 0} (source_gave : R → List ℕ) (source_ended : R → Bool) (source_failures : R → ℕ) (sink_told : S → Option (List ℕ)) (sink_failures : S → ℕ)
    (given : Options) (word macros source : List ℕ) (budget : ℕ) (trace trace' : R) (sink sink' : S) (text : List ℕ) (end : Option End) (status : Status) : Type 0 where
  pub names : List (List ℕ)
  pub messages : List Said
  pub tree : Option ProgramTree
  pub finds : Finds given source names messages tree
  pub text_is : text ≡ messages_text word names messages
  pub goes_on : GoesOn source_gave source_ended source_failures sink_told sink_failures given macros messages tree budget trace trace' sink sink' end status
