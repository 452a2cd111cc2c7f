-- What a call of `snlrun` does with its two streams.
use Rattle.std.specs.Prelude.{◌≡◌, ℕ, Bool, List, [], Option, None, Some}
use Rattle.snl_syntax.specs.Programs.{ProgramTree}
use Rattle.snl_names.specs.declared.options.Options.{Options}
use Rattle.snl_messages.specs.Messages.{Said}
use Rattle.snl_messages.specs.Silence.{options_in_force}
use Rattle.snl_check.specs.Waits.{waits}
use Rattle.snl_channels.specs.Links.{links}
use Rattle.snl_load.specs.First.{first_world_of}
use Rattle.snl_machine.specs.MachineOf.{task_of}
use Rattle.snl_meaning.specs.World.{World}
use Rattle.snl_trace.specs.Run.{rules_by}
use Rattle.snl_trace.specs.RunOver.{RunsOver}
use Rattle.snl_trace.specs.declared.runner.End.{End}
use Rattle.snc.specs.Judging.{Finds, NoErrors}
use Rattle.snc.specs.Outcomes.{at_first, status_of}
use Rattle.snc.specs.Texts.{messages_text}
use Rattle.snc.specs.declared.jobs.Status.{Status}
use Rattle.snc.specs.declared.jobs.Status.TheVariants.{SourceErrors}

-- The accepted program was run over what standard input gave, from its first world on, and standard output took what it wrote.
pub record IsRunHere (given : Options) (macros : List ℕ) (tree : Option ProgramTree) (budget : ℕ) (gave : List ℕ) (ended : Bool) (took : List ℕ) (end : End) : Type 0 where
  pub whole : ProgramTree
  pub tree_is : tree ≡ Some whole
  pub world : World
  pub ran : RunsOver (rules_by (task_of whole (links whole macros) (waits (options_in_force whole given))) budget) end gave ended
      (at_first (first_world_of whole (links whole macros)) (Some [])) world (Some took)

-- With an error nothing is read and nothing is written; else the program is run.
abbrev pub Goes : Options → List ℕ → List Said → Option ProgramTree → ℕ → List ℕ → Bool → List ℕ → Option End → Status → Type 0
Goes given macros messages tree budget gave ended took None status = (NoErrors messages → ⊥) × (status ≡ SourceErrors) × (gave ≡ []) × (took ≡ [])
Goes given macros messages tree budget gave ended took (Some end) status = NoErrors messages × (status ≡ status_of end) × IsRunHere given macros tree budget gave ended took end

-- A call with options, a word for its file, macros and a budget, whose file has these bytes: what standard input gave, and whether
-- it ended; what standard output took; the text of the messages, how the run ended, if there was one, and the status.
pub record IsCall (given : Options) (word macros source : List ℕ) (budget : ℕ) (gave : List ℕ) (ended : Bool) (took text : List ℕ) (end : Option End) (status : Status) : Type 0 where
  pub names : List (List ℕ)
  pub messages : List Said
  pub tree : Option ProgramTree
  pub finds : Finds given source names messages tree
  pub text_is : text ≡ messages_text word names messages
  pub goes : Goes given macros messages tree budget gave ended took end status
