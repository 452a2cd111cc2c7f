-- What `waits` says of a program and a trace.
use Rattle.std.specs.Prelude.{ℕ, Bool, List, [], Some}
use Rattle.snl_syntax.specs.Programs.{ProgramTree}
use Rattle.snl_check.specs.Waits.{waits}
use Rattle.snl_channels.specs.Links.{links}
use Rattle.snl_load.specs.First.{first_world_of}
use Rattle.snl_load.specs.Meaning.{program_meaning}
use Rattle.snl_machine.specs.MachineOf.{task_of}
use Rattle.snl_names.specs.declared.options.Options.{Options}
use Rattle.snl_trace.specs.Run.{rules_by}
use Rattle.snl_views.specs.Awaits.{Awaits}
use Rattle.snc.specs.Runs.{RunsWith}
use Rattle.snl_views.specs.declared.waiting.WaitsOutcome.{WaitsOutcome}

-- The outcome of a program with these macros over a trace that gave some bytes and has ended or not, under the options in force: it
-- was run into a sink that refuses its first byte, and what is named is what it waits for behind these bytes, and nothing where
-- it began.
pub record AwaitsOver (macros : List ℕ) (budget : ℕ) (gave : List ℕ) (ended : Bool) (whole : ProgramTree) (options : Options) (o : WaitsOutcome) : Type 0 where
  pub ran : RunsWith macros budget gave ended (Some []) (Some []) whole options o.end
  pub named : Awaits (rules_by (task_of whole (links whole macros) (waits options)) budget) (program_meaning whole (links whole macros) (waits options)) o.end
      (first_world_of whole (links whole macros)) gave ended o.awaited.items
