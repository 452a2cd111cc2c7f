-- What a run for a person needs of a program: its machine, as it is before the run.
use Rattle.std.specs.Prelude.{◌≡◌, ℕ, Bool, List, Box}
use Rattle.std.proofs.Common.{Global}
use Rattle.snl_syntax.specs.Programs.{ProgramTree}
use Rattle.snl_check.specs.Waits.{waits}
use Rattle.snl_channels.specs.Links.{Link, links}
use Rattle.snl_load.specs.First.{first_world_of}
use Rattle.snl_machine.specs.MachineOf.{IsMachineOf, world_held}
use Rattle.snl_names.specs.declared.options.Options.{Options}
use Rattle.snl_views.specs.declared.staging.Stage.{Stage}

-- The machine is that of a program with these links, in its first world, and it waits or does not.
pub record IsStage (whole : ProgramTree) (ls : List Link) (waiting : Bool) (budget : ℕ) (stage : Stage) : Type 0 where
  pub machine : IsMachineOf whole ls stage.prepared.waits budget stage.prepared.machine
  pub waits : stage.prepared.waits ≡ waiting
  pub first : world_held stage.prepared.machine ≡ first_world_of whole ls

-- The same in a box, of a program with these macros, under the options in force.
abbrev pub IsBoxedStage : (macros : List ℕ) → (budget : ℕ) → ProgramTree → Options → Box Stage Global → Type 0
IsBoxedStage macros budget whole options stage = IsStage whole (links whole macros) (waits options) budget stage.value
