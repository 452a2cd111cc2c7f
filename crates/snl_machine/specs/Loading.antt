-- What is loaded of a checked program: its machine.
use Rattle.std.specs.Prelude.{◌≡◌, ℕ, Bool, List}
use Rattle.snl_syntax.specs.Programs.{ProgramTree}
use Rattle.snl_syntax.specs.view.Programs.{program_view}
use Rattle.snl_check.specs.declared.checked.Checked.{Checked}
use Rattle.snl_check.specs.Waits.{waits}
use Rattle.snl_channels.specs.Links.{links}
use Rattle.snl_machine.specs.declared.machine.Machine.{Machine}
use Rattle.snl_machine.specs.Footprint.{footprint}
use Rattle.snl_machine.specs.MachineOf.{IsMachineOf, words_held, world_held}
use Rattle.snl_load.specs.First.{first_world_of}

-- A machine is that of a program with the links that these macros give it, waits for its channels or does not, has not begun,
-- and holds the words that the program needs.
pub record IsLoaded (whole : ProgramTree) (macros : List ℕ) (waiting : Bool) (budget : ℕ) (m : Machine) : Type 0 where
  pub made : IsMachineOf whole (links whole macros) waiting budget m
  pub first : world_held m ≡ first_world_of whole (links whole macros)
  pub words : words_held m ≡ footprint whole (links whole macros)

-- The machine of a checked program, which waits as its options say.
abbrev pub IsLoadedFrom : Checked → List ℕ → ℕ → Machine → Type 0
IsLoadedFrom c macros budget m = IsLoaded (program_view c.program) macros (waits c.options) budget m
