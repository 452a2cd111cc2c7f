-- A source that is read, and its program, which can be compared: its machine is loaded.
use Rattle.std.specs.Prelude.{ℕ, Bool, List, Box}
use Rattle.std.proofs.Common.{Global}
use Rattle.snl_channels.specs.Links.{links}
use Rattle.snl_check.specs.Waits.{waits}
use Rattle.snl_machine.specs.Loading.{IsLoaded}
use Rattle.snl_machine.specs.MachineOf.{task_of}
use Rattle.snl_machine.specs.declared.machine.Machine.{Machine}
use Rattle.snl_names.specs.declared.options.Options.{Options}
use Rattle.snl_same.specs.Sides.{MeansAs}
use Rattle.snl_same.specs.declared.sides.Side.{Side}
use Rattle.snl_syntax.specs.Programs.{ProgramTree}
use Rattle.snl_trace.specs.Run.{rules_by}

-- The machine is loaded of a program, with these macros and this budget, under the options in force; in a box.
abbrev pub IsBoxedSide : (macros : List ℕ) → (budget : ℕ) → ProgramTree → Options → Box Side Global → Type 0
IsBoxedSide macros budget whole options side = IsLoaded whole macros (waits options) budget side.value.machine

-- What a loaded machine makes of lines and events is what its program means.
abbrev pub LoadedMeans : Type 0
LoadedMeans = (whole : ProgramTree) (macros : List ℕ) (waiting : Bool) (budget : ℕ) (m : Machine) → IsLoaded whole macros waiting budget m →
    MeansAs (rules_by (task_of whole (links whole macros) waiting) budget) m
