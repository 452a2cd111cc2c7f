-- A source that is read, and its program, which can be watched or can watch: its machine is loaded.
use Rattle.std.specs.Prelude.{◌≡◌, ℕ, Bool, List, Box, map}
use Rattle.std.proofs.Common.{Global}
use Rattle.snl_channels.specs.Links.{links}
use Rattle.snl_check.specs.Waits.{waits}
use Rattle.snl_outline.specs.Names.{names_of, seen}
use Rattle.snl_machine.specs.Loading.{IsLoaded}
use Rattle.snl_machine.specs.MachineOf.{task_of}
use Rattle.snl_machine.specs.declared.machine.Machine.{Machine}
use Rattle.snl_names.specs.declared.options.Options.{Options}
use Rattle.snl_observer.specs.Means.{MeansAs}
use Rattle.snl_observer.specs.declared.programs.Program.{Program}
use Rattle.snl_syntax.specs.Programs.{ProgramTree}
use Rattle.snl_trace.specs.Run.{rules_by}

-- Its machine is loaded of a program, with these macros and this budget, under the options in force, and it has the names of the
-- program's states.
pub record IsProgramOf (macros : List ℕ) (budget : ℕ) (whole : ProgramTree) (options : Options) (made : Program) : Type 0 where
  pub loaded : IsLoaded whole macros (waits options) budget made.machine
  pub names : map seen made.sets.items ≡ names_of whole

-- The same in a box.
abbrev pub IsBoxedProgram : (macros : List ℕ) → (budget : ℕ) → ProgramTree → Options → Box Program Global → Type 0
IsBoxedProgram macros budget whole options made = IsProgramOf macros budget whole options made.value

-- What a loaded machine makes of lines and events is what its program means.
abbrev pub LoadedMeans : Type 0
LoadedMeans = (whole : ProgramTree) (macros : List ℕ) (waiting : Bool) (budget : ℕ) (m : Machine) → IsLoaded whole macros waiting budget m →
    MeansAs (rules_by (task_of whole (links whole macros) waiting) budget) m
