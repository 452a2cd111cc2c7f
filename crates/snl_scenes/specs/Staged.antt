-- A program whose moments can be told, by its tree.
use Rattle.std.specs.Prelude.{ℕ, List, Box, All}
use Rattle.std.proofs.Common.{Global}
use Rattle.snl_check.specs.Waits.{waits}
use Rattle.snl_machine.specs.Loading.{IsLoaded}
use Rattle.snl_machine.specs.MachineOf.{world_held}
use Rattle.snl_moments.specs.Loaded.{IsUntold}
use Rattle.snl_moments.specs.Walks.{HasRoom}
use Rattle.snl_moments.specs.declared.subject.Subject.{Subject}
use Rattle.snl_names.specs.declared.options.Options.{Options}
use Rattle.snl_scenes.specs.declared.loader.Scene.{Scene}
use Rattle.snl_syntax.specs.Programs.{ProgramTree}

-- The machine is loaded of a tree, by these macros and the options in force, each store has room for its world, and nothing is told.
pub record IsSubjectOf (macros : List ℕ) (budget : ℕ) (whole : ProgramTree) (options : Options) (s : Subject) : Type 0 where
  pub machine : IsLoaded whole macros (waits options) budget s.machine
  pub spares : All (HasRoom (world_held s.machine)) s.spares.items
  pub untold : IsUntold s

-- The same of a scene in a box. (The names serve the text alone.)
abbrev pub IsBoxedScene : (macros : List ℕ) → (budget : ℕ) → ProgramTree → Options → Box Scene Global → Type 0
IsBoxedScene macros budget whole options scene = IsSubjectOf macros budget whole options scene.value.subject.value
