-- A program whose moments can be told: its machine is loaded, and there is room for so many moments.
use Rattle.std.specs.Prelude.{◌≡◌, ℕ, Bool, List, [], All}
use Rattle.snl_channels.specs.Links.{links}
use Rattle.snl_check.specs.declared.checked.Checked.{Checked}
use Rattle.snl_machine.specs.Loading.{IsLoaded, IsLoadedFrom}
use Rattle.snl_machine.specs.MachineOf.{task_of, world_held}
use Rattle.snl_machine.specs.declared.machine.Machine.{Machine}
use Rattle.snl_moments.specs.Walks.{HasRoom, MeansAs}
use Rattle.snl_moments.specs.declared.subject.Subject.{Subject}
use Rattle.snl_syntax.specs.Programs.{ProgramTree}
use Rattle.snl_trace.specs.Run.{rules_by}

-- Nothing is told of a program, and nothing asked.
pub record IsUntold (s : Subject) : Type 0 where
  pub moments : s.moments.items ≡ []
  pub times : s.times.items ≡ []
  pub next : s.next ≡ 0

-- The machine is loaded of a checked program, with these macros and this budget, each store has room for its world, and nothing is told.
pub record IsSubjectFrom (c : Checked) (macros : List ℕ) (budget : ℕ) (s : Subject) : Type 0 where
  pub machine : IsLoadedFrom c macros budget s.machine
  pub spares : All (HasRoom (world_held s.machine)) s.spares.items
  pub untold : IsUntold s

-- What a loaded machine makes of lines and events is what its program means.
abbrev pub LoadedMeans : Type 0
LoadedMeans = (whole : ProgramTree) (macros : List ℕ) (waiting : Bool) (budget : ℕ) (m : Machine) → IsLoaded whole macros waiting budget m →
    MeansAs (rules_by (task_of whole (links whole macros) waiting) budget) m
