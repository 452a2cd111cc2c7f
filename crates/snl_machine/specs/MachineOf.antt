-- What a machine holds: what it runs, and the world that its run has come to.
use Rattle.std.specs.Prelude.{◌≡◌, ◌+◌, ℕ, Bool, List, [], map}
use Rattle.snl_syntax.specs.Programs.{ProgramTree}
use Rattle.snl_channels.specs.Links.{Link, links}
use Rattle.snl_machine.specs.Reached.{AreReached}
use Rattle.snl_machine.specs.Worlds.{IsWorldOf}
use Rattle.snl_meaning.specs.World.{World}
use Rattle.snl_vm.specs.Footprint.{operand_words, store_words}
use Rattle.snl_vm.specs.Views.{world_of}
use Rattle.snl_flat.specs.declared.code.Code.{Code}
use Rattle.snl_flat.specs.Starts.{table_of, holds_in}
use Rattle.snl_schedule.specs.declared.plans.Plan.{Plan}
use Rattle.snl_schedule.specs.Instant.{Program}
use Rattle.snl_schedule.specs.Loaded.{program_of}
use Rattle.snl_load.specs.Meaning.{program_meaning}
use Rattle.snl_load.specs.Places.{channels}
use Rattle.snl_load.specs.Right.{IsLoadedOf}
use Rattle.snl_load.specs.Sets.{names_in}
use Rattle.snl_machine.specs.Holding.{loaded_by}
use Rattle.snl_machine.specs.declared.machine.Machine.{Machine}

-- What is run: a program, and the names of its channels by their numbers.
pub record Task : Type 0 where
  pub program : Program
  pub channels : List (List ℕ)

-- What a machine runs by its code,
abbrev pub task_held : Machine → Task
task_held m = record { program = program_of (loaded_by m.plan m.code); channels = names_in m.names }

-- and what a program with these links means on its tree, where it waits for its channels or does not.
abbrev pub task_of : ProgramTree → List Link → Bool → Task
task_of p ls waits = record { program = program_meaning p ls waits; channels = channels ls }

-- The world that a machine's run has come to.
abbrev pub world_held : Machine → World
world_held m = world_of m.memory.store

-- How many words it holds: those of its store, the room of its operands, and the places where calls go on.
abbrev pub words_held : Machine → ℕ
words_held m = store_words m.memory.store + operand_words m.memory.operands

-- What no event changes of a machine: its plan, its code, the names of its channels, its budget, and how many words it holds.
pub record Fixed : Type 0 where
  pub plan : Plan
  pub code : Code
  pub channels : List (List ℕ)
  pub budget : ℕ
  pub words : ℕ

-- That of a machine.
abbrev pub fixed_of : Machine → Fixed
fixed_of m = record { plan = m.plan; code = m.code; channels = names_in m.names; budget = m.budget; words = words_held m }

-- A link but for the name of its channel, which macros may change.
abbrev pub unnamed : Link → Link
unnamed l = record l { name = [] }

-- A machine is one of a program, links and a budget, and waits for its channels or does not: the links are the program's, with
-- whatever names of channels; its code is right for the program; its plan and its names are the program's; its world is one of
-- the program, in which each state set is in a state that the code has; and it has that budget.
pub record IsMachineOf (p : ProgramTree) (ls : List Link) (waits : Bool) (budget : ℕ) (m : Machine) : Type 0 where
  pub links_are : map unnamed ls ≡ map unnamed (links p [])
  pub loaded : IsLoadedOf p ls waits m.code (loaded_by m.plan m.code)
  pub channels_are : names_in m.names ≡ channels ls
  pub world_is : IsWorldOf p ls (world_held m)
  pub reached : AreReached p (holds_in (table_of m.code)) (world_held m)
  pub budget_is : m.budget ≡ budget

-- Of whatever program, links and options a machine was a machine, another one is too.
abbrev pub StaysMachineOf : Machine → Machine → Type 0
StaysMachineOf old new = (p : ProgramTree) (ls : List Link) (waits : Bool) (budget : ℕ) → IsMachineOf p ls waits budget old → IsMachineOf p ls waits budget new
