-- A law of whole instants: how many steps one can take.
use Rattle.std.specs.Prelude.{◌≤◌, ◌+◌, ◌*◌, ℕ, suc, Bool, List, length}
use Rattle.snl_syntax.specs.Programs.{ProgramTree}
use Rattle.snl_flat.specs.Reached.{Table, TellsReached}
use Rattle.snl_flat.specs.Size.{program_size}
use Rattle.snl_channels.specs.Links.{Link}
use Rattle.snl_machine.specs.Holding.{loaded_by}
use Rattle.snl_machine.specs.MachineOf.{IsMachineOf}
use Rattle.snl_machine.specs.declared.machine.Machine.{Machine}
use Rattle.snl_meaning.specs.World.{World}
use Rattle.snl_schedule.specs.Steps.{instant_steps}

-- What one instant may take, in steps: so many times the size of the program as this says, for state sets in this number and a
-- budget.
abbrev pub segments : (budget sets : ℕ) → ℕ
segments budget sets = suc budget * (sets + 4) + sets

-- One instant of a machine does at most so many instructions, in whatever world it begins: a number that is read off the
-- program alone, by a table that tells which of its states are reached.
abbrev pub InstantsAreBounded : Type 0
InstantsAreBounded = (p : ProgramTree) (ls : List Link) (waits : Bool) (budget : ℕ) (m : Machine) → IsMachineOf p ls waits budget m →
    (reached : Table) → TellsReached p reached → (w : World) →
    instant_steps (loaded_by m.plan m.code) budget w ≤ segments budget (length p.state_sets) * program_size reached p
