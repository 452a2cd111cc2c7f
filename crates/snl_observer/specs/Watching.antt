-- What lines that a requirement hears lead it to.
use Rattle.std.specs.Prelude.{Bool, true, false, List, ℕ, ◌++◌, Option, None, Some}
use Rattle.snl_machine.specs.MachineOf.{StaysMachineOf, world_held}
use Rattle.snl_machine.specs.declared.machine.Machine.{Machine}
use Rattle.snl_meaning.specs.World.{World}
use Rattle.snl_observer.specs.Means.{MeansAs}
use Rattle.snl_observer.specs.Stands.{StandsBy}
use Rattle.snl_observer.specs.declared.closes.Ending.{Ending}
use Rattle.snl_observer.specs.declared.closes.Ending.TheVariants.{Stopped}
use Rattle.snl_trace.specs.Run.{Rules}

-- A requirement that is stopped, unless it has ended.
abbrev pub stopped : Option Ending → Option Ending
stopped None = Some Stopped
stopped (Some e) = Some e

-- How it stands behind a line at which its program ended so, by whether all that this wrote was written.
abbrev pub ended_by : Option Ending → Bool → Option Ending
ended_by e true = e
ended_by e false = Some Stopped

-- From one place a requirement is led by some lines to another: wherever it stood before, it stands behind them, too.
abbrev pub Leads : Rules → List (List ℕ) → (old new : World) → (before after : List ℕ) → (old_how new_how : Option Ending) → Type 0
Leads rules lines v u before after e e' = (heard : List (List ℕ)) (w : World) → StandsBy rules heard w v before e → StandsBy rules (heard ++ lines) w u after e'

-- So a machine is led, for each program whose machine it is; and it stays one of that.
abbrev pub Led : List (List ℕ) → (old new : Machine) → (before after : List ℕ) → (old_how new_how : Option Ending) → Type 0
Led lines m k before after e e' =
    StaysMachineOf m k × ((rules : Rules) → MeansAs rules m → Leads rules lines (world_held m) (world_held k) before after e e')
