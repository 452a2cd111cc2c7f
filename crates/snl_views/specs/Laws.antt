-- Laws of what a program waits for.
use Rattle.std.specs.Prelude.{◌≡◌, ◌↔◌, ◌⊎◌, ℕ, true, false, List, []}
use Rattle.snl_meaning.specs.Keeping.{world_after}
use Rattle.snl_meaning.specs.Ran.{Ran, Gives}
use Rattle.snl_meaning.specs.World.{World}
use Rattle.snl_meaning.specs.declared.live.Live.{Live}
use Rattle.snl_meaning.specs.declared.live.Live.TheVariants.{Waiting}
use Rattle.snl_output.specs.Does.{text_of}
use Rattle.snl_schedule.specs.Event.{line_of}
use Rattle.snl_schedule.specs.Instant.{Program, is_ready}
use Rattle.snl_schedule.specs.declared.events.Event.{Event}
use Rattle.snl_trace.specs.Run.{rules_by, run_from}
use Rattle.snl_machine.specs.MachineOf.{Task}
use Rattle.snl_views.specs.Awaits.{awaited, has_event}

-- A program is ready to start exactly where it waits for nothing.
abbrev pub ReadyAwaitsNothing : Type 0
ReadyAwaitsNothing = (p : Program) (w : World) → awaited p w ≡ [] ↔ (is_ready p w ≡ true)

-- A line of a trace found a program that waits, and it still waits: nothing was written, and it isn't ready.
pub record StillWaits (p : Program) (r : Ran Live) : Type 0 where
  pub world : World
  pub is : r ≡ Gives Waiting world []
  pub phase : world.phase ≡ Waiting
  pub unready : is_ready p world ≡ false

-- A line of a trace leaves a program that waits as one that still waits, or the program begins, and then something is written.
abbrev pub WaitsOrBegins : Type 0
WaitsOrBegins = (p : Program) (budget ms : ℕ) (event : Event) (w : World) → w.phase ≡ Waiting →
    StillWaits p (line_of p budget ms event w) ⊎ (text_of (line_of p budget ms event w) ≡ [] → ⊥)

-- So over lines with an event: where nothing was written, the program isn't ready in the world then.
abbrev pub SilentIsUnready : Type 0
SilentIsUnready = (t : Task) (budget : ℕ) (lines : List (List ℕ)) (w : World) → w.phase ≡ Waiting → has_event (rules_by t budget) w.time lines ≡ true →
    text_of (run_from (rules_by t budget) 1 lines w) ≡ [] → is_ready t.program (world_after (run_from (rules_by t budget) 1 lines w)) ≡ false
