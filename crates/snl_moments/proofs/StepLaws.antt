-- Laws of one event, and of one line.
use Rattle.std.proofs.Common.{◌≡◌, ◌∙◌, ℕ, Bool, List, [], Option, None, Some, Result, Ok, Err, arith, refl, ap, sym}
use Rattle.snl_channels.specs.Links.{Link}
use Rattle.snl_load.specs.Meaning.{program_meaning}
use Rattle.snl_machine.specs.MachineOf.{IsMachineOf, world_held}
use Rattle.snl_machine.specs.declared.machine.Machine.{Machine}
use Rattle.snl_meaning.specs.Frames.{Frame, at_time, frame_of}
use Rattle.snl_meaning.specs.Keeping.{world_after}
use Rattle.snl_meaning.specs.Ran.{Ran, Faults, Gives, then_do}
use Rattle.snl_meaning.specs.World.{World}
use Rattle.snl_meaning.specs.declared.live.Live.{Live}
use Rattle.snl_moments.specs.Tells.{sizes_of}
use Rattle.snl_moments.specs.Walks.{MeansAs}
use Rattle.snl_output.specs.Devices.{counted, stopped_by_sink}
use Rattle.snl_output.specs.Does.{Does}
use Rattle.snl_output.specs.declared.faults.Stop.{Stop}
use Rattle.snl_output.specs.declared.faults.Stop.TheVariants as stop
use Rattle.snl_schedule.specs.Event.{line_of}
use Rattle.snl_schedule.specs.declared.events.Event.{Event}
use Rattle.snl_syntax.specs.Programs.{ProgramTree}
use Rattle.snl_trace.specs.Run.{Rules, done_by, end_by, line_done, rules_by}
use Rattle.snl_trace.specs.declared.trace_faults.TraceFault.{TraceFault}

-- where the frame stays but for the time, so do the sizes
pub sizes-stay : (w u : World) → at_time 0 (frame_of u) ≡ at_time 0 (frame_of w) → sizes_of u ≡ sizes_of w
sizes-stay w u same = ap (λ (f : Frame). record f { time = 0; channels = []; ties = []; homes = [] }) same

-- the world in which a call left what it did, where the sink took all
pub world-by : (result : Result Live Stop) (w : World) (ran : Ran Live) → (result ≡ Err stop.Sink → ⊥) → Does {V = Live} {A = Live} (λ live. live) result w None None ran → w ≡ world_after ran
world-by (Ok live) w ran takes did = sym (ap (λ (z : Ran Live). world_after z) did.is)
world-by (Err (stop.Fault fault line)) w ran takes did = sym (ap (λ (z : Ran Live). world_after z) did.is)
world-by (Err stop.Sink) w ran takes did = absurd (takes refl)

-- so an event leaves the world that its program means
pub act-is : (r : Rules) (m k : Machine) (ms : ℕ) (event : Event) (result : Result Live Stop) → MeansAs r m → (result ≡ Err stop.Sink → ⊥) →
    ((p : ProgramTree) (ls : List Link) (waits : Bool) (budget : ℕ) → IsMachineOf p ls waits budget m →
    Does {V = Live} {A = Live} (λ live. live) result (world_held k) None None (line_of (program_meaning p ls waits) budget ms event (world_held m))) →
    world_held k ≡ world_after (r.act ms event (world_held m))
unfolding rules_by
act-is r m k ms event result meant takes does =
    world-by result (world_held k) (line_of (program_meaning meant.program meant.links meant.waits) meant.budget ms event (world_held m)) takes
    (does meant.program meant.links meant.waits meant.budget meant.made)
    ∙ sym (ap (λ (z : Rules). world_after (z.act ms event (world_held m))) meant.rules_are)

-- what follows an event changes no world
pub ends-world : (ran : Ran Live) → world_after (then_do ran (λ live u. Gives (end_by live) u [])) ≡ world_after ran
ends-world (Gives live w text) = refl
ends-world (Faults fault line w text) = refl

-- a line without an event
pub quiet-world : (r : Rules) (line : List ℕ) (w : World) → r.read w.time line ≡ Ok None → w ≡ world_after (line_done r 0 line w)
quiet-world r line w read = sym (ap (λ (z : Result (Option (ℕ × Event)) TraceFault). world_after (done_by r 0 z w)) read)

-- and one with it
pub event-world : (r : Rules) (ms : ℕ) (event : Event) (line : List ℕ) (w u : World) → r.read w.time line ≡ Ok (Some (ms, event)) → u ≡ world_after (r.act ms event w) →
    u ≡ world_after (line_done r 0 line w)
event-world r ms event line w u read acts =
    acts ∙ sym (ends-world (r.act ms event w)) ∙ sym (ap (λ (z : Result (Option (ℕ × Event)) TraceFault). world_after (done_by r 0 z w)) read)

-- a sink that never fails takes all
pub takes-all : (result : Result Live Stop) → ◌≡◌ {A = ℕ} 0 (counted (stopped_by_sink result) 0) → result ≡ Err stop.Sink → ⊥
takes-all result none is = absurd (zero-one (none ∙ ap (λ (z : Result Live Stop). counted (stopped_by_sink z) 0) is))
  where
    zero-one : ◌≡◌ {A = ℕ} 0 1 → ⊥
    zero-one same = omega (arith, same)
