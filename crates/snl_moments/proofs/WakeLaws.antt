-- A wake, as an event.
use Rattle.std.proofs.Common.{◌≡◌, ◌∙◌, ◌+◌, ◌-◌, ◌<◌, ℕ, zero, suc, Bool, true, false, nat_lt, [], Option, None, Some, if◌then◌else◌, arith, refl, ap, sym}
use Rattle.std.proofs.lemmas.Bool.{ltb-true}
use Rattle.snl_machine.specs.Snapshots.{Pictures, anew}
use Rattle.snl_machine.specs.declared.snapshots.Snapshot.{Snapshot}
use Rattle.snl_meaning.specs.Ran.{Ran, Faults, Gives, also, then_do}
use Rattle.snl_meaning.specs.World.{World}
use Rattle.snl_meaning.specs.declared.live.Live.{Live}
use Rattle.snl_meaning.specs.declared.live.Live.TheVariants.{Ended, Running, Waiting}
use Rattle.snl_moments.specs.Wakes.{TicksAreWakes}
use Rattle.snl_schedule.specs.Event.{closed, event_by, line_by, wake_before, wake_by, wakes_of, woken}
use Rattle.snl_schedule.specs.Instant.{Program}
use Rattle.snl_schedule.specs.declared.events.Event.TheVariants.{Tick}

-- none comes before itself
not-before-itself : (n : ℕ) → nat_lt n n ≡ false
not-before-itself n = grind arith

-- where one comes before a time it is that of a program that runs
pub runs-by : (ms wake : ℕ) (phase : Live) (next : Option ℕ) → wake_by ms phase next ≡ Some wake → (phase ≡ Running) × (next ≡ Some wake) × (wake < ms)
runs-by ms wake Running (Some next) is = if-before ms wake next (nat_lt next ms) refl is
  where
    if-before : (ms wake next : ℕ) (b : Bool) → nat_lt next ms ≡ b → (if b then Some next else None) ≡ Some wake → (Running ≡ Running) × (Some next ≡ Some wake) × (wake < ms)
    if-before ms wake next true less is = let same : next ≡ wake = cc in (refl, is, omega (arith, same, ltb-true next ms less))
    if-before ms wake next false less is = absurd cc
runs-by ms wake Running None is = absurd cc
runs-by ms wake Waiting next is = absurd cc
runs-by ms wake Ended next is = absurd cc

-- so none comes before the wake itself
none-before : (wake : ℕ) (w : World) → w.phase ≡ Running → w.wake ≡ Some wake → wake_before wake w ≡ None
none-before wake w runs next =
    ap (λ (live : Live). wake_by wake live w.wake) runs
    ∙ ap (λ (o : Option ℕ). wake_by wake Running o) next
    ∙ ap (λ (b : Bool). if b then Some wake else None) (not-before-itself wake)

-- where no wake comes before a time there is no instant before it
no-wakes : (p : Program) (budget ms n : ℕ) (w : World) → wake_before ms w ≡ None → wakes_of p budget ms n w ≡ Gives tt w []
no-wakes p budget ms zero w none = refl
no-wakes p budget ms (suc n) w none = ap (λ (o : Option ℕ). woken p budget (wakes_of p budget ms n) o w) none

-- no text in front of one
closed-also : (ran : Ran (Unit {0})) → closed (also [] ran) ≡ closed ran
closed-also (Gives v w text) = refl
closed-also (Faults fault line w text) = refl

-- a tick at the time of a wake
pub ticks-are-wakes : TicksAreWakes
ticks-are-wakes p budget ms wake w due =
    let known = runs-by ms wake w.phase w.wake due in
    let none = none-before wake w known.0 known.1 in
    ap (λ (live : Live). line_by p budget wake Tick live w) known.0
    ∙ ap (λ (ran : Ran (Unit {0})). closed (then_do ran (λ _ u. event_by p budget wake Tick u.phase u))) (no-wakes p budget wake (wake - w.time) w none)
    ∙ closed-also (event_by p budget wake Tick w.phase w)
    ∙ ap (λ (live : Live). closed (event_by p budget wake Tick live w)) known.0

-- the wake of a world is that of its picture
pub due-by : (ms : ℕ) (from : Snapshot) (w : World) (found : Option ℕ) → Pictures from (anew w) → found ≡ wake_by (ms + 1) from.phase from.wake → wake_before (ms + 1) w ≡ found
due-by ms from w found pictures is = sym (is ∙ (λ j. wake_by (ms + 1) (pictures.phase j) (pictures.wake j)))
