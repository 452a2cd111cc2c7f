-- The instant in which a program starts.
use Rattle.std.proofs.Common.{◌≡◌, ◌∙◌, ◌+◌, ℕ, true, Bool, ap, sym, [], if◌then◌else◌}
use Rattle.snl_meaning.specs.declared.live.Live.{Live}
use Rattle.snl_meaning.specs.declared.live.Live.TheVariants.{Waiting}
use Rattle.snl_meaning.specs.Ran.{Gives, then_do}
use Rattle.snl_meaning.specs.World.{World}
use Rattle.snl_schedule.specs.Instant.{Program, is_ready, started, all_rounds, instant_by, instant_of}
use Rattle.snl_schedule.specs.Loaded.{Loaded, program_of}
use Rattle.snl_schedule.specs.Steps.{steps_then, started_steps, all_rounds_steps, instant_by_steps, instant_steps}

-- a program that waits and is ready starts, and then has its rounds
pub instant-starts : (p : Program) (budget : ℕ) (w : World) → w.phase ≡ Waiting → true ≡ is_ready p (record w { ticks = budget }) →
    instant_of p budget w ≡ then_do (started p (record w { ticks = budget })) (λ _ v. all_rounds p v)
instant-starts p budget w waits ready =
    let u = record w { ticks = budget } in
    ap (λ (phase : Live). instant_by p phase u) waits
    ∙ ap (λ (b : Bool). if b then then_do (started p u) (λ _ v. all_rounds p v) else Gives tt u []) (sym ready)

-- and so do its steps
pub steps-start : (t : Loaded) (budget : ℕ) (w : World) → w.phase ≡ Waiting → true ≡ is_ready (program_of t) (record w { ticks = budget }) →
    instant_steps t budget w ≡ started_steps t (record w { ticks = budget }) + steps_then (started (program_of t) (record w { ticks = budget })) (λ _. all_rounds_steps t)
steps-start t budget w waits ready =
    let u = record w { ticks = budget } in
    ap (λ (phase : Live). instant_by_steps t phase u) waits
    ∙ ap (λ (b : Bool). if b then started_steps t u + steps_then (started (program_of t) u) (λ _. all_rounds_steps t) else 0) (sym ready)
