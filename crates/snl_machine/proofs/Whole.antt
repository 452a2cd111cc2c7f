-- What a line of a trace keeps of the world: its wakes, its event, and what they give to who asked for them.
use Rattle.std.proofs.Common.{◌≡◌, ℕ, zero, suc, ◌-◌, Bool, List, Option, None, Some}
use Rattle.snl_syntax.specs.Programs.{ProgramTree}
use Rattle.snl_channels.specs.Links.{Link}
use Rattle.snl_load.specs.Meaning.{program_meaning}
use Rattle.snl_machine.proofs.Steady.{IsSteady, instant-keeps}
use Rattle.snl_machine.proofs.Turning.{Keeps, then-keeps}
use Rattle.snl_meaning.specs.declared.live.Live.{Live}
use Rattle.snl_meaning.specs.declared.live.Live.TheVariants.{Waiting, Running, Ended}
use Rattle.snl_meaning.specs.Keeping.{world_after}
use Rattle.snl_meaning.specs.Ran.{Ran, Gives, Faults}
use Rattle.snl_meaning.specs.World.{World}
use Rattle.snl_schedule.specs.declared.events.Event.{Event}
use Rattle.snl_schedule.specs.Event.{applied, closed, wake_before, woken, wakes_of, all_wakes, event_by, passed, line_by, line_of}
use Rattle.snl_schedule.specs.Instant.{Program, instant_of}

-- What the steps of a run keep, and what changes of the time and of the ticks that are left do, is kept by lines.
module _ (p : ProgramTree) (ls : List Link) (waits : Bool) (R S : World → World → Type 0) (s : IsSteady p R S) (budgets : (n : ℕ) (w : World) → R w (record w { ticks = n }))
    (times : (ms : ℕ) (w : World) → R w (record w { time = ms })) where
  -- the program
  abbrev q : Program
  q = program_meaning p ls waits

  -- an instant
  one-instant : (budget : ℕ) → Keeps R (instant_of q budget)
  one-instant budget w =
      let u = record w { ticks = budget } in s.both w u (world_after (instant_of q budget w)) (budgets budget w) (instant-keeps p ls waits R S s u.phase u)

  -- an instant at another time
  instant-at : (budget ms : ℕ) → Keeps R (λ w. instant_of q budget (record w { time = ms }))
  instant-at budget ms w =
      let u = record w { time = ms } in s.both w u (world_after (instant_of q budget u)) (times ms w) (one-instant budget u)

  -- wakes
  wakes-keep : (budget ms n : ℕ) → Keeps R (wakes_of q budget ms n)
  wakes-keep budget ms zero w = s.nothing w
  wakes-keep budget ms (suc n) w = by (λ u. wakes-keep budget ms n u) (wake_before ms w)
    where
      by : Keeps R (wakes_of q budget ms n) → (o : Option ℕ) → R w (world_after (woken q budget (wakes_of q budget ms n) o w))
      by others None = s.nothing w
      by others (Some wake) =
          then-keeps R s.both w (instant_of q budget (record w { time = wake })) (λ _ u. wakes_of q budget ms n u) (instant-at budget wake w) (λ _ u. others u)

  -- what instants give to who asked for them
  closed-keeps : (w : World) (r : Ran (Unit {0})) → R w (world_after r) → R w (world_after (closed r))
  closed-keeps w (Gives v u text) h = h
  closed-keeps w (Faults f line u text) h = s.both w u (record u { phase = Ended }) h (s.phase Ended (λ (e : Ended ≡ Waiting). absurd (cc)) u)

  module _ (event : Event) (happens : (w : World) → R w (applied q event w)) where
    -- the event, and an instant
    happened-keeps : (budget ms : ℕ) → Keeps R (λ w. instant_of q budget (applied q event (record w { time = ms })))
    happened-keeps budget ms w =
        let u = record w { time = ms } in
        let v = applied q event u in
        s.both w v (world_after (instant_of q budget v)) (s.both w u v (times ms w) (happens u)) (one-instant budget v)

    -- the same by how far the program has come
    event-keeps : (budget ms : ℕ) (phase : Live) → Keeps R (event_by q budget ms event phase)
    event-keeps budget ms Ended w = s.nothing w
    event-keeps budget ms Waiting w = happened-keeps budget ms w
    event-keeps budget ms Running w = happened-keeps budget ms w

    -- a line
    pub line-keeps : (budget ms : ℕ) → Keeps R (line_of q budget ms event)
    line-keeps budget ms w = by w.phase
      where
        on : R w (world_after (closed (passed q budget ms event w)))
        on =
            closed-keeps w (passed q budget ms event w)
            (then-keeps R s.both w (all_wakes q budget ms w) (λ _ u. event_by q budget ms event u.phase u) (wakes-keep budget ms (ms - w.time) w)
            (λ _ u. event-keeps budget ms u.phase u))

        by : (phase : Live) → R w (world_after (line_by q budget ms event phase w))
        by Waiting = on
        by Running = on
        by Ended = s.nothing w
