-- Laws of events: what has ended stays ended; what a refresh and what values leave as it is.
use Rattle.std.specs.Prelude.{◌≡◌, ℕ, ℤ, Bool, false, List, [], Option, None, Result, Ok}
use Rattle.snl_schedule.specs.declared.events.Event.{Event}
use Rattle.snl_schedule.specs.Event.{line_of}
use Rattle.snl_output.specs.declared.faults.Stop.{Stop}
use Rattle.snl_output.specs.Does.{Does}
use Rattle.snl_meaning.specs.declared.live.Live.{Live}
use Rattle.snl_meaning.specs.declared.live.Live.TheVariants.{Ended}
use Rattle.snl_meaning.specs.Ran.{Gives}
use Rattle.snl_meaning.specs.World.{World}
use Rattle.snl_meaning.specs.declared.ties.Tied.{Tied}
use Rattle.snl_schedule.specs.Arrivals.{connected, received_link}
use Rattle.snl_schedule.specs.Instant.{Program}
use Rattle.snl_schedule.specs.Refresh.{is_marked, refreshed}
use Rattle.snl_schedule.specs.Turn.{entered_in}

-- what an event gives in a world that has ended: that world, the answer that it has ended, and no text
abbrev pub EndedStays : Type 0
EndedStays = (p : Program) (budget ms : ℕ) (event : Event) (w : World) → w.phase ≡ Ended → line_of p budget ms event w ≡ Gives Ended w []

-- A call that does an event in a world that has ended: it answers so, the world stays, and the sink is told nothing. It
-- can't answer that the sink failed, since there is no text that could be lost.
abbrev pub EndedAnswersEnded : Type 0
EndedAnswersEnded = (p : Program) (budget ms : ℕ) (event : Event) (w after : World) (result : Result Live Stop) (old new : Option (List ℕ)) →
    w.phase ≡ Ended → Does (λ live. live) result after old new (line_of p budget ms event w) → (result ≡ Ok Ended) × (after ≡ w) × (new ≡ old)

-- a call that does an event answers how far the program has come then: after the answer that it has ended, it has
abbrev pub AnswersThePhase : Type 0
AnswersThePhase = (p : Program) (budget ms : ℕ) (event : Event) (w after : World) (live : Live) (old new : Option (List ℕ)) →
    Does {V = Live} (λ l. l) (Ok live) after old new (line_of p budget ms event w) → after.phase ≡ live

-- A refresh without a mark changes nothing: what the state set stored stays.
abbrev pub RefreshWithoutMarks : Type 0
RefreshWithoutMarks = (set : ℕ) (w : World) → ((link : ℕ) → is_marked set link w ≡ false) → refreshed set w ≡ w

-- A refresh, a new state and a connection, come or lost, change no event flag, nor do values at a link that is not synced, or not monitored.
pub record FlagsStay : Type 0 where
  pub refreshes : (set : ℕ) (w : World) → (refreshed set w).flags ≡ w.flags
  pub enters : (set state : ℕ) (is_timed : Bool) (w : World) → (entered_in set state is_timed w).flags ≡ w.flags
  pub connects : (channel : ℕ) (now : Bool) (w : World) → (connected channel now w).flags ≡ w.flags
  pub unsynced : (channel : ℕ) (values : List ℤ) (number : ℕ) (t : Tied) (w : World) → t.flag ≡ None → (received_link channel values number t w).flags ≡ w.flags
  pub unmonitored : (channel : ℕ) (values : List ℤ) (number : ℕ) (t : Tied) (w : World) → t.is_monitored ≡ false →
      (received_link channel values number t w).flags ≡ w.flags
