-- One run of a program: a property of worlds that all of its steps keep.
use Rattle.std.specs.Prelude.{◌≡◌, ◌<◌, ℕ, Bool, List, Option, map}
use Rattle.snl_meaning.specs.Frames.{room_in}
use Rattle.snl_meaning.specs.World.{World}
use Rattle.snl_schedule.specs.Refresh.{refreshed}
use Rattle.snl_schedule.specs.Turn.{entered_in}
use Rattle.snl_alike.specs.TwoRuns.{Common, with_common}

-- A property of the worlds of a program with so many state sets, that all steps keep beside its pieces and values of channels: where what two
-- runs have in common is another one, but for what the links of a world are, and for how much their queues can hold; where a state set is
-- refreshed, and where it enters a state; and where the time, the wake or the due time is another one.
pub record IsKeptInRuns (sets : ℕ) (P : World → Type 0) : Type 0 where
  pub some : 0 < sets
  pub changes : (r : Common) (w : World) → r.homes ≡ w.homes → r.ties ≡ w.ties → r.channels ≡ w.channels → map room_in r.queues ≡ map room_in w.queues → P w → P (with_common r w)
  pub refreshes : (set : ℕ) → set < sets → (w : World) → P w → P (refreshed set w)
  pub enters : (set state : ℕ) (is_timed : Bool) → set < sets → (w : World) → P w → P (entered_in set state is_timed w)
  pub clocks : (time : ℕ) (wake due : Option ℕ) (w : World) → P w → P (record w { time = time; wake = wake; due = due })

-- Two worlds are one that has the property,
abbrev pub IsOneWith : (World → Type 0) → World → World → Type 0
IsOneWith P w u = (w ≡ u) × P w

-- and two texts are the same.
abbrev pub IsSameText : List ℕ → List ℕ → Type 0
IsSameText a b = a ≡ b
