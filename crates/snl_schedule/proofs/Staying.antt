-- What a refresh and what values leave as it is.
use Rattle.std.proofs.Common.{◌≡◌, ◌∙◌, ◌+◌, refl, ℕ, ℤ, Bool, true, false, List, [], ◌∷◌, Option, None, Some, take, if◌then◌else◌}
use Rattle.snl_meaning.specs.declared.ties.Tied.{Tied}
use Rattle.snl_meaning.specs.Links.{home_of, with_buffer, is_queued, enqueued, flagged, all_marked, announced}
use Rattle.snl_meaning.specs.World.{World}
use Rattle.snl_schedule.specs.Arrivals.{is_of, received_link}
use Rattle.snl_schedule.specs.Laws.{FlagsStay, RefreshWithoutMarks}
use Rattle.snl_schedule.specs.Refresh.{is_marked, with_mark, copied_to, refreshed_link, refreshed_from}
use Rattle.snl_schedule.proofs.Rows.{none-refreshed}

-- no mark, no change
pub refresh_without_marks : RefreshWithoutMarks
refresh_without_marks set w none = none-refreshed set 0 w.ties w (λ k behind. none k)

-- a link that is refreshed
link-flags : (set number : ℕ) (t : Tied) (w : World) → (refreshed_link set number t w).flags ≡ w.flags
link-flags set number t w = by (is_marked set number w) (home_of set number w)
  where
    by : (b : Bool) (home : Option ℕ) → (if b then with_mark set number false (copied_to set home t w) else w).flags ≡ w.flags
    by true None = refl
    by true (Some home) = refl
    by false home = refl

-- links that are
links-flags : (set number : ℕ) (ts : List Tied) (w : World) → (refreshed_from set number ts w).flags ≡ w.flags
links-flags set number [] w = refl
links-flags set number (t ∷ ts) w = links-flags set (number + 1) ts (refreshed_link set number t w) ∙ link-flags set number t w

-- what is announced
announced-flags : (link : ℕ) (t : Tied) (w : World) → (announced link t w).flags ≡ w.flags
announced-flags link t w = by (is_queued link w)
  where
    by : (b : Bool) → (if b then enqueued link w.buffers t.from w else all_marked None link w).flags ≡ w.flags
    by true = refl
    by false = refl

-- values at a link without an event flag
unsynced-flags : (channel : ℕ) (values : List ℤ) (number : ℕ) (t : Tied) (w : World) → t.flag ≡ None → (received_link channel values number t w).flags ≡ w.flags
unsynced-flags channel values number t w none = by (is_of channel t) t.is_monitored t.flag none
  where
    there : World
    there = with_buffer t (take t.count values) w

    by : (b monitored : Bool) (flag : Option ℕ) → flag ≡ None → (if b then (if monitored then flagged flag (announced number t there) else there) else w).flags ≡ w.flags
    by true true None is = announced-flags number t there
    by true true (Some flag) is = absurd (cc)
    by true false flag is = refl
    by false monitored flag is = refl

-- values at a link that is not monitored
unmonitored-flags : (channel : ℕ) (values : List ℤ) (number : ℕ) (t : Tied) (w : World) → t.is_monitored ≡ false → (received_link channel values number t w).flags ≡ w.flags
unmonitored-flags channel values number t w silent = by (is_of channel t) t.is_monitored silent
  where
    there : World
    there = with_buffer t (take t.count values) w

    by : (b monitored : Bool) → monitored ≡ false → (if b then (if monitored then flagged t.flag (announced number t there) else there) else w).flags ≡ w.flags
    by true true is = absurd (cc)
    by true false is = refl
    by false monitored is = refl

-- event flags stay
pub flags_stay : FlagsStay
flags_stay = record {
  refreshes = λ set w. links-flags set 0 w.ties w;
  enters = λ set state is_timed w. refl;
  connects = λ channel now w. refl;
  unsynced = unsynced-flags;
  unmonitored = unmonitored-flags;
}
