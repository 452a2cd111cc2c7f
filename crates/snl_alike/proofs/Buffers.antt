-- What comes to links comes alike to worlds whose buffers and marks are the same.
use Rattle.std.proofs.Common.{◌≡◌, ◌+◌, ◌<◌, refl, sym, subst, ℕ, ℤ, Bool, true, false, List, [], ◌∷◌, Option, None, Some, take, if◌then◌else◌}
use Rattle.std.specs.Prelude.{slice_index_or, slice_set}
use Rattle.snl_meaning.specs.declared.ties.Tied.{Tied}
use Rattle.snl_meaning.specs.Links.{all_marked, announced, buffer_of, enqueued, flagged, home_of, is_queued, marked, marked_from, noticed, put_into, queue_of, with_buffer, with_elements}
use Rattle.snl_meaning.specs.World.{World, overwritten}
use Rattle.snl_schedule.specs.Arrivals.{is_of, received_link}
use Rattle.snl_schedule.specs.Refresh.{copied_to, is_marked, refreshed, refreshed_from, refreshed_link, with_mark}
use Rattle.snl_alike.specs.TwoRuns.{Common, Rest, rest_of, with_rest}

-- All that is no time and no word, buffers and marks with it, is the same in both worlds, and they stay alike where the same of it is
-- changed in both, but for how far the program has come and for what the links of a world are, and where the same values come to the copy
-- of a state set below a number.
pub record KeepsBuffers (sets : ℕ) (E : World → World → Type 0) : Type 0 where
  pub rest : (w u : World) → E w u → rest_of w ≡ rest_of u
  pub changes : (r : Rest) (w u : World) → r.phase ≡ w.phase → r.homes ≡ w.homes → r.ties ≡ w.ties → r.channels ≡ w.channels → E w u → E (with_rest r w) (with_rest r u)
  pub comes : (set place : ℕ) (zs : List ℤ) → set < sets → (w u : World) → E w u → E (with_elements set place zs w) (with_elements set place zs u)

-- What worlds have in common, of that;
abbrev pub common_in : Rest → Common
common_in r = record {
  phase = r.phase;
  ticks = r.ticks;
  flags = r.flags;
  channels = r.channels;
  ups = r.ups;
  valued = r.valued;
  ties = r.ties;
  homes = r.homes;
  queues = r.queues;
  waiting = r.waiting;
}

-- and that with it from another world.
abbrev pub rest_with : Common → Rest → Rest
rest_with c r = record r {
  phase = c.phase;
  ticks = c.ticks;
  flags = c.flags;
  channels = c.channels;
  ups = c.ups;
  valued = c.valued;
  ties = c.ties;
  homes = c.homes;
  queues = c.queues;
  waiting = c.waiting;
}

-- a mark leaves copies as they are
pub marked-copies : (but : Option ℕ) (link : ℕ) (t : Tied) (w : World) → (marked but link t w).copies ≡ w.copies
marked-copies but link t w = by t.is_monitored
  where
    by : (b : Bool) → (if b then all_marked but link w else w).copies ≡ w.copies
    by true = refl
    by false = refl

module _ (sets : ℕ) (E : World → World → Type 0) (same : KeepsBuffers sets E) where
  -- the second world with that from the first
  abbrev lev : World → World → World
  lev w u = with_rest (rest_of w) u

  -- any change of a world keeps worlds alike
  abbrev Keeps : (World → World) → Type 0
  Keeps f = (w u : World) → E w u → E (f w) (f u)

  -- where it does so of worlds that have that in common
  leveled : (f : World → World) → ((w u : World) → E w (lev w u) → E (f w) (f (lev w u))) → Keeps f
  leveled f h w u e =
      let p : rest_of w ≡ rest_of u = same.rest w u e in
      subst (λ (r : Rest). E (f w) (f (with_rest r u))) p (h w u (subst (λ (r : Rest). E w (with_rest r u)) (sym p) e))

  -- numbers come to a buffer
  filled : (t : Tied) (zs : List ℤ) → Keeps (with_buffer t zs)
  filled t zs = leveled (with_buffer t zs) (λ w u e. same.changes (record (rest_of w) { buffers = overwritten w.buffers t.from zs }) w (lev w u) refl refl refl refl e)

  -- a link is marked where it is monitored
  marked-alike : (but : Option ℕ) (link : ℕ) (t : Tied) → Keeps (marked but link t)
  marked-alike but link t = leveled (marked but link t) (λ w u e. by w u e t.is_monitored)
    where
      by : (w u : World) → E w (lev w u) → (b : Bool) → E (if b then all_marked but link w else w) (if b then all_marked but link (lev w u) else lev w u)
      by w u e true = same.changes (record (rest_of w) { marks = marked_from but link 0 w.homes w.marks }) w (lev w u) refl refl refl refl e
      by w u e false = e

  -- a buffer comes to a copy
  pub fetched-alike : (set place : ℕ) (t : Tied) → set < sets → Keeps (λ w. with_elements set place (buffer_of t w) w)
  fetched-alike set place t low = leveled (λ w. with_elements set place (buffer_of t w) w) (λ w u e. same.comes set place (buffer_of t w) low w (lev w u) e)

  -- numbers come to a link, which is marked
  pub handed-alike : (set link : ℕ) (t : Tied) (zs : List ℤ) → Keeps (λ w. marked (Some set) link t (with_buffer t zs w))
  handed-alike set link t zs w u e = marked-alike (Some set) link t _ _ (filled t zs w u e)

  -- ---- the refresh

  -- one link
  link-alike : (set number : ℕ) (t : Tied) → set < sets → Keeps (refreshed_link set number t)
  link-alike set number t low = leveled (refreshed_link set number t) (λ w u e. by w u e (is_marked set number w))
    where
      copied : (w u : World) → E w (lev w u) → (home : Option ℕ) → E (copied_to set home t w) (copied_to set home t (lev w u))
      copied w u e None = e
      copied w u e (Some home) = same.comes set home (buffer_of t w) low w (lev w u) e

      -- a mark that is cleared
      unmarked : Keeps (with_mark set number false)
      unmarked = leveled (with_mark set number false) (λ w u e.
          same.changes (record (rest_of w) { marks = slice_set w.marks set (slice_set (slice_index_or w.marks set []) number false) }) w (lev w u) refl refl refl refl e)

      by : (w u : World) → E w (lev w u) → (b : Bool) → E (if b then with_mark set number false (copied_to set (home_of set number w) t w) else w)
          (if b then with_mark set number false (copied_to set (home_of set number w) t (lev w u)) else lev w u)
      by w u e true = unmarked _ _ (copied w u e (home_of set number w))
      by w u e false = e

  -- links
  links-alike : (set number : ℕ) (ts : List Tied) → set < sets → Keeps (refreshed_from set number ts)
  links-alike set number [] low = λ w u e. e
  links-alike set number (t ∷ ts) low = λ w u e. links-alike set (number + 1) ts low _ _ (link-alike set number t low w u e)

  -- all of them
  pub refreshed-alike : (set : ℕ) → set < sets → Keeps (refreshed set)
  refreshed-alike set low w u e = subst (λ (r : Rest). E (refreshed set w) (refreshed_from set 0 r.ties u)) (same.rest w u e) (links-alike set 0 w.ties low w u e)

  -- ---- values of a channel

  -- an event flag of a link
  flagged-alike : (flag : Option ℕ) → Keeps (flagged flag)
  flagged-alike None w u e = e
  flagged-alike (Some flag) w u e =
      leveled (flagged (Some flag)) (λ x y k. same.changes (record (rest_of x) { flags = slice_set x.flags flag true }) x (lev x y) refl refl refl refl k) w u e

  -- what is in the buffer of a link is announced
  announced-alike : (link : ℕ) (t : Tied) → Keeps (announced link t)
  announced-alike link t = leveled (announced link t) (λ w u e. by w u e (is_queued link w))
    where
      by : (w u : World) → E w (lev w u) → (b : Bool) → E (if b then enqueued link w.buffers t.from w else all_marked None link w)
          (if b then enqueued link w.buffers t.from (lev w u) else all_marked None link (lev w u))
      by w u e true = same.changes (record (rest_of w) { queues = slice_set w.queues link (put_into w.buffers t.from (queue_of link w)) }) w (lev w u) refl refl refl refl e
      by w u e false = same.changes (record (rest_of w) { marks = marked_from None link 0 w.homes w.marks }) w (lev w u) refl refl refl refl e

  -- and noticed, where it is monitored
  noticed-alike : (link : ℕ) (t : Tied) → Keeps (noticed link t)
  noticed-alike link t w u e = by t.is_monitored
    where
      by : (b : Bool) → E (if b then flagged t.flag (announced link t w) else w) (if b then flagged t.flag (announced link t u) else u)
      by true = flagged-alike t.flag _ _ (announced-alike link t w u e)
      by false = e

  -- values come at a link
  pub received-alike : (channel : ℕ) (values : List ℤ) (link : ℕ) (t : Tied) → Keeps (received_link channel values link t)
  received-alike channel values link t w u e = by (is_of channel t)
    where
      by : (b : Bool) → E (if b then noticed link t (with_buffer t (take t.count values) w) else w) (if b then noticed link t (with_buffer t (take t.count values) u) else u)
      by true = noticed-alike link t _ _ (filled t (take t.count values) w u e)
      by false = e
