-- What the steps of a run do to the world leaves its frame as it was.
use Rattle.std.proofs.Common.{◌≡◌, ◌∙◌, ◌+◌, refl, ap, sym, ℕ, ℤ, Bool, true, false, List, [], ◌∷◌, Option, None, Some, take, if◌then◌else◌}
use Rattle.std.specs.Prelude.{slice_set, slice_index_or}
use Rattle.snl_meaning.specs.declared.ties.Tied.{Tied}
use Rattle.snl_meaning.specs.Frames.{Frame, at_time, frame_of}
use Rattle.snl_meaning.specs.Links.{home_of, with_buffer, buffer_of, is_queued, enqueued, flagged, all_marked, announced}
use Rattle.snl_meaning.specs.World.{World, with_flag, with_waiting}
use Rattle.snl_meaning.proofs.Frames.{Same, same-both, copy-same, queue-same, flag-same, buffer-same, elements-same, marks-same, waiting-same}
use Rattle.snl_meaning.proofs.Sizes.{set-many, mark-many, marked-many}
use Rattle.snl_schedule.specs.declared.events.Event.{Event}
use Rattle.snl_schedule.specs.declared.events.Event.TheVariants.{Up, Down, Val, Done, Tick, Other}
use Rattle.snl_schedule.specs.Arrivals.{is_of, at_links, received_link, received_from, answered_link, answered, connected}
use Rattle.snl_schedule.specs.Event.{applied}
use Rattle.snl_schedule.specs.Instant.{Program, refreshed_sets}
use Rattle.snl_schedule.specs.Refresh.{is_marked, with_mark, copied_to, refreshed_link, refreshed_from, refreshed}
use Rattle.snl_schedule.specs.Turn.{StateSet, entered_in}

-- ---- refreshes

-- the words of a buffer
copied-same : (set : ℕ) (home : Option ℕ) (t : Tied) (w : World) → Same w (copied_to set home t w)
copied-same set None t w = refl
copied-same set (Some home) t w = elements-same set home (buffer_of t w) w

-- a mark of a link is taken away
mark-same : (set number : ℕ) (now : Bool) (w : World) → Same w (with_mark set number now w)
mark-same set number now w = marks-same (slice_set w.marks set (slice_set (slice_index_or w.marks set []) number now)) w (mark-many set number now w.marks)

-- a link
link-same : (set number : ℕ) (t : Tied) (w : World) → Same w (refreshed_link set number t w)
link-same set number t w = by (is_marked set number w)
  where
    there : World
    there = copied_to set (home_of set number w) t w

    by : (b : Bool) → Same w (if b then with_mark set number false there else w)
    by true = same-both w there (with_mark set number false there) (copied-same set (home_of set number w) t w) (mark-same set number false there)
    by false = refl

-- links
links-same : (set number : ℕ) (ts : List Tied) (w : World) → Same w (refreshed_from set number ts w)
links-same set number [] w = refl
links-same set number (t ∷ ts) w =
    let u = refreshed_link set number t w in same-both w u (refreshed_from set (number + 1) ts u) (link-same set number t w) (links-same set (number + 1) ts u)

-- the refresh of a state set
pub refreshed-same : (set : ℕ) (w : World) → Same w (refreshed set w)
refreshed-same set w = links-same set 0 w.ties w

-- of all of them
pub refreshed_sets-same : (gs : List StateSet) (w : World) → Same w (refreshed_sets gs w)
refreshed_sets-same [] w = refl
refreshed_sets-same (g ∷ gs) w = same-both w (refreshed g.set w) (refreshed_sets gs (refreshed g.set w)) (refreshed-same g.set w) (refreshed_sets-same gs (refreshed g.set w))

-- a state is entered
pub entered-same : (set state : ℕ) (is_timed : Bool) (w : World) → Same w (entered_in set state is_timed w)
entered-same set state is_timed w = copy-same set _ w refl

-- ---- events

-- what is announced at a link
announced-same : (link : ℕ) (t : Tied) (w : World) → Same w (announced link t w)
announced-same link t w = by (is_queued link w)
  where
    by : (b : Bool) → Same w (if b then enqueued link w.buffers t.from w else all_marked None link w)
    by true = queue-same link _ w refl
    by false = marks-same _ w (marked-many None link 0 w.homes w.marks)

-- values come to a link
come-same : (channel : ℕ) (values : List ℤ) (number : ℕ) (t : Tied) (w : World) → Same w (received_link channel values number t w)
come-same channel values number t w = by (is_of channel t) t.is_monitored t.flag
  where
    there : World
    there = with_buffer t (take t.count values) w

    told : World
    told = announced number t there

    come : Same w there
    come = buffer-same t (take t.count values) w

    by : (b monitored : Bool) (flag : Option ℕ) → Same w (if b then (if monitored then flagged flag told else there) else w)
    by true true None = same-both w there told come (announced-same number t there)
    by true true (Some flag) = same-both w told (with_flag flag true told) (same-both w there told come (announced-same number t there)) (flag-same flag true told)
    by true false flag = come
    by false monitored flag = refl

-- to links from a number on
received-same : (channel : ℕ) (values : List ℤ) (number : ℕ) (ts : List Tied) (w : World) → Same w (received_from channel values number ts w)
received-same channel values number [] w = refl
received-same channel values number (t ∷ ts) w =
    let u = received_link channel values number t w in
    same-both w u (received_from channel values (number + 1) ts u) (come-same channel values number t w) (received-same channel values (number + 1) ts u)

-- at one link a put is answered
answer-same : (channel number : ℕ) (t : Tied) (w : World) → Same w (answered_link channel number t w)
answer-same channel number t w = by (is_of channel t)
  where
    by : (b : Bool) → Same w (if b then with_waiting number false w else w)
    by true = waiting-same number false w
    by false = refl

-- at links from a number on
answered-same : (channel number : ℕ) (ts : List Tied) (w : World) → Same w (at_links (answered_link channel) number ts w)
answered-same channel number [] w = refl
answered-same channel number (t ∷ ts) w =
    let u = answered_link channel number t w in
    same-both w u (at_links (answered_link channel) (number + 1) ts u) (answer-same channel number t w) (answered-same channel (number + 1) ts u)

-- an event
pub event-same : (q : Program) (event : Event) (w : World) → Same w (applied q event w)
event-same q (Up channel) w = ap (λ (n : ℕ). let f = frame_of w in record f { ups = n }) (set-many w.ups channel true)
event-same q (Down channel) w =
    let v = connected channel false w in
    same-both w v (answered q channel v) (ap (λ (n : ℕ). let f = frame_of w in record f { ups = n }) (set-many w.ups channel false))
    (answered-same channel 0 q.links v)
event-same q (Done channel) w = answered-same channel 0 q.links w
event-same q (Val channel values) w =
    let v = record w { valued = slice_set w.valued channel true } in
    same-both w v (received_from channel values.items 0 q.links v) (ap (λ (n : ℕ). let f = frame_of w in record f { valued = n }) (set-many w.valued channel true))
    (received-same channel values.items 0 q.links v)
event-same q Tick w = refl
event-same q Other w = refl

-- ---- the time

-- the frame is as it was, but for the time
abbrev pub SameButTime : World → World → Type 0
SameButTime w u = frame_of u ≡ at_time u.time (frame_of w)

-- where nothing of it changes
pub but-same : (w u : World) → Same w u → SameButTime w u
but-same w u same = same ∙ ap (λ (ms : ℕ). at_time ms (frame_of w)) (sym (ap (λ (f : Frame). f.time) same))

-- one change after another
pub but-both : (u v w : World) → SameButTime u v → SameButTime v w → SameButTime u w
but-both u v w a b = b ∙ ap (at_time w.time) a

-- a change after the time was set
pub but-at : (ms : ℕ) (w u : World) → Same (record w { time = ms }) u → SameButTime w u
but-at ms w u same = but-both w (record w { time = ms }) u refl (but-same (record w { time = ms }) u same)
