-- Wakes ascend and end, and time never falls.
use Rattle.std.proofs.Common.{◌≡◌, ◌∙◌, ◌+◌, ◌-◌, ◌<◌, ◌≤◌, refl, ap, sym, subst, arith, ℕ, zero, suc, ℤ, pos, negsuc, Bool, true, false, nat_lt, List, [], ◌∷◌, Option, None, Some, take, if◌then◌else◌}
use Rattle.std.specs.Prelude.{int_le, nat_le}
use Rattle.std.proofs.lemmas.Bool.{ltb-true, leb-false}
use Rattle.snl_syntax.specs.Programs.{ProgramTree}
use Rattle.snl_channels.specs.Links.{Link}
use Rattle.snl_meaning.specs.declared.live.Live.{Live}
use Rattle.snl_meaning.specs.declared.live.Live.TheVariants.{Waiting, Running, Ended}
use Rattle.snl_meaning.specs.declared.ties.Tied.{Tied}
use Rattle.snl_meaning.specs.Keeping.{world_after}
use Rattle.snl_meaning.specs.Links.{is_queued, enqueued, all_marked, announced, flagged, with_buffer}
use Rattle.snl_meaning.specs.Ran.{Ran, Gives, Faults, also, then_do}
use Rattle.snl_meaning.specs.Words.{least, noted}
use Rattle.snl_meaning.specs.World.{World}
use Rattle.snl_schedule.specs.declared.events.Event.{Event}
use Rattle.snl_schedule.specs.declared.events.Event.TheVariants.{Up, Down, Val, Done, Tick, Other}
use Rattle.snl_schedule.specs.declared.transitions.Turned.{Turned}
use Rattle.snl_schedule.specs.declared.transitions.Turned.TheVariants.{Stayed, Moved, Exited}
use Rattle.snl_schedule.specs.Arrivals.{is_of, received_link, received_from, answered}
use Rattle.snl_schedule.specs.Event.{applied, wake_by, wake_before, woken, wakes_of, all_wakes, event_by, passed, closed, line_by, line_of}
use Rattle.snl_schedule.specs.Instant.{Program, first_name, owned, closed_by, exited, round_of, all_rounds, is_ready, started, instant_by, instant_of}
use Rattle.snl_load.specs.Meaning.{program_meaning}
use Rattle.snl_machine.specs.Ranges.{Begins, GoesOn}
use Rattle.snl_machine.specs.Rounds.{Rounds, Last, Leaves, Stops, Again}
use Rattle.snl_machine.specs.Wakes.{Wakes, NoneLeft, Faulty, Next, IsDueLater, KeepsDue, IsWakeLater, WakesLieLater, WakesEnd, WakesStayLater, TimeNeverFalls, TimeIsTheEvents, TimeIsTheEventsAlone}
use Rattle.snl_schedule.proofs.Answering.{answers_change_no_more}
use Rattle.snl_machine.proofs.Rounds.{rounds_end}
use Rattle.snl_machine.proofs.Parts.{block-keeps}
use Rattle.snl_machine.proofs.Steady.{IsLoose, IsSteady, loosely, round-turns, started-keeps}
use Rattle.snl_machine.proofs.Turning.{Turns, told-after}

-- a due time that is noted after now lies after it
noted-later : (t : ℤ) (w : World) → int_le t (pos w.time) ≡ false → IsDueLater w → IsDueLater (record w { due = noted t w.due })
noted-later (pos n) w is later = by (nat_le n 1000000000000000) w.due refl
  where
    after : w.time < n
    after = leb-false n w.time is

    by : (b : Bool) (o : Option ℕ) → w.due ≡ o → (m : ℕ) → (if b then Some (least n o) else o) ≡ Some m → w.time < m
    by false o due m e = later m (due ∙ e)
    by true None due m e = let same : n ≡ m = cc in omega (arith, same, after)
    by true (Some k) due m e = let same : least n (Some k) ≡ m = cc in let first = later k due in omega (arith, same, after, first)
noted-later (negsuc n) w is later = later

-- no change of a run moves the time, or notes a due time that does not lie after it
due-loose : IsLoose KeepsDue KeepsDue
due-loose = record {
  nothing = λ w. (refl, λ h. h);
  both = λ u v w a b. (b.0 ∙ a.0, λ h. b.1 (a.1 h));
  copies = λ x w. (refl, λ h. h);
  shared = λ x w. (refl, λ h. h);
  marks = λ x w. (refl, λ h. h);
  flags = λ x w. (refl, λ h. h);
  waits = λ x w. (refl, λ h. h);
  buffers = λ x w. (refl, λ h. h);
  queues = λ x w. (refl, λ h. h);
  opens = λ w. (refl, λ h n is. absurd (cc));
  notes = λ t w late. (refl, noted-later t w late);
  wakes = λ w. (refl, λ h. h);
  phase = λ x lives w. (refl, λ h. h);
  spends = λ left w is. (refl, λ h. h);
  weaker = λ w u a. a;
  before = λ u v w a b. (b.0 ∙ a.0, λ h. b.1 (a.1 h));
  after = λ u v w a b. (b.0 ∙ a.0, λ h. b.1 (a.1 h));
}

-- ---- events

-- the same time as before
abbrev Same : World → World → Type 0
Same w u = u.time ≡ w.time

-- what is announced
announced-time : (link : ℕ) (t : Tied) (w : World) → Same w (announced link t w)
announced-time link t w = by (is_queued link w)
  where
    by : (b : Bool) → Same w (if b then enqueued link w.buffers t.from w else all_marked None link w)
    by true = refl
    by false = refl

-- values that come to a link
link-time : (channel : ℕ) (values : List ℤ) (number : ℕ) (l : Tied) (w : World) → Same w (received_link channel values number l w)
link-time channel values number l w = by (is_of channel l) l.is_monitored l.flag
  where
    there : World
    there = with_buffer l (take l.count values) w

    by : (b monitored : Bool) (flag : Option ℕ) → Same w (if b then (if monitored then flagged flag (announced number l there) else there) else w)
    by true true None = announced-time number l there
    by true true (Some flag) = announced-time number l there
    by true false flag = refl
    by false monitored flag = refl

-- values that come to links
links-time : (channel : ℕ) (values : List ℤ) (number : ℕ) (ls : List Tied) (w : World) → Same w (received_from channel values number ls w)
links-time channel values number [] w = refl
links-time channel values number (l ∷ ls) w = links-time channel values (number + 1) ls (received_link channel values number l w) ∙ link-time channel values number l w

-- puts that are answered
answered-time : (p : Program) (channel : ℕ) (w : World) → Same w (answered p channel w)
answered-time p channel w = ap (λ (u : World). u.time) (answers_change_no_more p channel w)

-- an event
applied-time : (p : Program) (event : Event) (w : World) → Same w (applied p event w)
applied-time p (Up channel) w = refl
applied-time p (Down channel) w = answered-time p channel _
applied-time p (Done channel) w = answered-time p channel w
applied-time p (Val channel values) w = links-time channel values.items _ p.links _
applied-time p Tick w = refl
applied-time p Other w = refl

-- what an instant gives: the time stands, and the wake of a program that runs lies after it
abbrev Stands : World → Ran (Unit {0}) → Type 0
Stands w (Gives v u text) = (u.time ≡ w.time) × IsWakeLater u
Stands w (Faults f line u text) = u.time ≡ w.time

-- text does not matter
stands-also : (w : World) (text : List ℕ) (r : Ran (Unit {0})) → Stands w r → Stands w (also text r)
stands-also w text (Gives v u more) h = h
stands-also w text (Faults f line u more) h = h

-- after what leaves the time
stands-after : (w u : World) (r : Ran (Unit {0})) → u.time ≡ w.time → Stands u r → Stands w r
stands-after w u (Gives v x text) same h = (h.0 ∙ same, h.1)
stands-after w u (Faults f line x text) same h = h ∙ same

-- what does not run has no wake that counts
not-running : (w : World) (phase : Live) → w.phase ≡ phase → (Running ≡ phase → ⊥) → IsWakeLater w
not-running w phase is other n runs wake = absurd (other (sym runs ∙ is))

module _ (tree : ProgramTree) (ls : List Link) (waits : Bool) where
  -- what the program means
  abbrev p : Program
  p = program_meaning tree ls waits

  -- a round, from where no due time is noted
  round-keeps : (w : World) → Turns KeepsDue KeepsDue (record w { due = None }) (round_of p w)
  round-keeps w = round-turns tree ls waits KeepsDue KeepsDue (loosely KeepsDue KeepsDue due-loose tree) (record w { due = None })

  -- what is known after one
  after-round : (w u : World) (t : Turned) (text : List ℕ) → round_of p w ≡ Gives t u text → KeepsDue (record w { due = None }) u
  after-round w u Stayed text is = subst (Turns KeepsDue KeepsDue (record w { due = None })) is (round-keeps w)
  after-round w u Moved text is = subst (Turns KeepsDue KeepsDue (record w { due = None })) is (round-keeps w)
  after-round w u Exited text is = subst (Turns KeepsDue KeepsDue (record w { due = None })) is (round-keeps w)

  -- the end of the program
  exited-stands : (u : World) → Stands u (exited p u)
  exited-stands u = by (owned p p.exit u) (told-after KeepsDue (first_name p.sets) u (p.exit u) (leaves u))
    where
      s : IsSteady tree KeepsDue KeepsDue
      s = loosely KeepsDue KeepsDue due-loose tree

      leaves : (w : World) → KeepsDue w (world_after (p.exit w))
      leaves = block-keeps tree 0 KeepsDue s.nothing s.both (s.pieces 0) tree.exit

      by : (r : Ran (Unit {0})) → KeepsDue u (world_after r) → Stands u (then_do r (λ _ v. closed_by p.name v))
      by (Gives a v text) h = (h.0, not-running (record v { phase = Ended }) Ended refl (λ (e : Running ≡ Ended). absurd (cc)))
      by (Faults f line v text) h = h.0

  -- rounds
  rounds-stand : (w : World) (r : Ran (Unit {0})) → Rounds p w r → Stands w r
  rounds-stand _ _ (Last w u text is) =
      let k = after-round w u Stayed text is in (k.0, λ n runs at. k.1 (λ m none. absurd (cc)) n at)
  rounds-stand _ _ (Leaves w u text is) = stands-also w text (exited p u) (stands-after w u (exited p u) (after-round w u Exited text is).0 (exited-stands u))
  rounds-stand _ _ (Stops f line w u text is) =
      (subst (Turns KeepsDue KeepsDue (record w { due = None })) is (round-keeps w)).0
  rounds-stand _ _ (Again w u text r is rest) = stands-also w text r (stands-after w u r (after-round w u Moved text is).0 (rounds-stand u r rest))

  -- all of them
  all-stand : (w : World) → Stands w (all_rounds p w)
  all-stand w = rounds-stand w (all_rounds p w) (rounds_end tree ls waits w)

  -- an instant
  instant-stands : (budget : ℕ) (w : World) → Stands w (instant_of p budget w)
  instant-stands budget w = by w.phase refl
    where
      u : World
      u = record w { ticks = budget }

      opening : (r : Ran (Unit {0})) → KeepsDue u (world_after r) → Stands w (then_do r (λ _ v. all_rounds p v))
      opening (Gives v x text) h = stands-also w text (all_rounds p x) (stands-after w x (all_rounds p x) h.0 (all-stand x))
      opening (Faults f line x text) h = h.0

      ready : (b : Bool) → w.phase ≡ Waiting → Stands w (if b then then_do (started p u) (λ _ v. all_rounds p v) else Gives tt u [])
      ready true is = opening (started p u) (started-keeps tree ls waits KeepsDue KeepsDue (loosely KeepsDue KeepsDue due-loose tree) u)
      ready false is = (refl, not-running u Waiting is (λ (e : Running ≡ Waiting). absurd (cc)))

      by : (phase : Live) → w.phase ≡ phase → Stands w (instant_by p phase u)
      by Ended is = (refl, not-running u Ended is (λ (e : Running ≡ Ended). absurd (cc)))
      by Running is = all-stand u
      by Waiting is = ready (is_ready p u) is

  -- ---- wakes

  -- a wake that comes before a time lies between now and then
  between : (ms k : ℕ) (w : World) → IsWakeLater w → wake_before ms w ≡ Some k → (w.time < k) × (k < ms)
  between ms k w later is = by w.phase refl w.wake refl is
    where
      at : (m : ℕ) → w.phase ≡ Running → w.wake ≡ Some m → (b : Bool) → nat_lt m ms ≡ b → (if b then Some m else None) ≡ Some k → (w.time < k) × (k < ms)
      at m runs wake true less e = let same : m ≡ k = cc in (omega (arith, same, later m runs wake), omega (arith, same, ltb-true m ms less))
      at m runs wake false less e = absurd (cc)

      by : (phase : Live) → w.phase ≡ phase → (o : Option ℕ) → w.wake ≡ o → wake_by ms phase o ≡ Some k → (w.time < k) × (k < ms)
      by Waiting runs o wake e = absurd (cc)
      by Ended runs o wake e = absurd (cc)
      by Running runs None wake e = absurd (cc)
      by Running runs (Some m) wake e = at m runs wake (nat_lt m ms) refl e

  -- with as many wakes as there are milliseconds they end by themselves
  wakes-end : (budget ms n : ℕ) (w : World) → IsWakeLater w → ms - w.time ≤ n → Wakes p budget ms w (wakes_of p budget ms n w)
  wakes-end budget ms zero w later few = by (wake_before ms w) refl
    where
      by : (o : Option ℕ) → wake_before ms w ≡ o → Wakes p budget ms w (Gives tt w [])
      by None is = NoneLeft w is
      by (Some k) is = let b = between ms k w later is in absurd (omega (arith, b.0, b.1, few))
  wakes-end budget ms (suc n) w later few = by (λ u. wakes-end budget ms n u) (wake_before ms w) refl
    where
      Others : Type 0
      Others = (u : World) → IsWakeLater u → ms - u.time ≤ n → Wakes p budget ms u (wakes_of p budget ms n u)

      next : Others → (k : ℕ) → wake_before ms w ≡ Some k → (r : Ran (Unit {0})) → instant_of p budget (record w { time = k }) ≡ r → Stands (record w { time = k }) r →
          Wakes p budget ms w (then_do r (λ _ u. wakes_of p budget ms n u))
      next others k is (Gives v u text) at h =
          let b = between ms k w later is in Next k w u text (wakes_of p budget ms n u) is at (others u h.1 (omega (arith, h.0, b.0, b.1, few)))
      next others k is (Faults f line u text) at h = Faulty f line k w u text is at

      by : Others → (o : Option ℕ) → wake_before ms w ≡ o → Wakes p budget ms w (woken p budget (wakes_of p budget ms n) o w)
      by others None is = NoneLeft w is
      by others (Some k) is = next others k is (instant_of p budget (record w { time = k })) refl (instant-stands budget (record w { time = k }))

  -- what is known after wakes
  abbrev Passes : ℕ → World → Ran (Unit {0}) → Type 0
  Passes ms w (Gives v u text) = IsWakeLater u × (w.time ≤ u.time) × (w.time ≤ ms → u.time ≤ ms)
  Passes ms w (Faults f line u text) = (w.time ≤ u.time) × (w.time ≤ ms → u.time ≤ ms)

  -- after an instant at a wake
  passes-next : (ms k : ℕ) (w u : World) (text : List ℕ) (r : Ran (Unit {0})) → w.time < k → k < ms → u.time ≡ k → Passes ms u r → Passes ms w (also text r)
  passes-next ms k w u text (Gives v x more) a b same h =
      (h.0, omega (arith, a, same, h.1), λ (t : w.time ≤ ms). h.2 (omega (arith, b, same)))
  passes-next ms k w u text (Faults f line x more) a b same h = (omega (arith, a, same, h.0), λ (t : w.time ≤ ms). h.1 (omega (arith, b, same)))

  -- wakes
  wakes-pass : (budget ms : ℕ) (w : World) (r : Ran (Unit {0})) → Wakes p budget ms w r → IsWakeLater w → Passes ms w r
  wakes-pass budget ms _ _ (NoneLeft w is) later = (later, omega arith, λ t. t)
  wakes-pass budget ms _ _ (Faulty f line k w u text is at) later =
      let b = between ms k w later is in
      let same : u.time ≡ k = subst (Stands (record w { time = k })) at (instant-stands budget (record w { time = k })) in
      (omega (arith, b.0, same), λ (t : w.time ≤ ms). omega (arith, b.1, same))
  wakes-pass budget ms _ _ (Next k w u text r is at rest) later =
      let b = between ms k w later is in
      let h : (u.time ≡ k) × IsWakeLater u = subst (Stands (record w { time = k })) at (instant-stands budget (record w { time = k })) in
      passes-next ms k w u text r b.0 b.1 h.0 (wakes-pass budget ms u r rest h.1)

  -- ---- a line

  -- what is known after one
  abbrev Ends : ℕ → World → World → Type 0
  Ends ms w u = IsWakeLater u × (w.time ≤ ms → (w.time ≤ u.time) × (u.time ≤ ms)) × ((u.phase ≡ Ended → ⊥) → u.time ≡ ms)

  -- the event itself
  event-ends : (budget ms : ℕ) (event : Event) (w u : World) → IsWakeLater u → (w.time ≤ u.time) × (w.time ≤ ms → u.time ≤ ms) →
      Ends ms w (world_after (closed (event_by p budget ms event u.phase u)))
  event-ends budget ms event w u later times = by u.phase refl
    where
      there : World
      there = applied p event (record u { time = ms })

      at : (r : Ran (Unit {0})) → Stands there r → Ends ms w (world_after (closed r))
      at (Gives v x text) h = let now = applied-time p event (record u { time = ms }) in (h.1, λ t. (omega (arith, t, h.0, now), omega (arith, h.0, now)), λ lives. h.0 ∙ now)
      at (Faults f line x text) h =
          let now = applied-time p event (record u { time = ms }) in
          (not-running (record x { phase = Ended }) Ended refl (λ (e : Running ≡ Ended). absurd (cc)), λ t. (omega (arith, t, h, now), omega (arith, h, now)), λ lives. absurd (lives refl))

      by : (phase : Live) → u.phase ≡ phase → Ends ms w (world_after (closed (event_by p budget ms event phase u)))
      by Ended is = (later, λ t. (times.0, times.1 t), λ lives. absurd (lives is))
      by Waiting is = at (instant_of p budget there) (instant-stands budget there)
      by Running is = at (instant_of p budget there) (instant-stands budget there)

  -- text does not matter
  closed-also : (text : List ℕ) (r : Ran (Unit {0})) → world_after (closed (also text r)) ≡ world_after (closed r)
  closed-also text (Gives v u more) = refl
  closed-also text (Faults f line u more) = refl

  -- wakes and then the event
  passed-ends : (budget ms : ℕ) (event : Event) (w : World) → IsWakeLater w → Ends ms w (world_after (closed (passed p budget ms event w)))
  passed-ends budget ms event w later =
      by (all_wakes p budget ms w) (wakes-pass budget ms w (all_wakes p budget ms w) (wakes-end budget ms (ms - w.time) w later (omega arith)) later)
    where
      by : (r : Ran (Unit {0})) → Passes ms w r → Ends ms w (world_after (closed (then_do r (λ _ u. event_by p budget ms event u.phase u))))
      by (Gives v u text) h = subst (Ends ms w) (sym (closed-also text (event_by p budget ms event u.phase u))) (event-ends budget ms event w u h.0 (h.1, h.2))
      by (Faults f line u text) h = (not-running (record u { phase = Ended }) Ended refl (λ (e : Running ≡ Ended). absurd (cc)), λ t. (h.0, h.1 t), λ lives. absurd (lives refl))

  -- a line
  pub line-ends : (budget ms : ℕ) (event : Event) (w : World) → IsWakeLater w → Ends ms w (world_after (line_of p budget ms event w))
  line-ends budget ms event w later = by w.phase refl
    where
      by : (phase : Live) → w.phase ≡ phase → Ends ms w (world_after (line_by p budget ms event phase w))
      by Ended is = (later, λ t. (omega arith, t), λ lives. absurd (lives is))
      by Waiting is = passed-ends budget ms event w later
      by Running is = passed-ends budget ms event w later

  -- where no wake comes before the event, only that is done
  no-wakes : (budget ms n : ℕ) (w : World) → wake_before ms w ≡ None → wakes_of p budget ms n w ≡ Gives tt w []
  no-wakes budget ms zero w none = refl
  no-wakes budget ms (suc n) w none = ap (λ o. woken p budget (wakes_of p budget ms n) o w) none

  -- the time of an event alone
  pub alone-at : (budget ms : ℕ) (event : Event) (w : World) → wake_before ms w ≡ None → (w.phase ≡ Ended → ⊥) →
      (world_after (line_of p budget ms event w)).time ≡ ms
  alone-at budget ms event w none lives = by w.phase refl
    where
      there : World
      there = applied p event (record w { time = ms })

      at : (r : Ran (Unit {0})) → Stands there r → (world_after (closed (also [] r))).time ≡ ms
      at (Gives v x text) h = h.0 ∙ applied-time p event (record w { time = ms })
      at (Faults f line x text) h = h ∙ applied-time p event (record w { time = ms })

      happens : (phase : Live) → w.phase ≡ phase → (world_after (closed (also [] (event_by p budget ms event phase w)))).time ≡ ms
      happens Ended is = absurd (lives is)
      happens Waiting is = at (instant_of p budget there) (instant-stands budget there)
      happens Running is = at (instant_of p budget there) (instant-stands budget there)

      on : (world_after (closed (passed p budget ms event w))).time ≡ ms
      on =
          ap (λ r. (world_after (closed (then_do r (λ _ u. event_by p budget ms event u.phase u)))).time) (no-wakes budget ms (ms - w.time) w none)
          ∙ happens w.phase refl

      by : (phase : Live) → w.phase ≡ phase → (world_after (line_by p budget ms event phase w)).time ≡ ms
      by Ended is = absurd (lives is)
      by Waiting is = on
      by Running is = on

-- all wakes before a time are run
pub wakes_end : WakesEnd
wakes_end p ls waits budget ms w later = wakes-end p ls waits budget ms (ms - w.time) w later (omega arith)

-- after a line the wake lies after now again
pub wakes_stay_later : WakesStayLater
wakes_stay_later p ls waits budget ms event w later = (line-ends p ls waits budget ms event w later).0

-- so it does in all worlds that a run comes to
pub wakes_lie_later : WakesLieLater
wakes_lie_later p ls waits budget _ Begins n runs wake = absurd (cc)
wakes_lie_later p ls waits budget _ (GoesOn w ms event before fit) n runs wake = wakes_stay_later p ls waits budget ms event w (wakes_lie_later p ls waits budget w before) n runs wake

-- time never falls
pub time_never_falls : TimeNeverFalls
time_never_falls p ls waits budget ms event w later before = (line-ends p ls waits budget ms event w later).1 before

-- the time is that of the event
pub time_is_the_events : TimeIsTheEvents
time_is_the_events p ls waits budget ms event w later lives = (line-ends p ls waits budget ms event w later).2 lives

-- also where that ends the program
pub time_is_the_events_alone : TimeIsTheEventsAlone
time_is_the_events_alone p ls waits budget ms event w none lives = alone-at p ls waits budget ms event w none lives
