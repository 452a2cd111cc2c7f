-- A line of a trace leaves a program that waits as one that still waits, or something is written.
use Rattle.std.proofs.Common.{◌≡◌, ◌∙◌, ◌+◌, ◌-◌, ◌⊎◌, inl, inr, ℕ, zero, suc, Bool, true, false, List, [], ◌∷◌, ◌++◌, ℤ, Option, None, Some, take, if◌then◌else◌, refl, ap, sym, subst, append_assoc, codes}
use Rattle.std.specs.Prelude.{decimal}
use Rattle.snl_meaning.specs.declared.live.Live.{Live}
use Rattle.snl_meaning.specs.declared.live.Live.TheVariants.{Waiting, Running}
use Rattle.snl_meaning.specs.declared.ties.Tied.{Tied}
use Rattle.snl_meaning.specs.Links.{is_queued, enqueued, all_marked, announced, flagged, with_buffer}
use Rattle.snl_meaning.specs.Ran.{Ran, Gives, Faults, also, then_do}
use Rattle.snl_meaning.specs.World.{World}
use Rattle.snl_output.specs.Does.{text_of}
use Rattle.snl_output.specs.Lines.{joined, newline, start_line}
use Rattle.snl_schedule.specs.declared.events.Event.{Event}
use Rattle.snl_schedule.specs.declared.events.Event.TheVariants.{Up, Down, Val, Done, Tick, Other}
use Rattle.snl_schedule.specs.Arrivals.{is_of, received_link, received_from, answered}
use Rattle.snl_schedule.specs.Event.{applied, wake_by, woken, wakes_of, all_wakes, event_by, closed, line_by}
use Rattle.snl_schedule.specs.Instant.{Program, all_rounds, instant_by, is_ready, opened, started}
use Rattle.snl_schedule.proofs.Answering.{answers_change_no_more}
use Rattle.snl_views.specs.Laws.{StillWaits, WaitsOrBegins}
use Rattle.snl_views.proofs.Awaiting.{none-left}

-- ---- events

-- the same phase as before
abbrev Same : World → World → Type 0
Same w u = u.phase ≡ w.phase

-- what is announced
announced-phase : (link : ℕ) (t : Tied) (w : World) → Same w (announced link t w)
announced-phase link t w = by (is_queued link w)
  where
    by : (b : Bool) → Same w (if b then enqueued link w.buffers t.from w else all_marked None link w)
    by true = refl
    by false = refl

-- values that come to a link
link-phase : (channel : ℕ) (values : List ℤ) (number : ℕ) (l : Tied) (w : World) → Same w (received_link channel values number l w)
link-phase channel values number l w = by (is_of channel l) l.is_monitored l.flag
  where
    there : World
    there = with_buffer l (take l.count values) w

    by : (b monitored : Bool) (flag : Option ℕ) → Same w (if b then (if monitored then flagged flag (announced number l there) else there) else w)
    by true true None = announced-phase number l there
    by true true (Some flag) = announced-phase number l there
    by true false flag = refl
    by false monitored flag = refl

-- values that come to links
links-phase : (channel : ℕ) (values : List ℤ) (number : ℕ) (ls : List Tied) (w : World) → Same w (received_from channel values number ls w)
links-phase channel values number [] w = refl
links-phase channel values number (l ∷ ls) w = links-phase channel values (number + 1) ls (received_link channel values number l w) ∙ link-phase channel values number l w

-- puts that are answered
answered-phase : (p : Program) (channel : ℕ) (w : World) → Same w (answered p channel w)
answered-phase p channel w = ap (λ (u : World). u.phase) (answers_change_no_more p channel w)

-- an event
applied-phase : (p : Program) (event : Event) (w : World) → Same w (applied p event w)
applied-phase p (Up channel) w = refl
applied-phase p (Down channel) w = answered-phase p channel _
applied-phase p (Done channel) w = answered-phase p channel w
applied-phase p (Val channel values) w = links-phase channel values.items _ p.links _
applied-phase p Tick w = refl
applied-phase p Other w = refl

-- ---- texts

-- the text of a step after another text
pub text_of-also : {A : Type 0} (before : List ℕ) (r : Ran A) → text_of (also before r) ≡ before ++ text_of r
text_of-also before (Gives v w text) = refl
text_of-also before (Faults f line w text) = refl

-- the text of a step that is closed
text-closed : (r : Ran (Unit {0})) → text_of (closed r) ≡ text_of r
text-closed (Gives v w text) = refl
text-closed (Faults f line w text) = refl

-- a text before a step that another follows
text-then : {A B : Type 0} (before : List ℕ) (r : Ran A) (go : A → World → Ran B) → text_of (then_do (also before r) go) ≡ before ++ text_of (then_do r go)
text-then before (Gives v w text) go =
    text_of-also (before ++ text) (go v w) ∙ append_assoc before text (text_of (go v w)) ∙ ap (λ t. before ++ t) (sym (text_of-also text (go v w)))
text-then before (Faults f line w text) go = refl

-- the line of the start is no empty text
no-start : (digits : List ℕ) (name : List ℕ) → joined (digits ∷ codes " start " ∷ name ∷ newline ∷ []) ≡ [] → ⊥
no-start [] name none = cc
no-start (d ∷ ds) name none = cc

-- ---- a line

-- no wake comes while a program waits
wakes-none : (p : Program) (budget ms n : ℕ) (w : World) → w.phase ≡ Waiting → wakes_of p budget ms n w ≡ Gives tt w []
wakes-none p budget ms zero w waits = refl
wakes-none p budget ms (suc n) w waits = ap (λ (phase : Live). woken p budget (wakes_of p budget ms n) (wake_by ms phase w.wake) w) waits

-- what a line gives
abbrev Or : Program → Ran Live → Type 0
Or p r = StillWaits p r ⊎ (text_of r ≡ [] → ⊥)

-- the start writes its line
starts : (p : Program) (w : World) → text_of (closed (also [] (then_do (started p w) (λ _ u. all_rounds p u)))) ≡ [] → ⊥
starts p w none =
    let go : Unit {0} → World → Ran (Unit {0}) = λ _ u. all_rounds p u in
    let line = start_line w.time p.name in
    let opens : Ran (Unit {0}) = opened p (record w { phase = Running }) in
    let text : text_of (closed (also [] (then_do (started p w) go))) ≡ line ++ text_of (then_do opens go) =
    text-closed (also [] (then_do (started p w) go)) ∙ text_of-also [] (then_do (started p w) go) ∙ text-then line opens go in
    no-start (decimal w.time) p.name (none-left line (text_of (then_do opens go)) (sym text ∙ none))

-- an instant of a program that waits
instant-or : (p : Program) (w : World) → w.phase ≡ Waiting → Or p (closed (also [] (instant_by p Waiting w)))
instant-or p w waits = by (is_ready p w) refl
  where
    by : (b : Bool) → is_ready p w ≡ b → Or p (closed (also [] (if b then then_do (started p w) (λ _ u. all_rounds p u) else Gives tt w [])))
    by true ready = inr (starts p w)
    by false unready = inl (record { world = w; is = ap (λ (phase : Live). Gives phase w []) waits; phase = waits; unready = unready })

-- the law: by what a line of each kind does to a program that waits
pub waits_or_begins : WaitsOrBegins
waits_or_begins p budget ms event w waits =
    let there : World = applied p event (record w { time = ms }) in
    let still : there.phase ≡ Waiting = applied-phase p event (record w { time = ms }) ∙ waits in
    let at : Or p (closed (also [] (instant_by p there.phase (record there { ticks = budget })))) =
    subst (λ (phase : Live). Or p (closed (also [] (instant_by p phase (record there { ticks = budget }))))) (sym still) (instant-or p (record there { ticks = budget }) still) in
    let told : Or p (closed (also [] (event_by p budget ms event w.phase w))) =
    subst (λ (phase : Live). Or p (closed (also [] (event_by p budget ms event phase w)))) (sym waits) at in
    let line : Or p (closed (then_do (all_wakes p budget ms w) (λ _ u. event_by p budget ms event u.phase u))) =
    subst (λ (r : Ran (Unit {0})). Or p (closed (then_do r (λ _ u. event_by p budget ms event u.phase u)))) (sym (wakes-none p budget ms (ms - w.time) w waits)) told in
    subst (λ (phase : Live). Or p (line_by p budget ms event phase w)) (sym waits) line
