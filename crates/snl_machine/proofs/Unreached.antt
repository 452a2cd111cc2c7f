-- What a program does without the pieces of the states that are not in a table: the same rounds, instants and lines.
use Rattle.std.proofs.Common.{◌≡◌, ◌∙◌, refl, ap, sym, ℕ, zero, suc, ◌-◌, ◌↔◌, Bool, true, false, List, [], ◌∷◌, map, Option, None, Some, if◌then◌else◌}
use Rattle.snl_syntax.specs.Programs.{ProgramTree}
use Rattle.snl_load.specs.Reached.{set_reached, only_reached}
use Rattle.snl_machine.specs.Reached.{Table, IsIn, AreReached}
use Rattle.snl_machine.proofs.Alike.{Good, Plain, After, Agree, Stays, IsSoundSet, itself, then-alike, told-alike, turn-alike, begun-alike}
use Rattle.snl_machine.proofs.States.{event-stays, links-stay}
use Rattle.snl_meaning.specs.declared.live.Live.{Live}
use Rattle.snl_meaning.specs.declared.live.Live.TheVariants.{Waiting, Running, Ended}
use Rattle.snl_meaning.specs.Keeping.{world_after}
use Rattle.snl_meaning.specs.Ran.{Ran, Gives, Faults, then_do}
use Rattle.snl_meaning.specs.World.{World}
use Rattle.snl_schedule.specs.declared.events.Event.{Event}
use Rattle.snl_schedule.specs.declared.events.Event.TheVariants.{Up, Down, Val, Done, Tick, Other}
use Rattle.snl_schedule.specs.declared.transitions.Turned.{Turned}
use Rattle.snl_schedule.specs.declared.transitions.Turned.TheVariants.{Stayed, Moved, Exited}
use Rattle.snl_schedule.specs.Event.{applied, wake_by, wake_before, woken, wakes_of, all_wakes, event_by, passed, closed, line_by, line_of, HasInstant, AtWake, AtLine}
use Rattle.snl_schedule.specs.Instant.{Program, first_name, owned, later, is_exit, unless_exited, round_from, round_of, closed_by, exited, unless_still, rounds_of, is_ready, refreshed_sets, begun, begun_sets, opened, told_start, started, all_rounds, instant_by, instant_of}
use Rattle.snl_schedule.specs.Refresh.{refreshed}
use Rattle.snl_schedule.specs.Turn.{StateSet, told_fault, turn_of}

module _ (p : ProgramTree) (reached : Table) where
  -- ---- state sets

  -- state sets that are sound
  abbrev pub AreSoundSets : List StateSet → Type 0
  AreSoundSets [] = Unit {0}
  AreSoundSets (s ∷ ss) = IsSoundSet p reached s × AreSoundSets ss

  -- the same without the pieces
  abbrev rest : List StateSet → List StateSet
  rest = map (set_reached reached)

  -- the name of the first one stays
  first-name : (ss : List StateSet) → first_name (rest ss) ≡ first_name ss
  first-name [] = refl
  first-name (s ∷ ss) = refl

  -- the others after a turn, if they have one
  others-alike : (ss : List StateSet) (t : Turned) (u : World) → Good p reached u → Agree p reached (round_from ss t u) (round_from (rest ss) t u) →
      (b : Bool) → Agree p reached (if b then Gives t u [] else round_from ss t u) (if b then Gives t u [] else round_from (rest ss) t u)
  others-alike ss t u h others true = itself p reached (Plain p reached) _ h
  others-alike ss t u h others false = others

  -- their turns
  turns-alike : (ss : List StateSet) → AreSoundSets ss → (before : Turned) (w : World) → Good p reached w →
      Agree p reached (round_from ss before w) (round_from (rest ss) before w)
  turns-alike [] all before w good = itself p reached (Plain p reached) _ good
  turns-alike (s ∷ ss) all before w good =
      then-alike p reached (Plain p reached) (Plain p reached) (turn_of s w) (turn_of (set_reached reached s) w)
      (λ turned. unless_exited (round_from ss) (later before turned)) (λ turned. unless_exited (round_from (rest ss)) (later before turned))
      (turn-alike p reached s all.0 w good)
      (λ turned u h. let t = later before turned in others-alike ss t u h (turns-alike ss all.1 t u h) (is_exit t))

  -- their refreshes
  refreshes-same : (ss : List StateSet) (w : World) → refreshed_sets (rest ss) w ≡ refreshed_sets ss w
  refreshes-same [] w = refl
  refreshes-same (s ∷ ss) w = refreshes-same ss (refreshed s.set w)

  -- which leave a good world
  refreshes-stay : (ss : List StateSet) (w : World) → Good p reached w → Good p reached (refreshed_sets ss w)
  refreshes-stay [] w good = good
  refreshes-stay (s ∷ ss) w good = refreshes-stay ss (refreshed s.set w) (links-stay (IsIn p reached) s.set 0 w.ties w good)

  -- their first states
  begins-alike : (ss : List StateSet) → AreSoundSets ss → (w : World) → Good p reached w → Agree p reached (begun_sets ss w) (begun_sets (rest ss) w)
  begins-alike [] all w good = itself p reached (Plain p reached) _ good
  begins-alike (s ∷ ss) all w good =
      then-alike p reached (Plain p reached) (Plain p reached) (begun s w) (begun (set_reached reached s) w) (λ _ u. begun_sets ss u) (λ _ u. begun_sets (rest ss) u)
      (begun-alike p reached s all.0 w good) (λ _ u h. begins-alike ss all.1 u h)

-- A program whose own blocks leave good worlds, and whose state sets are sound.
pub record IsSoundProgram (p : ProgramTree) (reached : Table) (q : Program) : Type 0 where
  pub entry : Stays p reached q.entry
  pub sets : AreSoundSets p reached q.sets
  pub exit : Stays p reached q.exit

module _ (p : ProgramTree) (reached : Table) (q : Program) (sound : IsSoundProgram p reached q) where
  -- the program without the pieces
  abbrev less : Program
  less = only_reached reached q

  -- what gives nothing but a world does so alike, without the pieces and with them
  abbrev pub DoAlike : (World → Ran (Unit {0})) → (World → Ran (Unit {0})) → Type 0
  DoAlike act act' = (w : World) → Good p reached w → Agree p reached (act w) (act' w)

  -- one step and then another
  both-alike : {A B : Type 0} (r r' : Ran A) (go go' : A → World → Ran B) → Agree p reached r r' →
      ((v : A) (u : World) → Good p reached u → Agree p reached (go v u) (go' v u)) → Agree p reached (then_do r go) (then_do r' go')
  both-alike = then-alike p reached (Plain p reached) (Plain p reached)

  -- a step that is the same
  same-step : {A : Type 0} (r : Ran A) → After p reached (Plain p reached) r → Agree p reached r r
  same-step = itself p reached (Plain p reached)

  -- ---- rounds

  -- one of the program's own blocks
  owned-alike : (block : World → Ran (Unit {0})) → Stays p reached block → DoAlike (owned q block) (owned less block)
  owned-alike block stays w good = record {
    same = ap (λ (name : List ℕ). told_fault name (block w)) (first-name p reached q.sets);
    after = (told-alike p reached (Plain p reached) (first_name q.sets) (block w) (block w) (same-step (block w) (stays w good))).after;
  }

  -- the end of the program
  exited-alike : DoAlike (exited q) (exited less)
  exited-alike w good =
      both-alike (owned q q.exit w) (owned less q.exit w) (λ _ u. closed_by q.name u) (λ _ u. closed_by q.name u) (owned-alike q.exit sound.exit w good)
      (λ _ u h. same-step (closed_by q.name u) h)

  -- rounds
  rounds-alike : (n : ℕ) → DoAlike (rounds_of q n) (rounds_of less n)
  rounds-alike zero w good = same-step _ good
  rounds-alike (suc n) w good =
      both-alike (round_of q w) (round_of less w) (unless_still q (rounds_of q n)) (unless_still less (rounds_of less n))
      (turns-alike p reached q.sets sound.sets Stayed (record w { due = None }) good) (by (λ u h. rounds-alike n u h))
    where
      by : DoAlike (rounds_of q n) (rounds_of less n) → (t : Turned) (u : World) → Good p reached u →
          Agree p reached (unless_still q (rounds_of q n) t u) (unless_still less (rounds_of less n) t u)
      by others Stayed u h = same-step _ h
      by others Moved u h = others u h
      by others Exited u h = exited-alike u h

  -- ---- an instant

  -- what follows the line of the start
  opened-alike : DoAlike (opened q) (opened less)
  opened-alike w good =
      let u = refreshed_sets q.sets w in
      let here = owned-alike q.entry sound.entry u (refreshes-stay p reached q.sets w good) in
      both-alike (owned q q.entry u) (owned less q.entry (refreshed_sets less.sets w)) (λ _ v. begun_sets q.sets v) (λ _ v. begun_sets less.sets v)
      (record { same = ap (owned less q.entry) (refreshes-same p reached q.sets w) ∙ here.same; after = here.after })
      (λ _ v h. begins-alike p reached q.sets sound.sets v h)

  -- the start
  started-alike : DoAlike (started q) (started less)
  started-alike w good =
      both-alike (told_start q w) (told_start less w) (λ _ u. opened q u) (λ _ u. opened less u) (same-step (told_start q w) good) (λ _ u h. opened-alike u h)

  -- an instant, by how far the program has come
  by-alike : (phase : Live) → DoAlike (instant_by q phase) (instant_by less phase)
  by-alike Ended w good = same-step _ good
  by-alike Running w good = rounds-alike (suc w.ticks) w good
  by-alike Waiting w good = by (is_ready q w)
    where
      by : (b : Bool) → Agree p reached (if b then then_do (started q w) (λ _ u. all_rounds q u) else Gives tt w [])
          (if b then then_do (started less w) (λ _ u. all_rounds less u) else Gives tt w [])
      by true = both-alike (started q w) (started less w) (λ _ u. all_rounds q u) (λ _ u. all_rounds less u) (started-alike w good) (λ _ u h. rounds-alike (suc u.ticks) u h)
      by false = same-step _ good

  -- an instant
  instant-alike : (budget : ℕ) → DoAlike (instant_of q budget) (instant_of less budget)
  instant-alike budget w good = by-alike w.phase (record w { ticks = budget }) good

  -- ---- wakes and the event

  -- wakes
  wakes-alike : (budget ms n : ℕ) → DoAlike (wakes_of q budget ms n) (wakes_of less budget ms n)
  wakes-alike budget ms zero w good = same-step _ good
  wakes-alike budget ms (suc n) w good = by (λ u h. wakes-alike budget ms n u h) (wake_before ms w)
    where
      by : DoAlike (wakes_of q budget ms n) (wakes_of less budget ms n) → (o : Option ℕ) →
          Agree p reached (woken q budget (wakes_of q budget ms n) o w) (woken less budget (wakes_of less budget ms n) o w)
      by others None = same-step _ good
      by others (Some wake) =
          let u = record w { time = wake } in
          both-alike (instant_of q budget u) (instant_of less budget u) (λ _ v. wakes_of q budget ms n v) (λ _ v. wakes_of less budget ms n v) (instant-alike budget u good)
          (λ _ v h. others v h)

  -- an event changes the same
  applied-same : (event : Event) (w : World) → applied less event w ≡ applied q event w
  applied-same (Up channel) w = refl
  applied-same (Down channel) w = refl
  applied-same (Done channel) w = refl
  applied-same (Val channel values) w = refl
  applied-same Tick w = refl
  applied-same Other w = refl

  -- an event and its instant
  happened-alike : (budget ms : ℕ) (event : Event) →
      DoAlike (λ w. instant_of q budget (applied q event (record w { time = ms }))) (λ w. instant_of less budget (applied less event (record w { time = ms })))
  happened-alike budget ms event w good =
      let u = record w { time = ms } in
      let here = instant-alike budget (applied q event u) (event-stays (IsIn p reached) q event u good) in
      record { same = ap (instant_of less budget) (applied-same event u) ∙ here.same; after = here.after }

  -- the same by how far the program has come
  event-alike : (budget ms : ℕ) (event : Event) (phase : Live) → DoAlike (event_by q budget ms event phase) (event_by less budget ms event phase)
  event-alike budget ms event Ended w good = same-step _ good
  event-alike budget ms event Waiting w good = happened-alike budget ms event w good
  event-alike budget ms event Running w good = happened-alike budget ms event w good

  -- wakes and then the event
  passed-alike : (budget ms : ℕ) (event : Event) → DoAlike (passed q budget ms event) (passed less budget ms event)
  passed-alike budget ms event w good =
      both-alike (all_wakes q budget ms w) (all_wakes less budget ms w) (λ _ u. event_by q budget ms event u.phase u) (λ _ u. event_by less budget ms event u.phase u)
      (wakes-alike budget ms (ms - w.time) w good) (λ _ u h. event-alike budget ms event u.phase u h)

  -- what has not ended is a good world
  good-while : (w : World) (phase : Live) → w.phase ≡ phase → (phase ≡ Ended → ⊥) → AreReached p reached w → Good p reached w
  good-while w phase is lives are = are (λ ended. lives (sym is ∙ ended))

  -- ---- a line

  -- it does the same,
  pub line-same : (budget ms : ℕ) (event : Event) (w : World) → AreReached p reached w → line_of less budget ms event w ≡ line_of q budget ms event w
  line-same budget ms event w are = by w.phase refl
    where
      by : (phase : Live) → w.phase ≡ phase → line_by less budget ms event phase w ≡ line_by q budget ms event phase w
      by Ended is = refl
      by Waiting is = ap closed (passed-alike budget ms event w (good-while w Waiting is (λ e. absurd (cc)) are)).same
      by Running is = ap closed (passed-alike budget ms event w (good-while w Running is (λ e. absurd (cc)) are)).same

  -- and leaves a world of which the same is known
  pub line-stays : (budget ms : ℕ) (event : Event) (w : World) → AreReached p reached w → AreReached p reached (world_after (line_of q budget ms event w))
  line-stays budget ms event w are = by w.phase refl
    where
      at : (r : Ran (Unit {0})) → After p reached (Plain p reached) r → AreReached p reached (world_after (closed r))
      at (Gives v u text) h lives = h
      at (Faults f line u text) h lives = h

      by : (phase : Live) → w.phase ≡ phase → AreReached p reached (world_after (line_by q budget ms event phase w))
      by Ended is = are
      by Waiting is = at (passed q budget ms event w) (passed-alike budget ms event w (good-while w Waiting is (λ e. absurd (cc)) are)).after
      by Running is = at (passed q budget ms event w) (passed-alike budget ms event w (good-while w Running is (λ e. absurd (cc)) are)).after

  -- ---- the times of instants

  -- what has ended has no wakes
  ended-wakes : (x : Program) (budget ms n : ℕ) (w : World) → w.phase ≡ Ended → wakes_of x budget ms n w ≡ Gives tt w []
  ended-wakes x budget ms zero w ended = refl
  ended-wakes x budget ms (suc n) w ended = ap (λ (phase : Live). woken x budget (wakes_of x budget ms n) (wake_by ms phase w.wake) w) ended

  -- wakes do the same
  wakes-same : (budget ms : ℕ) (w : World) → AreReached p reached w → (n : ℕ) → wakes_of less budget ms n w ≡ wakes_of q budget ms n w
  wakes-same budget ms w are n = by w.phase refl
    where
      by : (phase : Live) → w.phase ≡ phase → wakes_of less budget ms n w ≡ wakes_of q budget ms n w
      by Ended is = ended-wakes less budget ms n w is ∙ sym (ended-wakes q budget ms n w is)
      by Waiting is = (wakes-alike budget ms n w (good-while w Waiting is (λ e. absurd (cc)) are)).same
      by Running is = (wakes-alike budget ms n w (good-while w Running is (λ e. absurd (cc)) are)).same

  -- so instants come at the same times
  handed-on : (x y : Program) (budget ms : ℕ) (w : World) → ((n : ℕ) → wakes_of y budget ms n w ≡ wakes_of x budget ms n w) → (t : ℕ) →
      HasInstant x budget ms w t → HasInstant y budget ms w t
  handed-on x y budget ms w same _ (AtWake n wake u text is at) = AtWake n wake u text (same n ∙ is) at
  handed-on x y budget ms w same _ (AtLine u text is lives) = AtLine u text (same (ms - w.time) ∙ is) lives

  -- both ways
  pub instants-same : (budget ms : ℕ) (w : World) → AreReached p reached w → (t : ℕ) → HasInstant less budget ms w t ↔ HasInstant q budget ms w t
  instants-same budget ms w are t =
      let same = wakes-same budget ms w are in
      (handed-on less q budget ms w (λ n. sym (same n)) t, handed-on q less budget ms w same t)
