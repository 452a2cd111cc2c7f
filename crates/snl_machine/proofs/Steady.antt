-- What every step of a run keeps of the world: turns, rounds, instants.
use Rattle.std.proofs.Common.{◌≡◌, ◌≤◌, ◌+◌, ℕ, zero, suc, ℤ, pos, Bool, true, false, List, [], ◌∷◌, Option, None, Some, if◌then◌else◌}
use Rattle.snl_syntax.specs.Programs.{StateSetTree, ProgramTree}
use Rattle.snl_channels.specs.Links.{Link}
use Rattle.snl_meaning.specs.declared.live.Live.{Live}
use Rattle.snl_meaning.specs.declared.live.Live.TheVariants.{Waiting, Running, Ended}
use Rattle.snl_meaning.specs.Keeping.{IsKept, PiecesKeep, world_after}
use Rattle.snl_meaning.specs.Ran.{Ran, Gives, Faults, then_do}
use Rattle.std.specs.Prelude.{int_le}
use Rattle.snl_meaning.specs.Links.{home_of, with_elements, with_items}
use Rattle.snl_meaning.specs.Words.{noted}
use Rattle.snl_meaning.specs.World.{Queue, SetMemory, World, with_words_for}
use Rattle.snl_meaning.proofs.Ticks.{Any}
use Rattle.snl_flat.specs.Heres.{scene_in}
use Rattle.snl_load.specs.Meaning.{set_meaning, set_meanings, program_meaning}
use Rattle.snl_meaning.specs.declared.ties.Tied.{Tied}
use Rattle.snl_schedule.specs.declared.transitions.Turned.{Turned}
use Rattle.snl_schedule.specs.declared.transitions.Turned.TheVariants.{Stayed, Moved, Exited}
use Rattle.snl_schedule.specs.Instant.{Program, first_name, owned, later, is_exit, unless_exited, round_from, round_of, closed_by, exited, unless_still, rounds_of, is_ready, refreshed_sets, begun, begun_sets, opened, told_start, started, all_rounds, instant_by}
use Rattle.snl_schedule.specs.Refresh.{is_marked, with_mark, copied_to, refreshed_link, refreshed_from, refreshed}
use Rattle.snl_schedule.specs.Turn.{entered_in, StateSet, turn_of}
use Rattle.snl_machine.specs.Worlds.{last_state}
use Rattle.snl_machine.proofs.Parts.{block-keeps, states-keep}
use Rattle.snl_machine.proofs.Pieces.{keeps-any}
use Rattle.snl_machine.proofs.Turning.{Keeps, Stands, Turns, IsSteadyOn, after-text, told-after, then-keeps, turns-also, begun-keeps, turn-keeps}

-- A relation between a world and a later one that each change of a run of a program keeps, and one that a tick makes
-- stronger.
pub record IsSteady (p : ProgramTree) (R S : World → World → Type 0) : Type 0 where
  pub nothing : (w : World) → R w w
  pub both : (u v w : World) → R u v → R v w → R u w
  pub pieces : (set : ℕ) → PiecesKeep (scene_in p set) R
  pub refreshes : (set : ℕ) (w : World) → R w (refreshed set w)
  pub enters : (set state : ℕ) → state ≤ last_state p set → (is_timed : Bool) (w : World) → R w (entered_in set state is_timed w)
  -- at the beginning of a round no due time is noted
  pub opens : (w : World) → R w (record w { due = None })
  -- after the last one the wake is the least due time
  pub wakes : (w : World) → R w (record w { wake = w.due })
  pub phase : (x : Live) → (x ≡ Waiting → ⊥) → (w : World) → R w (record w { phase = x })
  pub spends : (left : ℕ) (w : World) → w.ticks ≡ suc left → S w (record w { ticks = left })
  pub weaker : (w u : World) → S w u → R w u
  pub before : (u v w : World) → R u v → S v w → S u w
  pub after : (u v w : World) → S u v → R v w → S u w

-- A relation that any change of the copies, of the words of functions, marks, event flags, buffers, queues and links that wait keeps, and of due times those that pieces and
-- rounds make.
pub record IsLoose (R S : World → World → Type 0) : Type 0 where
  pub nothing : (w : World) → R w w
  pub both : (u v w : World) → R u v → R v w → R u w
  pub copies : (x : List SetMemory) (w : World) → R w (record w { copies = x })
  pub shared : (x : List ℤ) (w : World) → R w (record w { shared = x })
  pub marks : (x : List (List Bool)) (w : World) → R w (record w { marks = x })
  pub flags : (x : List Bool) (w : World) → R w (record w { flags = x })
  pub waits : (x : List Bool) (w : World) → R w (record w { waiting = x })
  pub buffers : (x : List ℤ) (w : World) → R w (record w { buffers = x })
  pub queues : (x : List Queue) (w : World) → R w (record w { queues = x })
  pub opens : (w : World) → R w (record w { due = None })
  pub notes : (t : ℤ) (w : World) → int_le t (pos w.time) ≡ false → R w (record w { due = noted t w.due })
  pub wakes : (w : World) → R w (record w { wake = w.due })
  pub phase : (x : Live) → (x ≡ Waiting → ⊥) → (w : World) → R w (record w { phase = x })
  pub spends : (left : ℕ) (w : World) → w.ticks ≡ suc left → S w (record w { ticks = left })
  pub weaker : (w u : World) → S w u → R w u
  pub before : (u v w : World) → R u v → S v w → S u w
  pub after : (u v w : World) → S u v → R v w → S u w

module _ (R S : World → World → Type 0) (s : IsLoose R S) where
  -- other words of a copy, or of functions
  words-keep : (set : ℕ) (is_shared : Bool) (words : List ℤ) (w : World) → R w (with_words_for set is_shared words w)
  words-keep set true words w = s.shared words w
  words-keep set false words w = s.copies _ w

  -- each change of a piece
  kept : (set : ℕ) → IsKept set Any R
  kept set = record {
    nothing = s.nothing;
    both = s.both;
    stores = λ v k z w ok fits. words-keep set v.is_shared _ w;
    clears = λ v w ok. words-keep set v.is_shared _ w;
    signals = λ flag now w. s.flags _ w;
    fills = λ place link t w home is. s.buffers _ w;
    enqueues = λ place link t w home is queued. s.queues _ w;
    fetches = λ place link t w home is. s.copies _ w;
    takes = λ place link t item more w home is has. let u = with_elements set place item w in s.both w u (with_items link more u) (s.copies _ w) (s.queues _ u);
    flushes = λ link w. s.queues _ w;
    waits = λ link w. s.waits _ w;
    marks = λ marks w same. s.marks marks w;
    notes = s.notes;
    spends = λ left w is. s.weaker w (record w { ticks = left }) (s.spends left w is);
  }

  -- a refresh
  copied-keeps : (set : ℕ) (home : Option ℕ) (t : Tied) (w : World) → R w (copied_to set home t w)
  copied-keeps set None t w = s.nothing w
  copied-keeps set (Some home) t w = s.copies _ w

  -- one link
  link-keeps : (set number : ℕ) (t : Tied) (w : World) → R w (refreshed_link set number t w)
  link-keeps set number t w = by (is_marked set number w)
    where
      there : World
      there = copied_to set (home_of set number w) t w

      by : (b : Bool) → R w (if b then with_mark set number false there else w)
      by true = s.both w there (with_mark set number false there) (copied-keeps set (home_of set number w) t w) (s.marks _ there)
      by false = s.nothing w

  -- links
  links-keep : (set number : ℕ) (ts : List Tied) (w : World) → R w (refreshed_from set number ts w)
  links-keep set number [] w = s.nothing w
  links-keep set number (t ∷ ts) w = s.both w (refreshed_link set number t w) _ (link-keeps set number t w) (links-keep set (number + 1) ts (refreshed_link set number t w))

  -- it is kept by each change of a run
  pub loosely : (p : ProgramTree) → IsSteady p R S
  loosely p = record {
    nothing = s.nothing;
    both = s.both;
    pieces = λ set. keeps-any p set R (kept set);
    refreshes = λ set w. links-keep set 0 w.ties w;
    enters = λ set state within is_timed w. s.copies _ w;
    opens = s.opens;
    wakes = s.wakes;
    phase = s.phase;
    spends = s.spends;
    weaker = s.weaker;
    before = s.before;
    after = s.after;
  }

module _ (p : ProgramTree) (ls : List Link) (waiting : Bool) (R S : World → World → Type 0) (s : IsSteady p R S) where
  -- ---- what a program's state sets keep

  -- those of all of them
  abbrev pub SetsKeep : List StateSet → Type 0
  SetsKeep [] = Unit {0}
  SetsKeep (g ∷ gs) = IsSteadyOn g R S × SetsKeep gs

  -- a state set of a program
  set-keeps : (k : ℕ) (g : StateSetTree) → IsSteadyOn (set_meaning p k g) R S
  set-keeps k g = record {
    nothing = s.nothing;
    both = s.both;
    last = last_state p k;
    states = states-keep p k R s.nothing s.both (s.pieces k) g.states;
    refreshes = s.refreshes k;
    enters = s.enters k;
    spends = s.spends;
    weaker = s.weaker;
    before = s.before;
    after = s.after;
  }

  -- state sets of a program
  sets-keep : (k : ℕ) (gs : List StateSetTree) → SetsKeep (set_meanings p k gs)
  sets-keep k [] = tt
  sets-keep k (g ∷ gs) = (set-keeps k g, sets-keep (k + 1) gs)

  -- ---- rounds

  -- what is known of a round after one more turn
  stands-later : (w u v : World) (before t : Turned) → Stands R S w before u → Stands R S u t v → Stands R S w (later before t) v
  stands-later w u v Stayed Stayed h k = s.both w u v h k
  stands-later w u v Stayed Moved h k = s.before w u v h k
  stands-later w u v Stayed Exited h k = s.before w u v h k
  stands-later w u v Moved Stayed h k = s.after w u v h k
  stands-later w u v Moved Moved h k = s.before w u v (s.weaker w u h) k
  stands-later w u v Moved Exited h k = s.before w u v (s.weaker w u h) k
  stands-later w u v Exited Stayed h k = s.after w u v h k
  stands-later w u v Exited Moved h k = s.before w u v (s.weaker w u h) k
  stands-later w u v Exited Exited h k = s.before w u v (s.weaker w u h) k

  -- at least the relation itself
  stands-weaker : (w u : World) (t : Turned) → Stands R S w t u → R w u
  stands-weaker w u Stayed h = h
  stands-weaker w u Moved h = s.weaker w u h
  stands-weaker w u Exited h = s.weaker w u h

  -- the others after a turn, if they have one
  others-keep : (gs : List StateSet) (w : World) → ((t : Turned) (v : World) → Stands R S w t v → Turns R S w (round_from gs t v)) →
      (t : Turned) (v : World) → Stands R S w t v → (b : Bool) → Turns R S w (if b then Gives t v [] else round_from gs t v)
  others-keep gs w go t v k true = k
  others-keep gs w go t v k false = go t v k

  -- turns
  round-keeps : (gs : List StateSet) → SetsKeep gs → (before : Turned) (w u : World) → Stands R S w before u → Turns R S w (round_from gs before u)
  round-keeps [] all before w u h = h
  round-keeps (g ∷ gs) all before w u h = by (others-keep gs w (λ t v k. round-keeps gs all.1 t w v k)) (turn_of g u) (turn-keeps g R S all.0 u)
    where
      by : ((t : Turned) (v : World) → Stands R S w t v → (b : Bool) → Turns R S w (if b then Gives t v [] else round_from gs t v)) →
          (r : Ran Turned) → Turns R S u r → Turns R S w (then_do r (λ t. unless_exited (round_from gs) (later before t)))
      by others (Gives t v text) k =
          let l = later before t in turns-also g R S all.0 w text (unless_exited (round_from gs) l v) (others l v (stands-later w u v before t h k) (is_exit l))
      by others (Faults f line v text) k = s.both w u v (stands-weaker w u before h) k

  -- a round
  pub round-turns : (w : World) → Turns R S w (round_of (program_meaning p ls waiting) w)
  round-turns w = round-keeps (program_meaning p ls waiting).sets (sets-keep 0 p.state_sets) Stayed w (record w { due = None }) (s.opens w)

  -- the end of the program
  pub exited-keeps : Keeps R (exited (program_meaning p ls waiting))
  exited-keeps w =
      let q = program_meaning p ls waiting in
      then-keeps R s.both w (owned q q.exit w) (λ _ u. closed_by q.name u)
      (told-after R (first_name q.sets) w (q.exit w) (block-keeps p 0 R s.nothing s.both (s.pieces 0) p.exit w)) (λ _ u. s.phase Ended (λ (e : Ended ≡ Waiting). absurd (cc)) u)

  -- rounds
  rounds-keep : (n : ℕ) (w : World) → R w (world_after (rounds_of (program_meaning p ls waiting) n w))
  rounds-keep zero w = s.nothing w
  rounds-keep (suc n) w = by (λ u. rounds-keep n u) (round_of (program_meaning p ls waiting) w) (round-turns w)
    where
      q : Program
      q = program_meaning p ls waiting

      by : ((u : World) → R u (world_after (rounds_of q n u))) → (r : Ran Turned) → Turns R S w r → R w (world_after (then_do r (unless_still q (rounds_of q n))))
      by others (Gives Stayed u text) h = s.both w u (record u { wake = u.due }) h (s.wakes u)
      by others (Gives Moved u text) h = after-text R w text (rounds_of q n u) (s.both w u (world_after (rounds_of q n u)) (s.weaker w u h) (others u))
      by others (Gives Exited u text) h = after-text R w text (exited q u) (s.both w u (world_after (exited q u)) (s.weaker w u h) (exited-keeps u))
      by others (Faults f line u text) h = h

  -- ---- an instant

  -- the refresh of all state sets
  refreshed-keeps : (gs : List StateSet) → SetsKeep gs → (w : World) → R w (refreshed_sets gs w)
  refreshed-keeps [] all w = s.nothing w
  refreshed-keeps (g ∷ gs) all w = s.both w (refreshed g.set w) (refreshed_sets gs (refreshed g.set w)) (all.0.refreshes w) (refreshed-keeps gs all.1 (refreshed g.set w))

  -- their first states
  begins-keep : (gs : List StateSet) → SetsKeep gs → Keeps R (begun_sets gs)
  begins-keep [] all w = s.nothing w
  begins-keep (g ∷ gs) all w = then-keeps R s.both w (begun g w) (λ _ u. begun_sets gs u) (begun-keeps g R S all.0 w) (λ _ u. begins-keep gs all.1 u)

  -- what follows the line of the start
  pub opened-keeps : Keeps R (opened (program_meaning p ls waiting))
  opened-keeps w =
      let q = program_meaning p ls waiting in
      let all = sets-keep 0 p.state_sets in
      let u = refreshed_sets q.sets w in
      then-keeps R s.both w (owned q q.entry u) (λ _ v. begun_sets q.sets v)
      (told-after R (first_name q.sets) w (q.entry u) (s.both w u (world_after (q.entry u)) (refreshed-keeps q.sets all w)
      (block-keeps p 0 R s.nothing s.both (s.pieces 0) p.entry u)))
      (λ _ v. begins-keep q.sets all v)

  -- the start
  pub started-keeps : Keeps R (started (program_meaning p ls waiting))
  started-keeps w =
      let q = program_meaning p ls waiting in then-keeps R s.both w (told_start q w) (λ _ u. opened q u) (s.phase Running (λ (e : Running ≡ Waiting). absurd (cc)) w) (λ _ u. opened-keeps u)

  -- an instant, with the ticks that it has
  pub instant-keeps : (phase : Live) (w : World) → R w (world_after (instant_by (program_meaning p ls waiting) phase w))
  instant-keeps Ended w = s.nothing w
  instant-keeps Running w = rounds-keep (suc w.ticks) w
  instant-keeps Waiting w = by (is_ready q w)
    where
      q : Program
      q = program_meaning p ls waiting

      by : (b : Bool) → R w (world_after (if b then then_do (started q w) (λ _ u. all_rounds q u) else Gives tt w []))
      by true = then-keeps R s.both w (started q w) (λ _ u. all_rounds q u) (started-keeps w) (λ _ u. rounds-keep (suc u.ticks) u)
      by false = s.nothing w
