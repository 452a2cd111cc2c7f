-- Each state set stays in one of its states.
use Rattle.std.proofs.Common.{◌≡◌, ◌≤◌, ◌+◌, arith, ℕ, zero, suc, ℤ, Bool, true, false, List, [], ◌∷◌, Option, None, Some, sym, subst, if◌then◌else◌}
use Rattle.std.specs.Prelude.{slice_set, slice_index_or}
use Rattle.snl_syntax.specs.Programs.{ProgramTree}
use Rattle.snl_channels.specs.Links.{Link}
use Rattle.snl_flat.specs.Heres.{scene_in}
use Rattle.snl_load.specs.Meaning.{program_meaning}
use Rattle.snl_schedule.proofs.Answering.{answers_change_no_more}
use Rattle.snl_machine.specs.Worlds.{last_state}
use Rattle.snl_machine.proofs.Filling.{received-same}
use Rattle.snl_machine.proofs.Pieces.{keeps-any}
use Rattle.snl_machine.proofs.Steady.{IsSteady}
use Rattle.snl_machine.proofs.Whole.{line-keeps}
use Rattle.snl_meaning.specs.declared.ties.Tied.{Tied}
use Rattle.snl_meaning.specs.Keeping.{IsKept, PiecesKeep, world_after}
use Rattle.snl_meaning.specs.Links.{home_of}
use Rattle.snl_meaning.specs.World.{SetMemory, World, no_copy, copy_of, with_words_for}
use Rattle.snl_meaning.proofs.Ticks.{Any}
use Rattle.snl_schedule.specs.declared.events.Event.{Event}
use Rattle.snl_schedule.specs.declared.events.Event.TheVariants.{Up, Down, Val, Done, Tick, Other}
use Rattle.snl_schedule.specs.Arrivals.{answered}
use Rattle.snl_schedule.specs.Event.{applied, line_of}
use Rattle.snl_schedule.specs.Instant.{Program}
use Rattle.snl_schedule.specs.Refresh.{is_marked, with_mark, copied_to, refreshed_link, refreshed_from}

-- what holds of each element, by its number, holds after another one is put in
set-each : {A : Type 0} (P : ℕ → A → Type 0) (xs : List A) (i : ℕ) (x d : A) → P i x → ((j : ℕ) → P j (slice_index_or xs j d)) → (j : ℕ) → P j (slice_index_or (slice_set xs i x) j d)
set-each P [] i x d new old j = old j
set-each P (y ∷ ys) zero x d new old zero = new
set-each P (y ∷ ys) zero x d new old (suc j) = old (suc j)
set-each P (y ∷ ys) (suc i) x d new old zero = old 0
set-each P (y ∷ ys) (suc i) x d new old (suc j) = set-each (λ n z. P (suc n) z) ys i x d new (λ n. old (suc n)) j

-- What holds of the state that each state set is in, by the state set's number.
module _ (Is : (set state : ℕ) → Type 0) where
  -- so it is with all state sets
  abbrev pub AllAre : World → Type 0
  AllAre w = (set : ℕ) → Is set (copy_of set w).state

  -- what holds before a change holds after it
  abbrev pub Stays : World → World → Type 0
  Stays w u = AllAre w → AllAre u

  -- another copy
  pub copy-stays : (set : ℕ) (c : SetMemory) (w : World) → (Is set (copy_of set w).state → Is set c.state) → Stays w (record w { copies = slice_set w.copies set c })
  copy-stays set c w new h = set-each (λ n d. Is n d.state) w.copies set c no_copy (new (h set)) h

  -- other words of a copy, or of functions
  words-stay : (set : ℕ) (is_shared : Bool) (words : List ℤ) (w : World) → Stays w (with_words_for set is_shared words w)
  words-stay set true words w h = h
  words-stay set false words w h = copy-stays set _ w (λ e. e) h

  -- each change of a piece
  states-kept : (set : ℕ) → IsKept set Any Stays
  states-kept set = record {
    nothing = λ w h. h;
    both = λ u v w a b h. b (a h);
    stores = λ v k z w ok fits. words-stay set v.is_shared _ w;
    clears = λ v w ok. words-stay set v.is_shared _ w;
    signals = λ flag now w h. h;
    fills = λ place link t w home is h. h;
    enqueues = λ place link t w home is queued h. h;
    fetches = λ place link t w home is. copy-stays set _ w (λ h. h);
    takes = λ place link t item more w home is has. copy-stays set _ w (λ h. h);
    flushes = λ link w h. h;
    waits = λ link w h. h;
    marks = λ marks w same h. h;
    notes = λ t w late h. h;
    spends = λ left w is h. h;
  }

  -- conditions and blocks
  pub pieces-stay : (p : ProgramTree) (set : ℕ) → PiecesKeep (scene_in p set) Stays
  pieces-stay p set = keeps-any p set Stays (states-kept set)

  -- the refresh of a link
  link-stays : (set number : ℕ) (t : Tied) (w : World) → Stays w (refreshed_link set number t w)
  link-stays set number t w = by (is_marked set number w) (home_of set number w)
    where
      by : (b : Bool) (home : Option ℕ) → Stays w (if b then with_mark set number false (copied_to set home t w) else w)
      by true None h = h
      by true (Some home) h = copy-stays set _ w (λ e. e) h
      by false home h = h

  -- of links
  pub links-stay : (set number : ℕ) (ts : List Tied) (w : World) → Stays w (refreshed_from set number ts w)
  links-stay set number [] w h = h
  links-stay set number (t ∷ ts) w h = links-stay set (number + 1) ts (refreshed_link set number t w) (link-stays set number t w h)

  -- puts that are answered
  answered-stays : (q : Program) (channel : ℕ) (w : World) → Stays w (answered q channel w)
  answered-stays q channel w h = subst AllAre (sym (answers_change_no_more q channel w)) h

  -- an event
  pub event-stays : (q : Program) (event : Event) (w : World) → Stays w (applied q event w)
  event-stays q (Up channel) w h = h
  event-stays q (Down channel) w h = answered-stays q channel _ h
  event-stays q (Done channel) w h = answered-stays q channel w h
  event-stays q (Val channel values) w h =
      let u = record w { valued = _ } in
      subst (λ (cs : List SetMemory). AllAre (record w { copies = cs })) (sym (received-same channel values.items 0 q.links u).0) h
  event-stays q Tick w h = h
  event-stays q Other w h = h

module _ (p : ProgramTree) where
  -- it is no later one than the last of its state set
  abbrev Exists : ℕ → ℕ → Type 0
  Exists set state = state ≤ last_state p set

  -- each change of a run
  states-steady : IsSteady p (Stays Exists) (Stays Exists)
  states-steady = record {
    nothing = λ w h. h;
    both = λ u v w a b h. b (a h);
    pieces = λ set. pieces-stay Exists p set;
    refreshes = λ set w. links-stay Exists set 0 w.ties w;
    enters = λ set state within is_timed w. copy-stays Exists set _ w (λ h. within);
    opens = λ w h. h;
    wakes = λ w h. h;
    phase = λ x lives w h. h;
    spends = λ left w is h. h;
    weaker = λ w u a. a;
    before = λ u v w a b h. b (a h);
    after = λ u v w a b h. b (a h);
  }

  -- a line
  pub states-stay : (ls : List Link) (waits : Bool) (budget ms : ℕ) (event : Event) (w : World) →
      Stays Exists w (world_after (line_of (program_meaning p ls waits) budget ms event w))
  states-stay ls waits budget ms event w =
      line-keeps p ls waits (Stays Exists) (Stays Exists) states-steady (λ n u h. h) (λ t u h. h) event (event-stays Exists (program_meaning p ls waits) event) budget ms w

-- each state set begins in its first state
pub states-begin : (p : ProgramTree) (cs : List SetMemory) → ((i : ℕ) → (slice_index_or cs i no_copy).state ≡ 0) → (i : ℕ) → (slice_index_or cs i no_copy).state ≤ last_state p i
states-begin p cs first i = let zero-is = first i in omega (arith, zero-is)
