-- A turn of a state set changes nothing of another one's copy; what changes event flags.
use Rattle.std.proofs.Common.{◌≡◌, ◌∙◌, ◌+◌, refl, sym, ℕ, ℤ, Bool, true, false, List, [], ◌∷◌, Option, None, Some, if◌then◌else◌}
use Rattle.std.specs.Prelude.{slice_set}
use Rattle.std.proofs.lemmas.List.{get_or-set_other}
use Rattle.snl_syntax.specs.Programs.{StateSetTree, ProgramTree}
use Rattle.snl_flat.specs.Heres.{scene_in}
use Rattle.snl_meaning.specs.declared.ties.Tied.{Tied}
use Rattle.snl_meaning.specs.Keeping.{IsKept, PiecesKeep, world_after}
use Rattle.snl_meaning.specs.Links.{home_of}
use Rattle.snl_meaning.specs.Ran.{Ran, Gives, Faults}
use Rattle.snl_meaning.specs.World.{SetMemory, World, no_copy, copy_of, with_words_for}
use Rattle.snl_meaning.proofs.Ticks.{Any}
use Rattle.snl_load.specs.Meaning.{set_meaning}
use Rattle.snl_schedule.specs.declared.transitions.Turned.{Turned}
use Rattle.snl_schedule.specs.declared.transitions.Turned.TheVariants.{Stayed, Moved, Exited}
use Rattle.snl_schedule.specs.Refresh.{is_marked, with_mark, copied_to, refreshed_link, refreshed_from}
use Rattle.snl_schedule.specs.Turn.{turn_of}
use Rattle.snl_machine.specs.Laws.{TurnsStayApart}
use Rattle.snl_machine.specs.Worlds.{last_state}
use Rattle.snl_machine.proofs.Parts.{states-keep}
use Rattle.snl_machine.proofs.Pieces.{keeps-any}
use Rattle.snl_machine.proofs.Turning.{Turns, IsSteadyOn, turn-keeps}

module _ (p : ProgramTree) (set other : ℕ) (apart : set ≡ other → ⊥) where
  -- the other copy is as it was
  abbrev Same : World → World → Type 0
  Same w u = copy_of other u ≡ copy_of other w

  -- whatever the own copy is
  own-changes : (c : SetMemory) (w : World) → Same w (record w { copies = slice_set w.copies set c })
  own-changes c w = get_or-set_other w.copies set other c no_copy (λ is. apart (sym is))

  -- whatever the words of the own copy or of functions are
  words-change : (is_shared : Bool) (words : List ℤ) (w : World) → Same w (with_words_for set is_shared words w)
  words-change true words w = refl
  words-change false words w = own-changes _ w

  -- each change of a piece
  same-kept : IsKept set Any Same
  same-kept = record {
    nothing = λ w. refl;
    both = λ u v w a b. b ∙ a;
    stores = λ v k z w ok fits. words-change v.is_shared _ w;
    clears = λ v w ok. words-change v.is_shared _ w;
    signals = λ flag now w. refl;
    fills = λ place link t w home is. refl;
    enqueues = λ place link t w home is queued. refl;
    fetches = λ place link t w home is. own-changes _ w;
    takes = λ place link t item more w home is has. own-changes _ w;
    flushes = λ link w. refl;
    waits = λ link w. refl;
    marks = λ marks w same. refl;
    notes = λ t w late. refl;
    spends = λ left w is. refl;
  }

  -- conditions and blocks
  pieces : PiecesKeep (scene_in p set) Same
  pieces = keeps-any p set Same same-kept

  -- the refresh of a link
  link-same : (number : ℕ) (t : Tied) (w : World) → Same w (refreshed_link set number t w)
  link-same number t w = by (is_marked set number w) (home_of set number w)
    where
      by : (b : Bool) (home : Option ℕ) → Same w (if b then with_mark set number false (copied_to set home t w) else w)
      by true None = refl
      by true (Some home) = own-changes _ w
      by false home = refl

  -- of links
  links-same : (number : ℕ) (ts : List Tied) (w : World) → Same w (refreshed_from set number ts w)
  links-same number [] w = refl
  links-same number (t ∷ ts) w = links-same (number + 1) ts (refreshed_link set number t w) ∙ link-same number t w

  -- a turn
  turn-same : (g : StateSetTree) → IsSteadyOn (set_meaning p set g) Same Same
  turn-same g = record {
    nothing = λ w. refl;
    both = λ u v w a b. b ∙ a;
    last = last_state p set;
    states = states-keep p set Same (λ w. refl) (λ u v w a b. b ∙ a) pieces g.states;
    refreshes = λ w. links-same 0 w.ties w;
    enters = λ state within is_timed w. own-changes _ w;
    spends = λ left w is. refl;
    weaker = λ w u a. a;
    before = λ u v w a b. b ∙ a;
    after = λ u v w a b. b ∙ a;
  }

  -- what is known of a turn is known of the world that it leaves
  after-turn : (w : World) (r : Ran Turned) → Turns Same Same w r → Same w (world_after r)
  after-turn w (Gives Stayed u text) h = h
  after-turn w (Gives Moved u text) h = h
  after-turn w (Gives Exited u text) h = h
  after-turn w (Faults f line u text) h = h

-- so a turn leaves the other copies alone
pub turns_stay_apart : TurnsStayApart
turns_stay_apart p set other g w apart =
    after-turn p set other apart w (turn_of (set_meaning p set g) w) (turn-keeps (set_meaning p set g) (Same p set other apart) (Same p set other apart) (turn-same p set other apart g) w)
