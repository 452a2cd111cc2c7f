-- A line of a trace keeps what copies, buffers and queues hold within their types.
use Rattle.std.proofs.Common.{◌≡◌, ◌∙◌, ◌+◌, ap, sym, subst, arith, ℕ, Bool, true, slice_get, List, Some, length, nat_lt, if◌then◌else◌}
use Rattle.snl_syntax.specs.Programs.{ProgramTree}
use Rattle.snl_flat.specs.Heres.{scene_in, shared_in}
use Rattle.snl_schedule.specs.declared.events.Event.{Event}
use Rattle.snl_schedule.specs.declared.events.Event.TheVariants.{Up, Down, Val, Done, Tick, Other}
use Rattle.snl_schedule.specs.Event.{applied, is_event_fit}
use Rattle.snl_channels.specs.Links.{Link}
use Rattle.snl_machine.specs.Ranges.{AllFit, Fit, Holds, IsSized, IsTied, PiecesFit, EventsFit, Begins, GoesOn, ReachedHold}
use Rattle.snl_machine.proofs.Beginning.{first_holds}
use Rattle.snl_machine.proofs.Filling.{received-fits, received-same, refresh_holds, fetched_holds, taken_holds, queued_holds, filled_holds, both-true}
use Rattle.snl_machine.proofs.Queued.{none-fits}
use Rattle.snl_machine.proofs.Fitting.{May, may, within-may, copy-holds, stored-holds, cleared-holds}
use Rattle.snl_machine.proofs.Pieces.{keeps-in}
use Rattle.snl_machine.proofs.Steady.{IsSteady}
use Rattle.snl_machine.proofs.Whole.{line-keeps}
use Rattle.snl_meaning.specs.Keeping.{IsKept, PiecesKeep}
use Rattle.snl_meaning.specs.declared.ties.Tied.{Tied}
use Rattle.snl_meaning.specs.World.{SetMemory, World, copy_of}
use Rattle.snl_load.specs.Meaning.{program_meaning}
use Rattle.snl_load.specs.Places.{channels, ties_in}
use Rattle.snl_schedule.specs.Arrivals.{are_fit, answered}
use Rattle.snl_schedule.proofs.Answering.{answers_change_no_more}

module _ (p : ProgramTree) (ls : List Link) (sized : IsSized p) (tied : IsTied p ls) where
  -- what holds before a change holds after it
  abbrev Stays : World → World → Type 0
  Stays w u = Holds p ls w → Holds p ls u

  -- each change of a piece
  holds-kept : (set : ℕ) → IsKept set (May p sized set) Stays
  holds-kept set = record {
    nothing = λ w holds. holds;
    both = λ u v w a b holds. b (a holds);
    stores = stored-holds p sized ls set;
    clears = λ v w ok. cleared-holds p sized ls set v w;
    signals = λ flag now w holds. holds;
    fills = filled_holds p ls sized tied set;
    enqueues = queued_holds p ls sized tied set;
    fetches = fetched_holds p ls sized tied set;
    takes = taken_holds p ls sized tied set;
    flushes = λ link w holds. (holds.0, holds.1, holds.2, holds.3, none-fits (ties_in p ls) w.queues link holds.4, holds.5);
    waits = λ link w holds. holds;
    marks = λ marks w same holds. holds;
    notes = λ t w late holds. holds;
    spends = λ left w is holds. holds;
  }

  -- all of them
  pieces-hold : (set : ℕ) → PiecesKeep (scene_in p set) Stays
  pieces-hold set = keeps-in p (May p sized set) (within-may p sized set) set Stays (may p sized set) (holds-kept set)

  -- each change of a run
  holds-steady : IsSteady p Stays Stays
  holds-steady = record {
    nothing = λ w holds. holds;
    both = λ u v w a b holds. b (a holds);
    pieces = pieces-hold;
    refreshes = refresh_holds p ls sized tied;
    enters = λ set state within is_timed w.
        copy-holds p sized ls set (record (copy_of set w) { state = state; entered = if is_timed then w.time else (copy_of set w).entered }) w (λ fit. fit);
    opens = λ w holds. holds;
    wakes = λ w holds. holds;
    phase = λ x lives w holds. holds;
    spends = λ left w is holds. holds;
    weaker = λ w u a. a;
    before = λ u v w a b holds. b (a holds);
    after = λ u v w a b holds. b (a holds);
  }

  -- puts that are answered
  answered-holds : (channel : ℕ) (waits : Bool) (w : World) → Stays w (answered (program_meaning p ls waits) channel w)
  answered-holds channel waits w holds = subst (Holds p ls) (sym (answers_change_no_more (program_meaning p ls waits) channel w)) holds

  -- an event that fits
  event-holds : (event : Event) (w : World) → is_event_fit (length (channels ls)) (ties_in p ls) event ≡ true → (waits : Bool) → Stays w (applied (program_meaning p ls waits) event w)
  event-holds (Up channel) w fit waits holds = holds
  event-holds (Down channel) w fit waits holds = answered-holds channel waits _ holds
  event-holds (Done channel) w fit waits holds = answered-holds channel waits w holds
  event-holds (Val channel values) w fit waits holds =
      let halves = both-true (nat_lt channel (length (channels ls))) (are_fit channel values.items (ties_in p ls)) fit in
      let v = record w { valued = _ } in
      let same = received-same channel values.items 0 (ties_in p ls) v in
      let all = λ (i n : ℕ) (t : Tied) (is : n ≡ 0 + i) (at : slice_get (ties_in p ls) i ≡ Some t). let e : n ≡ i = omega (arith, is) in ap (slice_get (ties_in p ls)) e ∙ at in
      let links = received-fits p ls tied.few channel values.items 0 (ties_in p ls) v all halves.1 (holds.1, holds.4) in (
        subst (λ (cs : List SetMemory). AllFit p (record w { copies = cs })) (sym same.0) holds.0,
        links.0,
        same.1 ∙ holds.2,
        same.2 ∙ holds.3,
        links.1,
        subst (Fit (shared_in p)) (sym same.3) holds.5,
      )
  event-holds Tick w fit waits holds = holds
  event-holds Other w fit waits holds = holds

-- a line
pub events_fit : EventsFit
events_fit p ls waits budget ms event w sized tied fit holds =
    line-keeps p ls waits (Stays p ls sized tied) (Stays p ls sized tied) (holds-steady p ls sized tied) (λ n u h. h) (λ t u h. h) event
    (λ u. event-holds p ls sized tied event u fit waits) budget ms w holds

-- all worlds that a run comes to
pub reached_hold : ReachedHold
reached_hold p ls waits budget _ sized tied held Begins = first_holds p ls sized tied held
reached_hold p ls waits budget _ sized tied held (GoesOn w ms event before fit) =
    events_fit p ls waits budget ms event w sized tied fit (reached_hold p ls waits budget w sized tied held before)

-- conditions and blocks
pub pieces_fit : PiecesFit
pieces_fit p ls set sized tied = pieces-hold p ls sized tied set
