-- Where the pieces of a program keep links settled, its lines do.
use Rattle.std.proofs.Common.{◌≡◌, ◌∙◌, ◌⊎◌, ◌<◌, ⊎_elim, inl, refl, sym, ap, subst, ℕ, ℤ, Bool, true, List, ◌++◌, Option, Some, length, slice_get}
use Rattle.std.specs.Prelude.{option_map}
use Rattle.snl_channels.specs.Links.{Link}
use Rattle.snl_flat.specs.declared.code.Code.{Code}
use Rattle.snl_flat.specs.declared.starts.Piece.{Piece}
use Rattle.snl_flat.specs.declared.starts.Piece.TheVariants.{ProgramEntry, ProgramExit}
use Rattle.snl_flat.specs.Heres.{scene_in}
use Rattle.snl_flat.specs.Pieces.{PieceTree, Test, Action, kept_piece}
use Rattle.snl_flat.specs.Reached.{Table}
use Rattle.snl_flat.specs.Starts.{holds_in, table_of}
use Rattle.snl_load.specs.Meaning.{program_meaning, set_meaning, state_left_for, target_of}
use Rattle.snl_load.specs.Reached.{only_reached, set_reached}
use Rattle.snl_machine.proofs.Reached.{reached_are_closed, unreached_do_nothing}
use Rattle.snl_meaning.specs.Effect.{block_effect, held_by}
use Rattle.snl_meaning.specs.Keeping.{world_after}
use Rattle.snl_meaning.specs.Ran.{Ran, then_do}
use Rattle.snl_meaning.specs.declared.live.Live.{Live}
use Rattle.snl_meaning.specs.World.{World, copy_of}
use Rattle.snl_schedule.specs.declared.events.Event.{Event}
use Rattle.snl_schedule.specs.Arrivals.{received_link}
use Rattle.snl_schedule.specs.Event.{line_of}
use Rattle.snl_schedule.specs.Instant.{Program}
use Rattle.snl_schedule.specs.Turn.{target_by}
use Rattle.snl_syntax.specs.Expressions.{ExprTree}
use Rattle.snl_syntax.specs.Programs.{ProgramTree, StateSetTree}
use Rattle.snl_syntax.specs.Statements.{BlockTree}
use Rattle.snl_alike.specs.OneRun.{IsOneWith, IsSameText}
use Rattle.snl_alike.specs.Runs.{AreAlikeInRuns, EventComes, NoStray, NothingMore, ProgramAgrees, StartAgrees, TellsStrays}
use Rattle.snl_alike.specs.TwoRuns.{Agrees, nothing_exempt}
use Rattle.snl_alike.proofs.Instants.{line-alike, started-alike}
use Rattle.snl_alike.proofs.OneRun.{one-agrees, one-behind, one-in-runs}
use Rattle.snl_alike.proofs.Programs.{nothing-behind, nothing-there}
use Rattle.snl_flows.specs.Settled.{AreKnown, CanBeFree, IsSettled, LinesSettle, PieceSettles, layout_for}
use Rattle.snl_flows.proofs.Pieces.{after-then, state-left-after}
use Rattle.snl_flows.proofs.Programs.{PiecesAgree, program-agrees}
use Rattle.snl_flows.proofs.Settled.{received-one, settled-in-runs}

module _ (p : ProgramTree) (ls : List Link) (c : Code) (free : List ℕ) (values : List (List (List ℤ))) (some : 0 < length p.state_sets) (can : CanBeFree free (layout_for p ls))
    (pieces : (name : Piece) (piece : PieceTree) → kept_piece (holds_in (table_of c)) p name ≡ Some piece → PieceSettles (IsSettled free values (layout_for p ls)) p piece) where
  -- links are settled
  abbrev Settled : World → Type 0
  Settled = IsSettled free values (layout_for p ls)

  -- two worlds that are one with settled links,
  abbrev One : World → World → Type 0
  One = IsOneWith Settled

  -- and the states that a run can come to
  abbrev reached : Table
  reached = holds_in (table_of c)

  -- two texts that are the same, one after another
  texts-joined : (a b x y : List ℕ) → IsSameText a b → IsSameText x y → IsSameText (a ++ x) (b ++ y)
  texts-joined a b x y first second = ap (λ (z : List ℕ). z ++ x) first ∙ ap (λ (z : List ℕ). b ++ z) second

  -- a condition comes out alike,
  test-agrees : (name : Piece) (set : ℕ) (x : ExprTree) → kept_piece reached p name ≡ Some (Test set x) → Agrees nothing_exempt One IsSameText (held_by (scene_in p set) (Some x))
  test-agrees name set x is = one-agrees Settled (held_by (scene_in p set) (Some x)) (pieces name (Test set x) is)

  -- and a block
  action-agrees : (name : Piece) (set : ℕ) (b : BlockTree) → kept_piece reached p name ≡ Some (Action set b) →
      Agrees nothing_exempt One IsSameText (λ w. then_do (block_effect (scene_in p set) b w) state_left_for)
  action-agrees name set b is =
      one-agrees Settled (λ w. then_do (block_effect (scene_in p set) b w) state_left_for)
      (λ w s. subst Settled (sym (after-then (block_effect (scene_in p set) b w) state_left_for state-left-after)) (pieces name (Action set b) is w s))

  -- all pieces
  pieces-one : PiecesAgree nothing_exempt IsSameText refl texts-joined One (λ set state. One) NoStray NothingMore p reached
  pieces-one = record {
    tests = λ set state name x of is. test-agrees name set x is;
    blocks = λ set state name b of is. action-agrees name set b is;
    own = λ b which.
        ⊎_elim (λ (entry : p.entry ≡ Some b). action-agrees ProgramEntry 0 b (ap (option_map (Action 0)) entry))
        (λ (exit : p.exit ≡ Some b). action-agrees ProgramExit 0 b (ap (option_map (Action 0)) exit)) which;
    leads = λ set state k x clause is w u e.
        nothing-behind {A = Option ℕ} (NoStray set) set state (λ left. target_by left (target_of (scene_in p set).here.states x.target))
        (then_do (block_effect (scene_in p set) x.block w) state_left_for) (then_do (block_effect (scene_in p set) x.block u) state_left_for);
    keeps = λ set state to b is w u e l. nothing-there set state to _ _;
  }

  -- runs stray nowhere
  none-stray : (set : ℕ) (g : StateSetTree) → slice_get p.state_sets set ≡ Some g → TellsStrays nothing_exempt NoStray (set_reached reached (set_meaning p set g))
  none-stray set g at from to ms never = absurd never

  module _ (waits : Bool) where
    -- the program without what it never reaches
    abbrev program : Program
    program = only_reached reached (program_meaning p ls waits)

    -- what all steps keep
    abbrev runs : AreAlikeInRuns (length p.state_sets) (λ n m. n ≡ m) One (λ set state. One) NothingMore IsSameText
    runs = one-in-runs (length p.state_sets) Settled (settled-in-runs free values (layout_for p ls) can (length p.state_sets) some)

    -- its pieces, and what comes to its links
    agrees : ProgramAgrees nothing_exempt (AreKnown free values (layout_for p ls)) One (λ set state. One) NoStray NothingMore IsSameText (length p.state_sets) program
    agrees =
        program-agrees nothing_exempt IsSameText refl texts-joined One (λ set state. One) NoStray NothingMore p reached pieces-one none-stray (AreKnown free values (layout_for p ls)) ls waits
        (λ channel zs link t w u known at e. (ap (received_link channel zs link t) e.0, received-one free values (layout_for p ls) can channel zs link t w known at e.1))

    -- the start
    start-one : StartAgrees nothing_exempt One IsSameText program
    start-one w u waiting e =
        started-alike nothing_exempt (length p.state_sets) (λ n m. n ≡ m) One (λ set state. One) NothingMore IsSameText runs (AreKnown free values (layout_for p ls)) NoStray program agrees
        (λ set low x y k. runs.enters set (copy_of set x).state 0 true low (inl refl) x y k tt) w u e

    -- a line
    line-settles : (budget ms : ℕ) (event : Event) → EventComes (AreKnown free values (layout_for p ls)) event → (w : World) → Settled w → Settled (world_after (line_of program budget ms event w))
    line-settles budget ms event known w s =
        one-behind Settled (line_of program budget ms event w) (line_of program budget ms event w)
        (line-alike nothing_exempt (length p.state_sets) (λ n m. n ≡ m) One (λ set state. One) NothingMore IsSameText runs (AreKnown free values (layout_for p ls)) NoStray program agrees start-one
        budget ms ms refl event known w w (refl, s))

-- the law
pub lines_settle : LinesSettle
lines_settle p ls c free values waits budget ms event w right some can pieces known there s =
    subst (λ (r : Ran Live). IsSettled free values (layout_for p ls) (world_after r))
    (unreached_do_nothing p ls waits (holds_in (table_of c)) budget ms event w (reached_are_closed p (holds_in (table_of c)) right.reached) there)
    (line-settles p ls c free values some can pieces waits budget ms event known w s)
