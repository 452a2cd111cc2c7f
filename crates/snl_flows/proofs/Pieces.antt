-- Where tables are right of the code of a program, each of its pieces comes out alike from worlds that are the same outside.
use Rattle.std.proofs.Common.{◌≡◌, ◌∙◌, ◌⊎◌, refl, sym, ap, subst, arith, ℕ, zero, suc, ℤ, pos, Bool, true, false, List, [], ◌∷◌, ◌++◌, Option, None, Some, if◌then◌else◌}
use Rattle.std.proofs.lemmas.Bool.{false≢true}
use Rattle.std.proofs.lemmas.List.{append-nil}
use Rattle.std.specs.List.{flat_map}
use Rattle.std.specs.Prelude.{slice_get, slice_index_or}
use Rattle.snl_arithmetic.specs.Arithmetic.{is_zero}
use Rattle.snl_channels.specs.Links.{Link}
use Rattle.snl_emit.specs.Right.{ends_with, leads_to}
use Rattle.snl_emit.specs.Depths.{block_depth, expression_depth}
use Rattle.snl_flat.specs.declared.code.Code.{Code}
use Rattle.snl_flat.specs.declared.starts.Piece.{Piece}
use Rattle.snl_flat.specs.declared.starts.Piece.TheVariants.{Block}
use Rattle.snl_flat.specs.Heres.{name_by, outlines_in, routines_in, scene_in}
use Rattle.snl_flat.specs.Pieces.{IsPieceAt, IsPlaced, PieceTree, Test, Action, clause_at, is_kept, kept_piece, piece_of, texts_of}
use Rattle.snl_flat.specs.Reached.{Table}
use Rattle.snl_flat.specs.Starts.{entries_of, holds_in, start_in, table_of}
use Rattle.snl_load.specs.Meaning.{state_left_for, target_of}
use Rattle.snl_meaning.specs.Effect.{Way, Done, Broken, Continued, Left, Returned, block_effect, holds}
use Rattle.snl_meaning.specs.Frames.{Frame, frame_of}
use Rattle.snl_meaning.specs.Keeping.{world_after}
use Rattle.snl_meaning.specs.Names.{format_at}
use Rattle.snl_meaning.specs.Ran.{Ran, Gives, Faults, also, then_do}
use Rattle.snl_meaning.specs.Run.{Exit, Over, LeftFor, Unfinished, Stuck, context_of, run_of}
use Rattle.snl_meaning.specs.Value.{value_of}
use Rattle.snl_meaning.specs.World.{World, copy_of}
use Rattle.snl_meaning.proofs.Frames.{pieces_keep_the_frame}
use Rattle.snl_names.specs.Programs.{sites}
use Rattle.snl_syntax.specs.Expressions.{ExprTree}
use Rattle.snl_schedule.specs.declared.plans.Destination.{Destination}
use Rattle.snl_schedule.specs.declared.plans.Destination.TheVariants as to
use Rattle.snl_schedule.specs.Turn.{target_by}
use Rattle.snl_syntax.specs.Programs.{ClauseTree, ProgramTree}
use Rattle.snl_syntax.specs.Statements.{BlockTree}
use Rattle.snl_alike.specs.Runs.{GoesTo, HoldsBehind}
use Rattle.snl_alike.specs.TwoRuns.{Alike, BothGive, BothFault, FirstLeftOut, SecondLeftOut}
use Rattle.snl_flows.specs.Quiet.{AreFine}
use Rattle.snl_flows.specs.Chosen.{AreChosenFlowsOf, Share, no_share, with_more}
use Rattle.snl_flows.specs.Flows.{AreFlowsOf, Covers, CoversBy, IsAlike, IsBehind, IsBehindPiece, IsBetween, IsShown, PieceFlows, PiecesFlow, RunsIn, all_in, ground_of, set_of}
use Rattle.snl_flows.specs.LeftOut.{left_out}
use Rattle.snl_flows.specs.Outside.{AreSameAt, IsSameOutside, Places, has, places_for, places_in, places_of}
use Rattle.snl_flows.specs.Tables.{AreBehind, Flow, Ground, HasLinks, facts_at, first_facts}
use Rattle.snl_flows.specs.Texts.{IsInLine, SameButValues}
use Rattle.snl_flows.proofs.Less.{all-less}
use Rattle.snl_flows.proofs.Outcomes.{AlikeTo, BothLead, BothStop, FirstStops, SecondStops, lead, less-to, then-to}
use Rattle.snl_flows.proofs.Quiet.{IsOver}
use Rattle.snl_flows.proofs.Runs.{Ends, KnownBehind, many-by, run-alike}

-- ---- what a run gives

-- whether a condition held, by the end of its run
abbrev held : Exit → World → Ran Bool
held (Over []) w = Gives false w []
held (Over (z ∷ s)) w = Gives (if is_zero z then false else true) w []
held (LeftFor state) w = Gives false w []
held Unfinished w = Gives false w []
held Stuck w = Gives false w []

-- that of its value
held-back : (r : Ran ℤ) → then_do (then_do r ends_with) held ≡ then_do r holds
held-back (Gives z w a) = ap (λ (b : List ℕ). Gives (if is_zero z then false else true) w b) (append-nil (a ++ []))
held-back (Faults fault line w a) = refl

-- so a run came to an end,
over-value : (r : Ran ℤ) → IsOver (then_do r ends_with)
over-value (Gives z w a) = tt
over-value (Faults fault line w a) = tt

-- and that of a block
over-way : (r : Ran Way) → IsOver (then_do r leads_to)
over-way (Gives Done w a) = tt
over-way (Gives Broken w a) = tt
over-way (Gives Continued w a) = tt
over-way (Gives (Left state) w a) = tt
over-way (Gives (Returned z) w a) = tt
over-way (Faults fault line w a) = tt

-- the state that a block left for, by the end of its run
abbrev left : Exit → World → Ran (Option ℕ)
left (Over s) w = Gives None w []
left (LeftFor state) w = Gives (Some state) w []
left Unfinished w = Gives None w []
left Stuck w = Gives None w []

-- that of its way
left-back : (r : Ran Way) → then_do (then_do r leads_to) left ≡ then_do r state_left_for
left-back (Gives Done w a) = ap (λ (b : List ℕ). Gives None w b) (append-nil (a ++ []))
left-back (Gives Broken w a) = ap (λ (b : List ℕ). Gives None w b) (append-nil (a ++ []))
left-back (Gives Continued w a) = ap (λ (b : List ℕ). Gives None w b) (append-nil (a ++ []))
left-back (Gives (Left state) w a) = ap (λ (b : List ℕ). Gives (Some state) w b) (append-nil (a ++ []))
left-back (Gives (Returned z) w a) = ap (λ (b : List ℕ). Gives None w b) (append-nil (a ++ []))
left-back (Faults fault line w a) = refl

-- Words are the same behind a block, by the state that it leaves for, as a table says.
abbrev pub KnownLeft : Flow → (set : ℕ) → Option ℕ → World → World → Type 0
KnownLeft f set None w u = AreSameAt set f.ends w u
KnownLeft f set (Some state) w u = AreSameAt set f.leaves w u

module _ (g : Ground) (f : Flow) (set : ℕ) where
  -- two values that are the same, in worlds that are the same outside,
  abbrev SameValue : {A : Type 0} → A → A → World → World → Type 0
  SameValue x y w u = (x ≡ y) × IsSameOutside g.hidden g.stale w u

  -- and two states that are left for
  abbrev SameLeft : Option ℕ → Option ℕ → World → World → Type 0
  SameLeft x y w u = (x ≡ y) × IsSameOutside g.hidden g.stale w u × KnownLeft f set x w u

  -- what is made of an exit
  made-alike : {A : Type 0} (G : A → A → World → World → Type 0) (make : Exit → World → Ran A) →
      ((x : Exit) (w u : World) → IsSameOutside g.hidden g.stale w u → KnownBehind f set x w u → AlikeTo {A = A} g G (make x w) (make x u)) → (r s : Ran Exit) →
      AlikeTo g (Ends g f set) r s → AlikeTo {A = A} g G (then_do r make) (then_do s make)
  made-alike {A = A} G make by r s h =
      then-to g (Ends g f set) G r s make make h
      (λ x y w u e. subst (λ (z : Exit). AlikeTo {A = A} g G (make x w) (make z u)) e.0 (by x w u e.1 e.2))

  -- a value of an exit
  held-alike : (x : Exit) (w u : World) → IsSameOutside g.hidden g.stale w u → KnownBehind f set x w u → AlikeTo g SameValue (held x w) (held x u)
  held-alike (Over []) w u e known = lead g SameValue false false w u (refl, e)
  held-alike (Over (z ∷ s)) w u e known = lead g SameValue _ _ w u (refl, e)
  held-alike (LeftFor state) w u e known = lead g SameValue false false w u (refl, e)
  held-alike Unfinished w u e known = absurd known
  held-alike Stuck w u e known = absurd known

  -- a state of one
  left-alike : (x : Exit) (w u : World) → IsSameOutside g.hidden g.stale w u → KnownBehind f set x w u → AlikeTo g SameLeft (left x w) (left x u)
  left-alike (Over s) w u e known = lead g SameLeft None None w u (refl, e, known)
  left-alike (LeftFor state) w u e known = lead g SameLeft (Some state) (Some state) w u (refl, e, known)
  left-alike Unfinished w u e known = absurd known
  left-alike Stuck w u e known = absurd known

  -- with what is known of the world that the first one leaves
  alike-by : {A : Type 0} (r s : Ran A) → AreBehind g → HasLinks g (world_after r) → AlikeTo {A = A} g SameValue r s → Alike (left_out g.lines) (IsAlike g) (SameButValues g.names) r s
  alike-by {A = A} _ _ behind links (BothLead x y w u a b e t) =
      subst (λ (z : A). Alike (left_out g.lines) (IsAlike g) (SameButValues g.names) (Gives x w a) (Gives z u b)) e.0
      (BothGive x w u a b (record { behind = behind; links = links; outside = e.1 }) t)
  alike-by _ _ behind links (BothStop fault line w u a b e t) = BothFault fault line w u a b (record { behind = behind; links = links; outside = e }) t
  alike-by _ _ behind links (FirstStops fault line w a s out) = FirstLeftOut fault line w a s out
  alike-by _ _ behind links (SecondStops fault line u b r out) = SecondLeftOut fault line u b r out

  -- and what is known behind both
  behind-by : (r s : Ran (Option ℕ)) → AlikeTo g SameLeft r s → HoldsBehind (KnownLeft f set) r s
  behind-by _ _ (BothLead x y w u a b e t) = e.2
  behind-by _ _ (BothStop fault line w u a b e t) = tt
  behind-by _ _ (FirstStops fault line w a s out) = tt
  behind-by (Gives v w a) _ (SecondStops fault line u b r out) = tt
  behind-by (Faults f at w a) _ (SecondStops fault line u b r out) = tt

-- a world with the frame of another one has its links
module _ (g : Ground) where
  pub links-by : (w v : World) → frame_of v ≡ frame_of w → HasLinks g w → HasLinks g v
  links-by w v same links = record {
    channels = ap (λ (r : Frame). r.channels) same ∙ links.channels;
    ties = ap (λ (r : Frame). r.ties) same ∙ links.ties;
    homes = ap (λ (r : Frame). r.homes) same ∙ links.homes;
    rooms = ap (λ (r : Frame). r.queues) same ∙ links.rooms;
    many = many-by w v same ∙ links.many;
  }

-- the world after more steps that change none
pub after-then : {A B : Type 0} (r : Ran A) (go : A → World → Ran B) → ((x : A) (w : World) → world_after (go x w) ≡ w) → world_after (then_do r go) ≡ world_after r
after-then (Gives x w a) go same = after-also a (go x w) ∙ same x w
  where
    after-also : {B : Type 0} (a : List ℕ) (r : Ran B) → world_after (also a r) ≡ world_after r
    after-also a (Gives x w b) = refl
    after-also a (Faults fault line w b) = refl
after-then (Faults fault line w a) go same = refl

-- a state that is left for
pub state-left-after : (x : Way) (w : World) → world_after (state_left_for x w) ≡ w
state-left-after Done w = refl
state-left-after Broken w = refl
state-left-after Continued w = refl
state-left-after (Left state) w = refl
state-left-after (Returned z) w = refl

-- ---- what is hidden in a state

-- by its number
pub all-at : (hidden : List Places) (state set : ℕ) → places_of (all_in hidden state) set ≡ places_in (places_for hidden set) state
all-at [] state set = refl
all-at (s ∷ hidden) state zero = refl
all-at (s ∷ hidden) state (suc set) = all-at hidden state set

-- what is less than something that does not have a number does not have it
pub less-open : (xs ys : List ℕ) (k : ℕ) → (has ys k ≡ true → has xs k ≡ true) → has xs k ≡ false → has ys k ≡ false
less-open xs ys k less shows = by (has ys k) refl
  where
    by : (b : Bool) → has ys k ≡ b → has ys k ≡ false
    by true is = absurd (false≢true (sym shows ∙ less is))
    by false is = is

-- ---- pieces

-- On the way from a state to a state: words that are hidden in the first one alone are the same.
abbrev pub CarriesOver : List Places → (set from to : ℕ) → World → World → Type 0
CarriesOver hidden set from to w u = (k : ℕ) → has (places_in (places_for hidden set) from) k ≡ true → has (places_in (places_for hidden set) to) k ≡ false →
    slice_index_or (copy_of set w).words k (pos 0) ≡ slice_index_or (copy_of set u).words k (pos 0)

-- behind a block whose table covers what is hidden in its state alone, more is known, wherever it leads
carried : (s : Places) (set from : ℕ) (target : Destination) (f : Flow) (Stray : (to : ℕ) → Type 0) (L : (to : ℕ) → World → World → Type 0) → IsBehind s from target f →
    ((known : List ℕ) (to : ℕ) (w u : World) → Covers s from to known → AreSameAt set known w u → Stray to ⊎ L to w u) → (r t : Ran (Option ℕ)) →
    HoldsBehind (KnownLeft f set) r t → HoldsBehind (λ left. GoesTo Stray L (target_by left target)) r t
carried s set from target f Stray L behind go (Gives None w a) (Gives z u b) known = by target behind.ends
  where
    by : (d : Destination) → CoversBy s from d f.ends → GoesTo Stray L d w u
    by (to.State target) covers = go f.ends target w u covers known
    by to.Exit covers = tt
carried s set from target f Stray L behind go (Gives (Some state) w a) (Gives z u b) known = go f.leaves state w u (behind.leaves state) known
carried s set from target f Stray L behind go (Gives v w a) (Faults fault line u b) known = tt
carried s set from target f Stray L behind go (Faults fault line w a) t known = tt

module _ (p : ProgramTree) (ls : List Link) (c : Code) (places : List (List ℕ)) (stale lines : List ℕ) (names : List (List ℕ))
    (texts : texts_of c ≡ flat_map format_at (sites p)) (named : (set : ℕ) → IsInLine (name_by (slice_get p.state_sets set))) where
  -- what holds for all state sets
  abbrev ground : Ground
  ground = ground_of p ls c places stale lines names

  -- the runs of a piece, from worlds that are the same outside
  run-of-piece : (set room start : ℕ) (f : Flow) → AreFine ground set f c.instrs.items → facts_at f start ≡ first_facts → (w u : World) → HasLinks ground w →
      IsSameOutside places stale w u → IsOver (run_of (context_of (scene_in p set) (entries_of c) room) c.instrs.items start w) →
      IsOver (run_of (context_of (scene_in p set) (entries_of c) room) c.instrs.items start u) →
      AlikeTo ground (Ends ground f set) (run_of (context_of (scene_in p set) (entries_of c) room) c.instrs.items start w)
      (run_of (context_of (scene_in p set) (entries_of c) room) c.instrs.items start u)
  run-of-piece set room start f fine empty w u links e over ends =
      run-alike ground f set c.instrs.items fine (context_of (scene_in p set) (entries_of c) room) refl
      (record { functions = refl; formats = texts; named = named set }) refl start empty w u links e over ends

  -- a condition whose code stands at an address
  test-flows : (set : ℕ) (x : ExprTree) (start : ℕ) (f : Flow) → AreFine ground set f c.instrs.items → facts_at f start ≡ first_facts →
      IsPieceAt p c.instrs.items (entries_of c) start (Test set x) → PieceFlows ground p (Test set x)
  test-flows set x start f fine empty at w u e =
      let room = expression_depth (outlines_in p) x in
      let code = at room (omega arith) in
      let value : World → Ran ℤ = λ v. value_of (scene_in p set) x v in
      let F = Ends ground f set in
      let runs : AlikeTo ground F (then_do (value w) ends_with) (then_do (value u) ends_with) =
      subst (λ (r : Ran Exit). AlikeTo ground F r (then_do (value u) ends_with)) (code.is w)
      (subst (λ (r : Ran Exit). AlikeTo ground F (run_of (context_of (scene_in p set) (entries_of c) room) c.instrs.items start w) r) (code.is u)
      (run-of-piece set room start f fine empty w u e.links e.outside
      (subst IsOver (sym (code.is w)) (over-value (value w))) (subst IsOver (sym (code.is u)) (over-value (value u))))) in
      alike-by ground f set (then_do (value w) holds) (then_do (value u) holds) e.behind
      (links-by ground w (world_after (then_do (value w) holds)) ((pieces_keep_the_frame (routines_in p) (scene_in p set) refl).condition (Some x) w) e.links)
      (subst (λ (r : Ran Bool). AlikeTo ground (SameValue ground f set) r (then_do (value u) holds)) (held-back (value w))
      (subst (λ (r : Ran Bool). AlikeTo ground (SameValue ground f set) (then_do (then_do (value w) ends_with) held) r) (held-back (value u))
      (made-alike ground f set (SameValue ground f set) held (held-alike ground f set) _ _ runs)))

  module _ (set : ℕ) (b : BlockTree) (start : ℕ) (f : Flow) (fine : AreFine ground set f c.instrs.items) (empty : facts_at f start ≡ first_facts)
      (at : IsPieceAt p c.instrs.items (entries_of c) start (Action set b)) (w u : World) (e : IsAlike ground w u) where
    -- where a block leads
    abbrev way : World → Ran Way
    way v = block_effect (scene_in p set) b v

    -- the runs of its code
    runs-of-block : AlikeTo ground (Ends ground f set) (then_do (way w) leads_to) (then_do (way u) leads_to)
    runs-of-block =
        let room = block_depth (outlines_in p) b in
        let code = at room (omega arith) in
        let F = Ends ground f set in
        subst (λ (r : Ran Exit). AlikeTo ground F r (then_do (way u) leads_to)) (code.is w)
        (subst (λ (r : Ran Exit). AlikeTo ground F (run_of (context_of (scene_in p set) (entries_of c) room) c.instrs.items start w) r) (code.is u)
        (run-of-piece set room start f fine empty w u e.links e.outside
        (subst IsOver (sym (code.is w)) (over-way (way w))) (subst IsOver (sym (code.is u)) (over-way (way u)))))

    -- the state that it leaves for
    left-by-both : AlikeTo ground (SameLeft ground f set) (then_do (way w) state_left_for) (then_do (way u) state_left_for)
    left-by-both =
        subst (λ (r : Ran (Option ℕ)). AlikeTo ground (SameLeft ground f set) r (then_do (way u) state_left_for)) (left-back (way w))
        (subst (λ (r : Ran (Option ℕ)). AlikeTo ground (SameLeft ground f set) (then_do (then_do (way w) leads_to) left) r) (left-back (way u))
        (made-alike ground f set (SameLeft ground f set) left (left-alike ground f set) _ _ runs-of-block))

    -- the block
    action-flows : Alike (left_out lines) (IsAlike ground) (SameButValues names) (then_do (way w) state_left_for) (then_do (way u) state_left_for)
    action-flows =
        alike-by ground f set (then_do (way w) state_left_for) (then_do (way u) state_left_for) e.behind
        (links-by ground w (world_after (then_do (way w) state_left_for))
        (ap frame_of (after-then (way w) state_left_for state-left-after) ∙ (pieces_keep_the_frame (routines_in p) (scene_in p set) refl).block b w) e.links)
        (less-to ground (SameLeft ground f set) (SameValue ground f set) _ _ (λ x y v z k. (k.0, k.1)) left-by-both)

    -- what is known behind it
    action-behind : HoldsBehind (KnownLeft f set) (then_do (way w) state_left_for) (then_do (way u) state_left_for)
    action-behind = behind-by ground f set _ _ left-by-both

  -- a piece
  piece-flows : (piece : PieceTree) (start : ℕ) (f : Flow) → AreFine ground (set_of piece) f c.instrs.items → facts_at f start ≡ first_facts →
      IsPieceAt p c.instrs.items (entries_of c) start piece → PieceFlows ground p piece
  piece-flows (Test set x) start f fine empty at = test-flows set x start f fine empty at
  piece-flows (Action set b) start f fine empty at = λ w u e. action-flows set b start f fine empty at w u e

-- a piece that the code has is one of the program
kept-is : (p : ProgramTree) (reached : Table) (name : Piece) (piece : PieceTree) → kept_piece reached p name ≡ Some piece → piece_of p name ≡ Some piece
kept-is p reached name piece is = by (is_kept reached name) is
  where
    by : (b : Bool) → (if b then piece_of p name else None) ≡ Some piece → piece_of p name ≡ Some piece
    by true h = h
    by false h = absurd (cc)

-- A piece has code at an address, of which a table is right, where these places are hidden.
record IsAt (p : ProgramTree) (ls : List Link) (c : Code) (hidden : List Places) (stale lines : List ℕ) (names : List (List ℕ)) (name : Piece) (piece : PieceTree)
    (places : List (List ℕ)) : Type 0 where
  pub start : ℕ
  pub flow : Flow
  pub fine : AreFine (ground_of p ls c places stale lines names) (set_of piece) flow c.instrs.items
  pub free : facts_at flow start ≡ first_facts
  pub at : IsPieceAt p c.instrs.items (entries_of c) start piece
  pub behind : IsBehindPiece p hidden name flow

-- ---- pieces of a program of which some channels are free

module _ (p : ProgramTree) (ls : List Link) (c : Code) (hidden : List Places) (stale lines : List ℕ) (names : List (List ℕ)) (free : Share)
    (right : AreChosenFlowsOf p ls c hidden stale lines names free) (old : List ℕ) (few : (k : ℕ) → has old k ≡ true → has (stale ++ free.buffers) k ≡ true) where
  -- what is hidden, and the free words in each state
  abbrev more : List Places
  more = with_more hidden free.words

  -- each piece has code, where some of its buffers are stale
  is-at : (name : Piece) (piece : PieceTree) (state : ℕ) (places : List (List ℕ)) → kept_piece (holds_in (table_of c)) p name ≡ Some piece → RunsIn hidden name state →
      IsBetween (places_for hidden (set_of piece)) state (places_of places (set_of piece)) → IsAt p ls c more old lines names name piece places
  is-at name piece state places is runs between =
      by (start_in (table_of c) name) refl
      (subst (λ (o : Option PieceTree). IsPlaced p c.instrs.items (entries_of c) o (start_in (table_of c) name)) is (right.code.placed name))
    where
      set : ℕ
      set = set_of piece

      by : (o : Option ℕ) → start_in (table_of c) name ≡ o → IsPlaced p c.instrs.items (entries_of c) (Some piece) o → IsAt p ls c more old lines names name piece places
      by None found placed = absurd placed
      by (Some start) found placed =
          let one = right.shown name piece state start (kept-is p (holds_in (table_of c)) name piece is) runs found in
          record {
            start = start;
            flow = one.flow;
            fine = all-less (ground_of p ls c (all_in hidden state) (stale ++ free.buffers) lines names) places old set one.flow
                (λ k shows. less-open (places_in (places_for hidden set) state) (places_of places set) k (between.high k)
                (subst (λ (ks : List ℕ). has ks k ≡ false) (all-at hidden state set) shows))
                (λ k loose. between.low k (one.shown.firm k loose)) few c.instrs.items one.shown.fine;
            free = one.shown.free;
            at = placed;
            behind = one.behind;
          }

  -- all of them come out alike
  pub each-flows : (name : Piece) (piece : PieceTree) (state : ℕ) (places : List (List ℕ)) → kept_piece (holds_in (table_of c)) p name ≡ Some piece → RunsIn hidden name state →
      IsBetween (places_for hidden (set_of piece)) state (places_of places (set_of piece)) → PieceFlows (ground_of p ls c places old lines names) p piece
  each-flows name piece state places is runs between =
      let one = is-at name piece state places is runs between in
      piece-flows p ls c places old lines names right.code.texts right.named piece one.start one.flow one.fine one.free one.at

  -- behind the block of a clause more is known, wherever it leads
  pub block-carries : (set state k : ℕ) (x : ClauseTree) (places : List (List ℕ)) (Stray : (to : ℕ) → Type 0) (L : (to : ℕ) → World → World → Type 0) →
      ((known : List ℕ) (to : ℕ) (w u : World) → Covers (places_for more set) state to known → AreSameAt set known w u → Stray to ⊎ L to w u) → clause_at p set state k ≡ Some x →
      kept_piece (holds_in (table_of c)) p (Block set state k) ≡ Some (Action set x.block) → IsBetween (places_for hidden set) state (places_of places set) → (w u : World) →
      IsAlike (ground_of p ls c places old lines names) w u → HoldsBehind (λ left. GoesTo Stray L (target_by left (target_of (scene_in p set).here.states x.target)))
      (then_do (block_effect (scene_in p set) x.block w) state_left_for) (then_do (block_effect (scene_in p set) x.block u) state_left_for)
  block-carries set state k x places Stray L go clause is between w u e =
      let one = is-at (Block set state k) (Action set x.block) state places is refl between in
      carried (places_for more set) set state (target_of (scene_in p set).here.states x.target) one.flow Stray L (one.behind x clause) go _ _
      (action-behind p ls c places old lines names right.code.texts right.named set x.block one.start one.flow one.fine one.free one.at w u e)

-- ---- pieces of a program of which none is

-- no more is hidden
pub none-more : (hidden : List Places) → with_more hidden [] ≡ hidden
none-more [] = refl
none-more (s ∷ hidden) = refl

module _ (p : ProgramTree) (ls : List Link) (c : Code) (hidden : List Places) (stale lines : List ℕ) (names : List (List ℕ)) (right : AreFlowsOf p ls c hidden stale lines names) where
  -- what is hidden is right with no free channel
  pub none-free : AreChosenFlowsOf p ls c hidden stale lines names no_share
  none-free = record {
    code = right.code;
    shown = λ name piece state start is runs found.
        let one = right.shown name piece state start is runs found in
        record {
          flow = one.flow;
          shown = subst (λ (old : List ℕ). IsShown (ground_of p ls c (all_in hidden state) old lines names) (set_of piece) (places_for hidden (set_of piece)).always
              c.instrs.items start one.flow) (sym (append-nil stale)) one.shown;
          behind = subst (λ (more : List Places). IsBehindPiece p more name one.flow) (sym (none-more hidden)) one.behind;
        };
    wide = right.wide;
    some = right.some;
    behind = right.behind;
    are_free = record {
      shown = λ set k never. absurd (false≢true never);
      comes = λ set link e home t at begins low never. absurd (false≢true never);
      queueless = λ link e t at some low. refl;
    };
    named = right.named;
  }

  -- as much is stale
  pub none-fewer : (k : ℕ) → has stale k ≡ true → has (stale ++ []) k ≡ true
  none-fewer k here = subst (λ (old : List ℕ). has old k ≡ true) (sym (append-nil stale)) here

-- the law
pub pieces_flow : PiecesFlow
pieces_flow p ls c hidden stale lines names right name piece state places is runs between =
    each-flows p ls c hidden stale lines names no_share (none-free p ls c hidden stale lines names right) stale (none-fewer p ls c hidden stale lines names right)
    name piece state places is runs between
