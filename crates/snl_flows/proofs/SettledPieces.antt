-- Where a table shows that code writes no word of a free link, its pieces keep links settled.
use Rattle.std.proofs.Common.{◌≡◌, ◌∙◌, ◌+◌, ◌*◌, refl, sym, ap, subst, arith, ℕ, suc, ℤ, Bool, true, List, [], ◌∷◌, Option, None, Some, length, map, slice_get}
use Rattle.std.proofs.lemmas.List.{length-map}
use Rattle.snl_channels.specs.Links.{Link}
use Rattle.snl_emit.specs.Right.{ends_with, leads_to}
use Rattle.snl_emit.specs.Depths.{block_depth, expression_depth}
use Rattle.snl_flat.specs.declared.code.Code.{Code}
use Rattle.snl_flat.specs.Copies.{held_sets}
use Rattle.snl_flat.specs.Heres.{for_each_set, name_by, outlines_in, placed_in, scene_in}
use Rattle.snl_flat.specs.declared.starts.Piece.{Piece}
use Rattle.snl_flat.specs.Pieces.{IsCodeOf, IsPieceAt, IsPlaced, PieceTree, Test, Action, kept_piece}
use Rattle.snl_flat.specs.Starts.{entries_of, holds_in, start_in, table_of}
use Rattle.snl_load.specs.Places.{home_in, placed_sets}
use Rattle.snl_meaning.specs.declared.faults.Fault.{Fault}
use Rattle.snl_meaning.specs.declared.instrs.Instr.{Instr}
use Rattle.snl_meaning.specs.declared.instrs.Instr.TheVariants.{Push, Load, Check, Get, Peek, Store, StoreAt, Adjust, Increment, AdjustAt, Apply, ApplyNumber, ApplyPrefix, Settle, Drop, Jump, JumpIfZero, Tick, Print, Wait, Put, PutAt, Ask, AskLink, AskElement, Clear, Assign, Call, Fit, Return, Leave, End}
use Rattle.snl_meaning.specs.declared.names.Placed.{Placed}
use Rattle.snl_meaning.specs.Effect.{block_effect, holds}
use Rattle.snl_meaning.specs.Keeping.{world_after}
use Rattle.snl_meaning.specs.Names.{words_of}
use Rattle.snl_meaning.specs.Ran.{Ran, Gives}
use Rattle.snl_meaning.specs.Run.{Entry, Exit, PieceContext, Step, context_of, credit, done_by, run_of, step_of}
use Rattle.snl_meaning.specs.Value.{value_of}
use Rattle.snl_meaning.specs.Words.{natural}
use Rattle.snl_meaning.specs.World.{SetMemory, World}
use Rattle.snl_meaning.proofs.Frames.{steps_keep_the_frame}
use Rattle.snl_names.specs.Variables.{CopyVariable, variables_of}
use Rattle.snl_syntax.specs.Expressions.{ExprTree}
use Rattle.snl_syntax.specs.Programs.{ProgramTree, StateSetTree}
use Rattle.snl_syntax.specs.Statements.{BlockTree}
use Rattle.snl_flows.specs.Fine.{IsFineAt}
use Rattle.snl_flows.specs.Flows.{NothingIsLeftOut, ground_of, set_of}
use Rattle.snl_flows.specs.LeftOut.{IsLeftOut}
use Rattle.snl_flows.specs.Settled.{CanBeFree, IsSettled, Layout, PieceSettles, layout_for}
use Rattle.snl_flows.specs.Tables.{Operand, Another, Same, Within, CanBe, Facts, Flow, Ground, HasLinks, IsReached, below, facts_at, first_facts, top_of}
use Rattle.snl_flows.specs.Texts.{IsInLine}
use Rattle.snl_flows.specs.Unwritten.{AreUnwritten, IsUnwritten, IsUnwrittenAt, PiecesSettle}
use Rattle.snl_flows.proofs.Agree.{agree-same}
use Rattle.snl_flows.proofs.Instructions.{done-alike}
use Rattle.snl_flows.proofs.Nothing.{nothing_is_left_out}
use Rattle.snl_flows.proofs.Operands.{HoldOf, HoldsOf}
use Rattle.snl_flows.proofs.Outcomes.{AlikeTo, BothLead, BothStop, FirstStops, SecondStops}
use Rattle.snl_flows.proofs.Pieces.{after-then, links-by}
use Rattle.snl_flows.proofs.SettledSteps.{LeadsTo, exec-settles}
use Rattle.snl_flows.proofs.Steps.{After, AreBack, BothEnd, BothGo, BothGoOver, BothLeave, BothStick, Here, IsOfGround}
use Rattle.snl_flows.proofs.Worlds.{SameOn}

-- ---- operands of one run

-- what holds of a number and another one holds of it and itself
own-holds : (o : Operand) (x y : ℤ) → HoldsOf o x y → HoldsOf o x x
own-holds Another x y h = tt
own-holds Same x y h = refl
own-holds (Within n) x y h = (refl, h.1)

-- so it is of a stack
own-hold : (s t : List ℤ) (os : List Operand) → HoldOf os s t → HoldOf os s s
own-hold [] [] os h = tt
own-hold [] (y ∷ t) os h = absurd h
own-hold (x ∷ s) [] os h = absurd h
own-hold (x ∷ s) (y ∷ t) os h = (own-holds (top_of os) x y h.0, own-hold s t (below os) h.1)

-- a number can be what is known of it
is-such : (o : Operand) (x y : ℤ) → HoldsOf o x y → CanBe o (natural x)
is-such Another x y h = tt
is-such Same x y h = tt
is-such (Within n) x y h = h.1

-- ---- one run by a table

module _ (g : Ground) (free : List ℕ) (l : Layout) (set : ℕ) (f : Flow) (code : List Instr) (right : AreUnwritten g free l set f code)
    (none : (fault : Fault) (line : ℕ) → IsLeftOut g.lines fault line → ⊥) where
  -- What is known of a run at an address.
  pub record IsKnown (c : PieceContext) (at : ℕ) (s : List ℤ) (w : World) : Type 0 where
    pub is : c.set ≡ set
    pub ground : IsOfGround g c
    pub backs : AreBack f c.returns
    pub there : IsReached f at
    pub operands : HoldOf (facts_at f at).operands s s
    pub links : HasLinks g w

  -- a world is the same as itself
  itself : (n : ℕ) (K : Bool → ℕ → Type 0) (w : World) → SameOn g n K w w
  itself n K w = record {
    same = refl;
    count = refl;
    copies = λ m. record { state = refl; entered = refl; words = agree-same _ _ };
    functions = agree-same (K true) w.shared;
    buffers = agree-same _ w.buffers;
  }

  -- what is known where a step leads,
  after-leads : (c : PieceContext) → c.set ≡ set → IsOfGround g c → AreBack f c.returns → (x y : Step) (v u : World) (a : List ℕ) → HasLinks g v → After g c.set f c.returns x y v u →
      LeadsTo IsKnown c (Gives x v a)
  after-leads c is ground backs _ _ _ _ a links (BothGo pc s t v u reached hold on) =
      record { is = is; ground = ground; backs = backs; there = reached; operands = own-hold s t (facts_at f pc).operands hold; links = links }
  after-leads c is ground backs _ _ _ _ a links (BothGoOver others pc s t v u back reached hold on) = record {
    is = is;
    ground = record { functions = ground.functions; formats = ground.formats; named = ground.named };
    backs = back;
    there = reached;
    operands = own-hold s t (facts_at f pc).operands hold;
    links = links;
  }
  after-leads c is ground backs _ _ _ _ a links (BothEnd s v u outside known) = tt
  after-leads c is ground backs _ _ _ _ a links (BothLeave state v u outside known) = tt
  after-leads c is ground backs _ _ _ _ a links (BothStick v u outside) = tt

  -- if it leads on
  leads-by : (c : PieceContext) → c.set ≡ set → IsOfGround g c → AreBack f c.returns → (r q : Ran Step) → HasLinks g (world_after r) → AlikeTo g (After g c.set f c.returns) r q →
      LeadsTo IsKnown c r
  leads-by c is ground backs _ _ links (BothLead x y v u a b e k) = after-leads c is ground backs x y v u a links e
  leads-by c is ground backs _ _ links (BothStop fault line v u a b e k) = tt
  leads-by c is ground backs _ _ links (FirstStops fault line v a q left) = tt
  leads-by c is ground backs _ _ links (SecondStops fault line u b r left) = absurd (none fault line left)

  -- a step
  leads : (c : PieceContext) (at : ℕ) (s : List ℤ) (w : World) → IsKnown c at s w → LeadsTo IsKnown c (step_of c (slice_get code at) at s w)
  leads c at s w known = by (slice_get code at) refl
    where
      by : (o : Option Instr) → slice_get code at ≡ o → LeadsTo IsKnown c (step_of c o at s w)
      by None found = tt
      by (Some i) found =
          leads-by c known.is known.ground known.backs (done_by c i at s w) (done_by c i at s w)
          (links-by g w (world_after (done_by c i at s w)) (steps_keep_the_frame c i at s w) known.links)
          (done-alike g f c i at s s w w known.links known.backs known.ground (subst (λ (n : ℕ). IsFineAt g n f at i) (sym known.is) (right.fine at i found known.there)) known.operands
          (itself c.set (Here f (at ∷ c.returns)) w))

  -- what an instruction writes
  may : (c : PieceContext) (at : ℕ) (s : List ℤ) (w : World) (i : Instr) → IsKnown c at s w → slice_get code at ≡ Some i → IsUnwritten free l c i s
  may c at s w i known found =
      by i s known.operands (subst (λ (n : ℕ). IsUnwrittenAt free l n f c.functions at i) (sym known.is)
      (subst (λ (fs : List Entry). IsUnwrittenAt free l set f fs at i) known.ground.functions (right.unwritten at i found known.there)))
    where
      by : (j : Instr) (t : List ℤ) → HoldOf (facts_at f at).operands t t → IsUnwrittenAt free l c.set f c.functions at j → IsUnwritten free l c j t
      by (Push z) t hold fine = tt
      by (Load v) t hold fine = tt
      by (Check v line) t hold fine = tt
      by (Get v) t hold fine = tt
      by (Peek v) t hold fine = tt
      by (Store v line) t hold fine = fine
      by (StoreAt v line) [] hold fine = tt
      by (StoreAt v line) (z ∷ []) hold fine = tt
      by (StoreAt v line) (z ∷ k ∷ t) hold fine = fine (natural k) (is-such (top_of (below (facts_at f at).operands)) k k hold.1.0)
      by (Adjust v op op_line line is_before) t hold fine = fine
      by (Increment v op op_line line) t hold fine = fine
      by (AdjustAt v op op_line line is_before) [] hold fine = tt
      by (AdjustAt v op op_line line is_before) (k ∷ t) hold fine = fine (natural k) (is-such (top_of (facts_at f at).operands) k k hold.0)
      by (Apply op line) t hold fine = tt
      by (ApplyNumber op z line) t hold fine = tt
      by (ApplyPrefix op line) t hold fine = tt
      by Settle t hold fine = tt
      by Drop t hold fine = tt
      by (Jump n) t hold fine = tt
      by (JumpIfZero n) t hold fine = tt
      by (Tick line back) t hold fine = tt
      by (Print format n) t hold fine = tt
      by (Wait in_seconds) t hold fine = tt
      by (Put v async) t hold fine = tt
      by (PutAt v async) t hold fine = tt
      by (Ask query number) t hold fine = tt
      by (AskLink query v) t hold fine = fine
      by (AskElement query v) t hold fine = fine
      by (Clear v) t hold fine = fine
      by (Assign v k line) t hold fine = fine
      by (Call function n line) t hold fine = fine
      by (Fit least greatest line) t hold fine = tt
      by Return t hold fine = tt
      by (Leave state) t hold fine = tt
      by End t hold fine = tt

-- ---- pieces

module _ (p : ProgramTree) (ls : List Link) (c : Code) (free : List ℕ) (values : List (List (List ℤ))) (can : CanBeFree free (layout_for p ls)) (code-is : IsCodeOf p c)
    (named : (set : ℕ) → IsInLine (name_by (slice_get p.state_sets set))) (set start : ℕ) (f : Flow)
    (right : AreUnwritten (ground_of p ls c [] [] [] []) free (layout_for p ls) set f c.instrs.items) (empty : facts_at f start ≡ first_facts) where
  -- links are settled
  abbrev Settled : World → Type 0
  Settled = IsSettled free values (layout_for p ls)

  -- a world in which they are has the links of the program
  linked : (w : World) → Settled w → HasLinks (ground_of p ls c [] [] [] []) w
  linked w s = record {
    channels = ap (λ (x : Layout). x.channels) s.laid;
    ties = ap (λ (x : Layout). x.ties) s.laid;
    homes = ap (λ (x : Layout). x.homes) s.laid;
    rooms = ap (λ (x : Layout). x.rooms) s.laid;
    many = sym (length-map w.copies (λ (x : SetMemory). length x.words)) ∙ ap (λ (x : Layout). length x.words) s.laid
        ∙ length-map (held_sets p 0 p.state_sets) words_of ∙ held-many (variables_of p) 0 p.state_sets
        ∙ sym (length-map (placed_sets p 0 p.state_sets) (λ places. map (home_in places) ls) ∙ placed-many (placed_in p) 0 p.state_sets);
  }
    where
      held-many : (go : ℕ → List CopyVariable) (k : ℕ) (gs : List StateSetTree) → length (for_each_set go k gs) ≡ length gs
      held-many go k [] = refl
      held-many go k (x ∷ gs) = ap suc (held-many go (k + 1) gs)

      placed-many : (go : ℕ → List Placed) (k : ℕ) (gs : List StateSetTree) → length (for_each_set go k gs) ≡ length gs
      placed-many go k [] = refl
      placed-many go k (x ∷ gs) = ap suc (placed-many go (k + 1) gs)

  -- a run
  run-settles : (room : ℕ) (w : World) → Settled w → Settled (world_after (run_of (context_of (scene_in p set) (entries_of c) room) c.instrs.items start w))
  run-settles room w s =
      let d = context_of (scene_in p set) (entries_of c) room in
      let g = ground_of p ls c [] [] [] [] in
      let none : NothingIsLeftOut = nothing_is_left_out in
      let nothing = none.faults in
      exec-settles free values (layout_for p ls) can c.instrs.items (IsKnown g free (layout_for p ls) set f c.instrs.items right nothing)
      (leads g free (layout_for p ls) set f c.instrs.items right nothing) (may g free (layout_for p ls) set f c.instrs.items right nothing)
      (suc (credit d w) * length c.instrs.items) d start [] w
      (record {
        is = refl;
        ground = record { functions = refl; formats = code-is.texts; named = named set };
        backs = tt;
        there = ap (λ (r : Facts). r.is_reached) empty;
        operands = tt;
        links = linked w s;
      }) s

-- ---- any run

module _ (p : ProgramTree) (ls : List Link) (c : Code) (free : List ℕ) (values : List (List (List ℤ))) (code-is : IsCodeOf p c) (set start : ℕ)
    (runs : (room : ℕ) (w : World) → IsSettled free values (layout_for p ls) w →
    IsSettled free values (layout_for p ls) (world_after (run_of (context_of (scene_in p set) (entries_of c) room) c.instrs.items start w))) where
  -- links are settled
  abbrev SettledBy : World → Type 0
  SettledBy = IsSettled free values (layout_for p ls)

  -- a condition,
  test-settles : (x : ExprTree) → IsPieceAt p c.instrs.items (entries_of c) start (Test set x) → PieceSettles SettledBy p (Test set x)
  test-settles x at w s =
      let room = expression_depth (outlines_in p) x in
      let code = at room (omega arith) in
      subst SettledBy (sym (after-then (value_of (scene_in p set) x w) holds (λ z u. refl)))
      (subst SettledBy (after-then (value_of (scene_in p set) x w) ends_with (λ z u. refl)) (subst (λ (r : Ran Exit). SettledBy (world_after r)) (code.is w) (runs room w s)))

  -- and a block
  action-settles : (b : BlockTree) → IsPieceAt p c.instrs.items (entries_of c) start (Action set b) → PieceSettles SettledBy p (Action set b)
  action-settles b at w s =
      let room = block_depth (outlines_in p) b in
      let code = at room (omega arith) in
      subst SettledBy (after-then (block_effect (scene_in p set) b w) leads_to (λ way u. refl)) (subst (λ (r : Ran Exit). SettledBy (world_after r)) (code.is w) (runs room w s))

  -- a piece whose code begins there
  pub piece-settles : (name : Piece) (piece : PieceTree) → kept_piece (holds_in (table_of c)) p name ≡ Some piece → start_in (table_of c) name ≡ Some start → set_of piece ≡ set →
      PieceSettles SettledBy p piece
  piece-settles name piece is found on = by piece on placed
    where
      placed : IsPlaced p c.instrs.items (entries_of c) (Some piece) (Some start)
      placed =
          subst (IsPlaced p c.instrs.items (entries_of c) (Some piece)) found
          (subst (λ (o : Option PieceTree). IsPlaced p c.instrs.items (entries_of c) o (start_in (table_of c) name)) is (code-is.placed name))

      by : (q : PieceTree) → set_of q ≡ set → IsPlaced p c.instrs.items (entries_of c) (Some q) (Some start) → PieceSettles SettledBy p q
      by (Test n x) same at = subst (λ (m : ℕ). IsPieceAt p c.instrs.items (entries_of c) start (Test m x) → PieceSettles SettledBy p (Test m x)) (sym same) (test-settles x) at
      by (Action n b) same at = subst (λ (m : ℕ). IsPieceAt p c.instrs.items (entries_of c) start (Action m b) → PieceSettles SettledBy p (Action m b)) (sym same) (action-settles b) at

-- the law
pub pieces_settle : PiecesSettle
pieces_settle p ls c free values name piece start f code can named is found right empty =
    piece-settles p ls c free values code (set_of piece) start (run-settles p ls c free values can code named (set_of piece) start f right empty) name piece is found refl
