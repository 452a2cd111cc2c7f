-- The states of a state set, run by their plans.
use Rattle.std.proofs.Common.{◌≡◌, ◌∙◌, ◌≤◌, ◌+◌, ℕ, zero, suc, Bool, true, false, if◌then◌else◌, List, [], ◌∷◌, Option, None, Some, refl, ap, sym, subst, arith, map, slice_get, option_map, option_and_then}
use Rattle.snl_syntax.specs.Programs.{ClauseTree, StateTree, ProgramTree}
use Rattle.snl_syntax.specs.Statements.{BlockTree}
use Rattle.snl_flat.specs.declared.starts.Piece.{Piece}
use Rattle.snl_flat.specs.declared.starts.Piece.TheVariants.{Entry, Exit}
use Rattle.snl_flat.specs.Depths.{program_depth}
use Rattle.snl_flat.specs.Heres.{here_in, scene_in}
use Rattle.snl_flat.specs.Pieces.{IsPlaced, PieceTree, Action, piece_of, kept_piece, clause_at, state_at}
use Rattle.snl_flat.specs.Starts.{ProgramTable, holds_in, start_in}
use Rattle.snl_flat.proofs.Deepest.{depth_is_enough}
use Rattle.snl_meaning.specs.declared.instrs.Instr.{Instr}
use Rattle.snl_meaning.specs.Run.{PieceContext, context_of}
use Rattle.snl_meaning.specs.Run as run
use Rattle.snl_meaning.specs.World.{World}
use Rattle.snl_schedule.specs.declared.plans.ClausePlan.{ClausePlan}
use Rattle.snl_schedule.specs.declared.plans.StatePlan.{StatePlan}
use Rattle.snl_schedule.specs.Plans.{clause_of, state_of, block_at, CanDo, CanRunAll, CanRunState, CanRunSet}
use Rattle.snl_load.specs.Meaning.{block_meaning, state_meaning}
use Rattle.snl_load.specs.Plans.{PlainState, state_view, state_plan, state_plans, clause_plans, clauses_if}
use Rattle.snl_load.specs.Reached.{if_reached, states_reached}
use Rattle.snl_load.proofs.Clauses.{clauses-mean, clauses-run}
use Rattle.snl_load.proofs.Pieces.{outer-means}

module _ (p : ProgramTree) (code : List Instr) (functions : List run.Entry) (t : ProgramTable) (room set : ℕ)
    (placed : (name : Piece) → IsPlaced p code functions (kept_piece (holds_in t) p name) (start_in t name)) (enough : program_depth p ≤ room) where
  abbrev pub context : PieceContext
  context = context_of (scene_in p set) functions room

  -- the clauses of a state stand in it
  stands : (k : ℕ) (s : StateTree) → state_at p set k ≡ Some s → (j n : ℕ) (c : ClauseTree) → n ≡ 0 + j → slice_get s.clauses j ≡ Some c → clause_at p set k n ≡ Some c
  stands k s at j n c is there =
      let same : n ≡ j = omega (arith, is) in
      ap (λ (i : ℕ). clause_at p set k i) same ∙ ap (option_and_then (λ d. slice_get d.clauses j)) at ∙ there

  -- an entry or an exit block of a state that the code has
  outer : (name : Piece) (b : Option BlockTree) → piece_of p name ≡ option_map (Action set) b → kept_piece (holds_in t) p name ≡ piece_of p name →
      ((w : World) → block_at context code (start_in t name) w ≡ block_meaning (scene_in p set) b w) × CanDo context code (start_in t name)
  outer name b is kept =
      outer-means p code functions room set b (start_in t name) (subst (λ (o : Option PieceTree). IsPlaced p code functions o (start_in t name)) (kept ∙ is) (placed name))
      (λ x there. omega (arith, enough, depth_is_enough p name (Action set x) (is ∙ ap (option_map (Action set)) there)))

  -- one of a state that it does not have
  unplaced : (name : Piece) → kept_piece (holds_in t) p name ≡ None → start_in t name ≡ None
  unplaced name none = by (start_in t name) (subst (λ (o : Option PieceTree). IsPlaced p code functions o (start_in t name)) none (placed name))
    where
      by : (start : Option ℕ) → IsPlaced p code functions None start → start ≡ None
      by None there = refl
      by (Some start) there = absurd there

  -- What is known of the plan of a state: it means the state, and its pieces can run.
  abbrev pub IsRight : Bool → ℕ → StateTree → StatePlan → Type 0
  IsRight b k s plan = (state_of context code plan ≡ if_reached b (state_meaning (scene_in p set) s)) × CanRunState context code plan

  -- one of a state that the code has
  held-right : (k : ℕ) (s : StateTree) (plan : StatePlan) → holds_in t set k ≡ true → state_at p set k ≡ Some s → state_view plan ≡ state_plan (here_in p set).states code t set k s →
      IsRight true k s plan
  held-right k s plan held at is =
      let kept : (o : Option PieceTree) → (if holds_in t set k then o else None) ≡ o = λ o. ap (λ (b : Bool). if b then o else None) held in
      let entry = outer (Entry set k) s.entry (ap (option_and_then (λ d. option_map (Action set) d.entry)) at) (kept (piece_of p (Entry set k))) in
      let exit = outer (Exit set k) s.exit (ap (option_and_then (λ d. option_map (Action set) d.exit)) at) (kept (piece_of p (Exit set k))) in
      let names = ap (λ (v : PlainState). v.name) is in
      let enters : (w : World) → block_at context code plan.blocks.entry w ≡ block_meaning (scene_in p set) s.entry w =
      λ w. ap (λ (v : PlainState). block_at context code v.blocks.entry w) is ∙ entry.0 w in
      let planned : plan.clauses.items ≡ clause_plans (here_in p set).states code t set k 0 s.clauses =
      ap (λ (v : PlainState). v.clauses) is ∙ ap (λ (b : Bool). clauses_if b (here_in p set).states code t set k s.clauses) held in
      let clauses = ap (map (clause_of context code)) planned ∙ clauses-mean p code functions t room set placed enough k held 0 s.clauses (stands k s at) in
      let leaves : (w : World) → block_at context code plan.blocks.exit w ≡ block_meaning (scene_in p set) s.exit w =
      λ w. ap (λ (v : PlainState). block_at context code v.blocks.exit w) is ∙ exit.0 w in
      let again = ap (λ (v : PlainState). v.again) is in (
        λ j. record { name = names j; entry = λ w. enters w j; clauses = clauses j; exit = λ w. leaves w j; again = again j },
        record {
          entry = subst (λ (start : Option ℕ). CanDo context code start) (sym (ap (λ (v : PlainState). v.blocks.entry) is)) entry.1;
          clauses = subst (λ (cs : List ClausePlan). CanRunAll context code cs) (sym planned) (clauses-run p code functions t room set placed enough k held 0 s.clauses (stands k s at));
          exit = subst (λ (start : Option ℕ). CanDo context code start) (sym (ap (λ (v : PlainState). v.blocks.exit) is)) exit.1;
        },
      )

  -- one of a state that it does not have
  left-right : (k : ℕ) (s : StateTree) (plan : StatePlan) → holds_in t set k ≡ false → state_view plan ≡ state_plan (here_in p set).states code t set k s → IsRight false k s plan
  left-right k s plan held is =
      let left : (o : Option PieceTree) → (if holds_in t set k then o else None) ≡ None = λ o. ap (λ (b : Bool). if b then o else None) held in
      let entry : plan.blocks.entry ≡ None = ap (λ (v : PlainState). v.blocks.entry) is ∙ unplaced (Entry set k) (left (piece_of p (Entry set k))) in
      let exit : plan.blocks.exit ≡ None = ap (λ (v : PlainState). v.blocks.exit) is ∙ unplaced (Exit set k) (left (piece_of p (Exit set k))) in
      let clauses : plan.clauses.items ≡ [] =
      ap (λ (v : PlainState). v.clauses) is ∙ ap (λ (b : Bool). clauses_if b (here_in p set).states code t set k s.clauses) held in
      let names = ap (λ (v : PlainState). v.name) is in
      let again = ap (λ (v : PlainState). v.again) is in (
        λ j. record {
          name = names j;
          entry = λ w. block_at context code (entry j) w;
          clauses = map (clause_of context code) (clauses j);
          exit = λ w. block_at context code (exit j) w;
          again = again j;
        },
        record {
          entry = subst (λ (start : Option ℕ). CanDo context code start) (sym entry) tt;
          clauses = subst (λ (cs : List ClausePlan). CanRunAll context code cs) (sym clauses) (λ i c there. absurd (cc));
          exit = subst (λ (start : Option ℕ). CanDo context code start) (sym exit) tt;
        },
      )

  -- each
  state-right : (k : ℕ) (s : StateTree) (plan : StatePlan) → state_at p set k ≡ Some s → state_view plan ≡ state_plan (here_in p set).states code t set k s →
      IsRight (holds_in t set k) k s plan
  state-right k s plan at is = by (holds_in t set k) refl
    where
      by : (b : Bool) → holds_in t set k ≡ b → IsRight b k s plan
      by true held = held-right k s plan held at is
      by false left = left-right k s plan left is

  -- states that stand in the state set from a number on
  abbrev pub StandFrom : ℕ → List StateTree → Type 0
  StandFrom k ss = (j n : ℕ) (s : StateTree) → n ≡ k + j → slice_get ss j ≡ Some s → state_at p set n ≡ Some s

  -- those behind the first
  next : (k : ℕ) (s : StateTree) (ss : List StateTree) → StandFrom k (s ∷ ss) → StandFrom (k + 1) ss
  next k s ss stand j n d is there = stand (suc j) n d (omega (arith, is)) there

  -- states mean what their plans run
  pub states-mean : (k : ℕ) (ss : List StateTree) (plans : List StatePlan) → StandFrom k ss → map state_view plans ≡ state_plans (here_in p set).states code t set k ss →
      map (state_of context code) plans ≡ states_reached (holds_in t set) k (map (state_meaning (scene_in p set)) ss)
  states-mean k [] [] stand is = refl
  states-mean k [] (plan ∷ plans) stand is = absurd (cc)
  states-mean k (s ∷ ss) [] stand is = absurd (cc)
  states-mean k (s ∷ ss) (plan ∷ plans) stand is =
      let one : state_view plan ≡ state_plan (here_in p set).states code t set k s = cc in
      let rest : map state_view plans ≡ state_plans (here_in p set).states code t set (k + 1) ss = cc in
      λ j. (state-right k s plan (stand 0 k s (omega arith) refl) one).0 j ∷ states-mean (k + 1) ss plans (next k s ss stand) rest j

  -- and they can run
  pub states-run : (k : ℕ) (ss : List StateTree) (plans : List StatePlan) → StandFrom k ss → map state_view plans ≡ state_plans (here_in p set).states code t set k ss →
      CanRunSet context code plans
  states-run k ss [] stand is i plan there = absurd (cc)
  states-run k [] (first ∷ plans) stand is i plan there = absurd (cc)
  states-run k (s ∷ ss) (first ∷ plans) stand is zero plan there =
      let same : first ≡ plan = cc in
      let one : state_view first ≡ state_plan (here_in p set).states code t set k s = cc in
      subst (λ (x : StatePlan). CanRunState context code x) same (state-right k s first (stand 0 k s (omega arith) refl) one).1
  states-run k (s ∷ ss) (first ∷ plans) stand is (suc i) plan there =
      let rest : map state_view plans ≡ state_plans (here_in p set).states code t set (k + 1) ss = cc in
      states-run (k + 1) ss plans (next k s ss stand) rest i plan there
