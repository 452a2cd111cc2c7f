-- The clauses of a program, run by their plans.
use Rattle.std.proofs.Common.{◌≡◌, ◌∙◌, ◌≤◌, ◌+◌, ℕ, zero, suc, Bool, true, if◌then◌else◌, List, [], ◌∷◌, Option, None, Some, refl, ap, subst, arith, map, slice_get, option_map, option_and_then, unwrap_or}
use Rattle.snl_syntax.specs.Programs.{ClauseTree, ProgramTree}
use Rattle.snl_flat.specs.declared.starts.Piece.{Piece}
use Rattle.snl_flat.specs.declared.starts.Piece.TheVariants.{Condition, Block}
use Rattle.snl_flat.specs.Depths.{program_depth}
use Rattle.snl_flat.specs.Heres.{here_in, scene_in}
use Rattle.snl_flat.specs.Pieces.{IsPlaced, PieceTree, Test, Action, piece_of, kept_piece, clause_at}
use Rattle.snl_flat.specs.Starts.{ProgramTable, holds_in, start_in}
use Rattle.snl_flat.proofs.Deepest.{depth_is_enough}
use Rattle.snl_meaning.specs.declared.instrs.Instr.{Instr}
use Rattle.snl_meaning.specs.Effect.{held_by, block_effect}
use Rattle.snl_meaning.specs.Ran.{then_do}
use Rattle.snl_meaning.specs.Endings.{IsOver}
use Rattle.snl_meaning.specs.Run.{Entry, PieceContext, context_of, run_of}
use Rattle.snl_meaning.specs.World.{World}
use Rattle.snl_vm.specs.Running.{left_at}
use Rattle.snl_schedule.specs.declared.plans.ClausePlan.{ClausePlan}
use Rattle.snl_schedule.specs.Plans.{clause_of, test_at, CanTest, CanRun, CanRunAll}
use Rattle.snl_load.specs.Meaning.{clause_meaning, state_left_for}
use Rattle.snl_load.specs.Plans.{clause_plan, clause_plans}
use Rattle.snl_load.proofs.Pieces.{condition-means, block-means}

module _ (p : ProgramTree) (code : List Instr) (functions : List Entry) (t : ProgramTable) (room set : ℕ)
    (placed : (name : Piece) → IsPlaced p code functions (kept_piece (holds_in t) p name) (start_in t name)) (enough : program_depth p ≤ room) (state : ℕ) (held : holds_in t set state ≡ true) where
  abbrev pub context : PieceContext
  context = context_of (scene_in p set) functions room

  -- the code has the piece of a name that stands in the state
  kept : (o : Option PieceTree) → (if holds_in t set state then o else None) ≡ o
  kept o = ap (λ (b : Bool). if b then o else None) held

  -- the condition of a clause
  condition : (k : ℕ) (c : ClauseTree) → clause_at p set state k ≡ Some c →
      ((w : World) → test_at context code (start_in t (Condition set state k)) w ≡ held_by (scene_in p set) c.condition w) × CanTest context code (start_in t (Condition set state k))
  condition k c at =
      let name = Condition set state k in
      let is : piece_of p name ≡ option_map (Test set) c.condition = ap (option_and_then (λ d. option_map (Test set) d.condition)) at in
      let there = subst (λ (o : Option PieceTree). IsPlaced p code functions o (start_in t name)) (kept (piece_of p name) ∙ is) (placed name) in
      condition-means p code functions room set c.condition (start_in t name) there
      (λ x there. omega (arith, enough, depth_is_enough p name (Test set x) (is ∙ ap (option_map (Test set)) there)))

  -- the block of a clause
  block : (k : ℕ) (c : ClauseTree) → clause_at p set state k ≡ Some c → let start = unwrap_or (start_in t (Block set state k)) 0 in
      ((w : World) → left_at context code start w ≡ then_do (block_effect (scene_in p set) c.block w) state_left_for) × ((w : World) → IsOver (run_of context code start w))
  block k c at =
      let name = Block set state k in by (start_in t name) (subst (λ (o : Option PieceTree). IsPlaced p code functions o (start_in t name)) (kept (piece_of p name) ∙ is) (placed name))
    where
      is : piece_of p (Block set state k) ≡ Some (Action set c.block)
      is = ap (option_map (λ d. Action set d.block)) at

      by : (start : Option ℕ) → IsPlaced p code functions (Some (Action set c.block)) start →
          ((w : World) → left_at context code (unwrap_or start 0) w ≡ then_do (block_effect (scene_in p set) c.block w) state_left_for)
          × ((w : World) → IsOver (run_of context code (unwrap_or start 0) w))
      by None there = absurd there
      by (Some start) there = block-means p code functions room set c.block start there (omega (arith, enough, depth_is_enough p (Block set state k) (Action set c.block) is))

  -- a clause means what its plan runs
  clause-means : (k : ℕ) (c : ClauseTree) → clause_at p set state k ≡ Some c → clause_of context code (clause_plan (here_in p set).states code t set state k c) ≡ clause_meaning (scene_in p set) c
  clause-means k c at =
      let tests = (condition k c at).0 in
      let acts = (block k c at).0 in
      let m = clause_meaning (scene_in p set) c in
      λ j. record { holds = λ w. tests w j; acts = λ w. acts w j; target = m.target; line = m.line }

  -- and it can run
  clause-runs : (k : ℕ) (c : ClauseTree) → clause_at p set state k ≡ Some c → CanRun context code (clause_plan (here_in p set).states code t set state k c)
  clause-runs k c at = record { condition = (condition k c at).1; block = (block k c at).1; tested = refl; emptied = refl }

  -- clauses that stand in the state from a number on
  abbrev pub StandFrom : ℕ → List ClauseTree → Type 0
  StandFrom k cs = (j n : ℕ) (c : ClauseTree) → n ≡ k + j → slice_get cs j ≡ Some c → clause_at p set state n ≡ Some c

  -- those behind the first
  next : (k : ℕ) (c : ClauseTree) (cs : List ClauseTree) → StandFrom k (c ∷ cs) → StandFrom (k + 1) cs
  next k c cs stand j n d is there = stand (suc j) n d (omega (arith, is)) there

  -- clauses mean what their plans run
  pub clauses-mean : (k : ℕ) (cs : List ClauseTree) → StandFrom k cs →
      map (clause_of context code) (clause_plans (here_in p set).states code t set state k cs) ≡ map (clause_meaning (scene_in p set)) cs
  clauses-mean k [] stand = refl
  clauses-mean k (c ∷ cs) stand = λ j. clause-means k c (stand 0 k c (omega arith) refl) j ∷ clauses-mean (k + 1) cs (next k c cs stand) j

  -- and they can run
  pub clauses-run : (k : ℕ) (cs : List ClauseTree) → StandFrom k cs → CanRunAll context code (clause_plans (here_in p set).states code t set state k cs)
  clauses-run k [] stand i c there = absurd (cc)
  clauses-run k (d ∷ cs) stand zero c there =
      let is : clause_plan (here_in p set).states code t set state k d ≡ c = cc in
      subst (λ (x : ClausePlan). CanRun context code x) is (clause-runs k d (stand 0 k d (omega arith) refl))
  clauses-run k (d ∷ cs) stand (suc i) c there = clauses-run (k + 1) cs (next k d cs stand) i c there
