-- The state sets of a program, run by their plans.
use Rattle.std.proofs.Common.{◌≡◌, ◌∙◌, ◌≤◌, ◌+◌, ℕ, Bool, zero, suc, List, [], ◌∷◌, Option, Some, refl, ap, sym, subst, arith, map, slice_get, option_map, option_and_then}
use Rattle.snl_syntax.specs.Programs.{StateTree, StateSetTree, ProgramTree}
use Rattle.snl_flat.specs.declared.code.Code.{Code}
use Rattle.snl_syntax.specs.Statements.{BlockTree}
use Rattle.snl_flat.specs.declared.starts.Piece.{Piece}
use Rattle.snl_flat.specs.declared.starts.Piece.TheVariants.{ProgramEntry, ProgramExit}
use Rattle.snl_flat.specs.Depths.{program_depth}
use Rattle.snl_flat.specs.Heres.{outlines_in, here_in, scene_in, name_by, states_by}
use Rattle.snl_flat.specs.Pieces.{IsPlaced, PieceTree, Action, piece_of, kept_piece, state_at}
use Rattle.snl_flat.specs.Starts.{entries_of, table_of, holds_in, start_in}
use Rattle.snl_flat.proofs.Deepest.{depth_is_enough}
use Rattle.snl_channels.specs.Links.{Link}
use Rattle.snl_meaning.specs.declared.instrs.Instr.{Instr}
use Rattle.snl_emit.specs.Depths.{block_depth}
use Rattle.snl_meaning.specs.Names.{formats_of}
use Rattle.snl_meaning.specs.Run.{Entry, PieceContext, context_of}
use Rattle.snl_meaning.specs.World.{World}
use Rattle.snl_schedule.specs.declared.plans.SetPlan.{SetPlan}
use Rattle.snl_schedule.specs.Plans.{set_of, state_of, block_at, CanDo, CanRunSet}
use Rattle.snl_schedule.specs.Instant.{first_name}
use Rattle.snl_schedule.specs.Loaded.{Loaded, context_in, own_context, sets_from}
use Rattle.snl_load.specs.Meaning.{block_meaning, state_meaning, set_meaning, set_meanings}
use Rattle.snl_load.specs.Plans.{PlainPlan, PlainSet, set_view, state_view, state_plans, set_plan, set_plans}
use Rattle.snl_load.specs.Reached.{set_reached, states_reached}
use Rattle.snl_load.specs.Right.{IsLoadedOf, PlansAreRight}
use Rattle.snl_flat.specs.Reached.{Table}
use Rattle.snl_load.proofs.Pieces.{outer-means}
use Rattle.snl_load.proofs.Sets.{states-mean, states-run}

module _ (p : ProgramTree) (ls : List Link) (waits : Bool) (c : Code) (t : Loaded) (is : IsLoadedOf p ls waits c t) where
  -- the code that runs has the pieces
  pieces : (name : Piece) → IsPlaced p t.code t.functions (kept_piece (holds_in (table_of c)) p name) (start_in (table_of c) name)
  pieces name =
      let piece = kept_piece (holds_in (table_of c)) p name in
      let start = start_in (table_of c) name in
      subst (λ (functions : List Entry). IsPlaced p t.code functions piece start) (sym is.functions)
      (subst (λ (code : List Instr). IsPlaced p code (entries_of c) piece start) (sym is.code) (is.code_is.placed name))

  -- there is room for all of them
  enough : program_depth p ≤ t.room
  enough = omega (arith, is.room, is.counted, is.code_is.depth)

  -- the code of a state set runs with what is known of it
  contexts : (k : ℕ) (g : StateSetTree) (plan : SetPlan) → slice_get p.state_sets k ≡ Some g → set_view plan ≡ set_plan t.code (table_of c) k g →
      context_in t k plan ≡ context_of (scene_in p k) t.functions t.room
  contexts k g plan at one =
      let names : plan.name.items ≡ name_by (slice_get p.state_sets k) = ap (λ (v : PlainSet). v.name) one ∙ sym (ap name_by at) in
      let texts : t.formats ≡ formats_of (here_in p k) = is.formats ∙ is.code_is.texts in
      λ j. record { set = k; name = names j; formats = texts j; functions = t.functions; room = t.room; returns = [] }

  -- the states of a state set stand in it
  stands : (k : ℕ) (g : StateSetTree) → slice_get p.state_sets k ≡ Some g → (j n : ℕ) (s : StateTree) → n ≡ 0 + j → slice_get g.states j ≡ Some s → state_at p k n ≡ Some s
  stands k g at j n s same there =
      let same' : n ≡ j = omega (arith, same) in
      ap (λ (i : ℕ). state_at p k i) same' ∙ ap (option_and_then (λ h. slice_get h.states j)) at ∙ there

  -- its states are planned with the names that the code knows
  states-planned : (k : ℕ) (g : StateSetTree) (plan : SetPlan) → slice_get p.state_sets k ≡ Some g → set_view plan ≡ set_plan t.code (table_of c) k g →
      map state_view plan.states.items ≡ state_plans (here_in p k).states t.code (table_of c) k 0 g.states
  states-planned k g plan at one =
      ap (λ (v : PlainSet). v.states) one ∙ ap (λ (o : Option StateSetTree). state_plans (states_by o) t.code (table_of c) k 0 g.states) (sym at)

  -- a state set means what its plan runs
  set-means : (k : ℕ) (g : StateSetTree) (plan : SetPlan) → slice_get p.state_sets k ≡ Some g → set_view plan ≡ set_plan t.code (table_of c) k g →
      set_of (context_in t k plan) t.code plan ≡ set_reached (holds_in (table_of c)) (set_meaning p k g)
  set-means k g plan at one =
      let names = ap (λ (v : PlainSet). v.name) one in
      let states : map (state_of (context_in t k plan) t.code) plan.states.items ≡ states_reached (holds_in (table_of c) k) 0 (map (state_meaning (scene_in p k)) g.states) =
      ap (λ (s : PieceContext). map (state_of s t.code) plan.states.items) (contexts k g plan at one)
      ∙ states-mean p t.code t.functions (table_of c) t.room k pieces enough 0 g.states plan.states.items (stands k g at) (states-planned k g plan at one)
      in λ j. record { set = k; name = names j; states = states j }

  -- and it can run
  set-runs : (k : ℕ) (g : StateSetTree) (plan : SetPlan) → slice_get p.state_sets k ≡ Some g → set_view plan ≡ set_plan t.code (table_of c) k g →
      CanRunSet (context_in t k plan) t.code plan.states.items
  set-runs k g plan at one =
      subst (λ (s : PieceContext). CanRunSet s t.code plan.states.items) (sym (contexts k g plan at one))
      (states-run p t.code t.functions (table_of c) t.room k pieces enough 0 g.states plan.states.items (stands k g at) (states-planned k g plan at one))

  -- the program's own blocks run with the copy and the name of the first state set
  own-contexts : first_name (sets_from t 0 t.plan.sets.items) ≡ name_by (slice_get p.state_sets 0) → own_context t ≡ context_of (scene_in p 0) t.functions t.room
  own-contexts names =
      let texts : t.formats ≡ formats_of (here_in p 0) = is.formats ∙ is.code_is.texts in
      λ j. record { set = 0; name = names j; formats = texts j; functions = t.functions; room = t.room; returns = [] }

  -- one of them does what its code does, and comes to its end
  own : own_context t ≡ context_of (scene_in p 0) t.functions t.room → (name : Piece) (start : Option ℕ) (b : Option BlockTree) → piece_of p name ≡ option_map (Action 0) b →
      kept_piece (holds_in (table_of c)) p name ≡ piece_of p name → start ≡ start_in (table_of c) name →
      ((w : World) → block_at (own_context t) t.code start w ≡ block_meaning (scene_in p 0) b w) × CanDo (own_context t) t.code start
  own same name start b piece kept at =
      let there = subst (λ (o : Option PieceTree). IsPlaced p t.code t.functions o (start_in (table_of c) name)) (kept ∙ piece) (pieces name) in
      let fits : (x : BlockTree) → b ≡ Some x → block_depth (outlines_in p) x ≤ t.room =
      λ x some. omega (arith, enough, depth_is_enough p name (Action 0 x) (piece ∙ ap (option_map (Action 0)) some)) in
      let means = outer-means p t.code t.functions t.room 0 b (start_in (table_of c) name) there fits in (
        λ w. ap (λ (s : PieceContext). block_at s t.code start w) same ∙ ap (λ (o : Option ℕ). block_at (context_of (scene_in p 0) t.functions t.room) t.code o w) at ∙ means.0 w,
        subst (λ (s : PieceContext). CanDo s t.code start) (sym same) (subst (λ (o : Option ℕ). CanDo (context_of (scene_in p 0) t.functions t.room) t.code o) (sym at) means.1),
      )

  -- state sets that stand in the program from a number on
  abbrev pub StandFrom : ℕ → List StateSetTree → Type 0
  StandFrom k gs = (j n : ℕ) (g : StateSetTree) → n ≡ k + j → slice_get gs j ≡ Some g → slice_get p.state_sets n ≡ Some g

  -- those behind the first
  next : (k : ℕ) (g : StateSetTree) (gs : List StateSetTree) → StandFrom k (g ∷ gs) → StandFrom (k + 1) gs
  next k g gs stand j n d same there = stand (suc j) n d (omega (arith, same)) there

  -- state sets mean what their plans run
  sets-mean : (k : ℕ) (gs : List StateSetTree) (plans : List SetPlan) → StandFrom k gs → map set_view plans ≡ set_plans t.code (table_of c) k gs →
      sets_from t k plans ≡ map (set_reached (holds_in (table_of c))) (set_meanings p k gs)
  sets-mean k [] [] stand same = refl
  sets-mean k [] (plan ∷ plans) stand same = absurd (cc)
  sets-mean k (g ∷ gs) [] stand same = absurd (cc)
  sets-mean k (g ∷ gs) (plan ∷ plans) stand same =
      let one : set_view plan ≡ set_plan t.code (table_of c) k g = cc in
      let rest : map set_view plans ≡ set_plans t.code (table_of c) (k + 1) gs = cc in
      λ j. set-means k g plan (stand 0 k g (omega arith) refl) one j ∷ sets-mean (k + 1) gs plans (next k g gs stand) rest j

  -- and they can run
  sets-run : (k : ℕ) (gs : List StateSetTree) (plans : List SetPlan) → StandFrom k gs → map set_view plans ≡ set_plans t.code (table_of c) k gs →
      (i n : ℕ) (plan : SetPlan) → n ≡ k + i → slice_get plans i ≡ Some plan → CanRunSet (context_in t n plan) t.code plan.states.items
  sets-run k gs [] stand same i n plan at there = absurd (cc)
  sets-run k [] (first ∷ plans) stand same i n plan at there = absurd (cc)
  sets-run k (g ∷ gs) (first ∷ plans) stand same zero n plan at there =
      let this : first ≡ plan = cc in
      let here : k ≡ n = omega (arith, at) in
      let one : set_view first ≡ set_plan t.code (table_of c) k g = cc in
      subst (λ (x : SetPlan). CanRunSet (context_in t n x) t.code x.states.items) this
      (subst (λ (m : ℕ). CanRunSet (context_in t m first) t.code first.states.items) here (set-runs k g first (stand 0 k g (omega arith) refl) one))
  sets-run k (g ∷ gs) (first ∷ plans) stand same (suc i) n plan at there =
      let rest : map set_view plans ≡ set_plans t.code (table_of c) (k + 1) gs = cc in
      sets-run (k + 1) gs plans (next k g gs stand) rest i n plan (omega (arith, at)) there

-- the first state set of a program has the name that the code knows
first-name : (p : ProgramTree) (reached : Table) → first_name (map (set_reached reached) (set_meanings p 0 p.state_sets)) ≡ name_by (slice_get p.state_sets 0)
first-name p reached = by p.state_sets
  where
    by : (gs : List StateSetTree) → first_name (map (set_reached reached) (set_meanings p 0 gs)) ≡ name_by (slice_get gs 0)
    by [] = refl
    by (g ∷ gs) = refl

-- all state sets stand in the program
all-stand : (p : ProgramTree) (j n : ℕ) (g : StateSetTree) → n ≡ 0 + j → slice_get p.state_sets j ≡ Some g → slice_get p.state_sets n ≡ Some g
all-stand p j n g is there = let same : n ≡ j = omega (arith, is) in ap (λ (i : ℕ). slice_get p.state_sets i) same ∙ there

-- what a plan runs is what its program means, without the pieces of the states that the code does not have
pub plans_are_right : PlansAreRight
plans_are_right p ls waits c t is =
    let names = ap (λ (v : PlainPlan). v.name) is.plan in
    let links = ap (λ (v : PlainPlan). v.links) is.plan in
    let waiting = ap (λ (v : PlainPlan). v.waits) is.plan in
    let plans = ap (λ (v : PlainPlan). v.sets) is.plan ∙ ap (λ (code : List Instr). set_plans code (table_of c) 0 p.state_sets) (sym is.code) in
    let all = t.plan.sets.items in
    let sets = sets-mean p ls waits c t is 0 p.state_sets all (all-stand p) plans in
    let first : first_name (sets_from t 0 all) ≡ name_by (slice_get p.state_sets 0) = ap first_name sets ∙ first-name p (holds_in (table_of c)) in
    let context : own_context t ≡ context_of (scene_in p 0) t.functions t.room = own-contexts p ls waits c t is first in
    let entry = own p ls waits c t is context ProgramEntry t.plan.blocks.entry p.entry refl refl (ap (λ (v : PlainPlan). v.blocks.entry) is.plan) in
    let exit = own p ls waits c t is context ProgramExit t.plan.blocks.exit p.exit refl refl (ap (λ (v : PlainPlan). v.blocks.exit) is.plan) in (
      λ j. record { name = names j; links = links j; waits = waiting j; entry = λ w. entry.0 w j; sets = sets j; exit = λ w. exit.0 w j },
      record { entry = entry.1; sets = λ k s there. sets-run p ls waits c t is 0 p.state_sets all (all-stand p) plans k k s (omega arith) there; exit = exit.1 },
    )
