-- The conditions of each state of a program lie beside each other in its code.
use Rattle.std.proofs.Common.{◌≡◌, ◌∙◌, ◌≤◌, ◌+◌, ◌*◌, ℕ, zero, suc, ℤ, Bool, true, false, if◌then◌else◌, List, [], ◌∷◌, Option, None, Some, refl, ap, sym, subst, arith, length, map, take, slice_get, option_map, option_and_then, unwrap_or}
use Rattle.std.proofs.Math.Nat.{mul-le-mul_right, mul_assoc}
use Rattle.snl_text.specs.declared.tokens.Token.{Token}
use Rattle.snl_syntax.specs.Expressions.{ExprTree}
use Rattle.snl_syntax.specs.Programs.{ClauseTree, StateTree, StateSetTree, ProgramTree}
use Rattle.snl_flat.specs.declared.code.Code.{Code}
use Rattle.snl_flat.specs.declared.starts.ClauseStarts.{ClauseStarts}
use Rattle.snl_flat.specs.declared.starts.Piece.TheVariants.{Condition, Block}
use Rattle.snl_flat.specs.Apart.{IsStretch, IsAlone, AreApart}
use Rattle.snl_flat.specs.Depths.{program_depth}
use Rattle.snl_flat.specs.Heres.{here_in, scene_in, name_by, states_by}
use Rattle.snl_flat.specs.Pieces.{IsPlaced, PieceTree, Test, piece_of, kept_piece, piece_depth, state_at}
use Rattle.snl_flat.specs.Starts.{StateTable, ProgramTable, entries_of, table_of, state_in, is_held, holds_in, start_in}
use Rattle.snl_flat.proofs.Deepest.{depth_is_enough}
use Rattle.snl_channels.specs.Links.{Link}
use Rattle.snl_meaning.specs.declared.instrs.Instr.{Instr}
use Rattle.snl_meaning.specs.Endings.{IsOver}
use Rattle.snl_meaning.specs.Keeping.{world_after}
use Rattle.snl_meaning.specs.Names.{formats_of}
use Rattle.snl_meaning.specs.Ran.{Ran, Gives, Faults, then_do}
use Rattle.snl_meaning.specs.Run.{Entry, PieceContext, Exit, Over, context_of, credit, run_of, steps_of}
use Rattle.snl_meaning.specs.Value.{value_of}
use Rattle.snl_meaning.specs.World.{World}
use Rattle.snl_schedule.specs.declared.plans.ClausePlan.{ClausePlan}
use Rattle.snl_schedule.specs.declared.plans.SetPlan.{SetPlan}
use Rattle.snl_schedule.specs.declared.plans.StatePlan.{StatePlan}
use Rattle.snl_schedule.specs.Loaded.{Loaded, context_in}
use Rattle.snl_schedule.specs.Plans.{test_at}
use Rattle.snl_schedule.specs.Steps.{held_steps}
use Rattle.snl_load.specs.Plans.{PlainState, PlainSet, PlainPlan, state_view, set_view, clause_plan, clause_plans, clauses_if, state_plan, state_plans, set_plan, set_plans}
use Rattle.snl_load.specs.Right.{IsLoadedOf}
use Rattle.snl_meaning.specs.Counts.{StretchesAreBounded}
use Rattle.snl_meaning.proofs.Counts.{run-keeps}
use Rattle.snl_machine.proofs.Costs.{paid, three, held-ticks}
use Rattle.snl_machine.proofs.Spent.{IsTested, AreTested}
use Rattle.snl_machine.proofs.Instants.{AllTested}

-- the end with a value
abbrev ends_with : ℤ → World → Ran Exit
ends_with z w = Gives (Over (z ∷ [])) w []

-- it is an end
over-ends : (r : Ran ℤ) → IsOver (then_do r ends_with)
over-ends (Gives z w text) = tt
over-ends (Faults f line w text) = tt

-- ---- what stands in a plan

-- the state set of a number
sets-found : (code : List Instr) (tb : ProgramTable) (k : ℕ) (gs : List StateSetTree) (plans : List SetPlan) → map set_view plans ≡ set_plans code tb k gs →
    (i n : ℕ) (s : SetPlan) → n ≡ k + i → slice_get plans i ≡ Some s → (g : StateSetTree) × (slice_get gs i ≡ Some g) × (set_view s ≡ set_plan code tb n g)
sets-found code tb k gs [] same i n s is there = absurd (cc)
sets-found code tb k [] (plan ∷ plans) same i n s is there = absurd (cc)
sets-found code tb k (g ∷ gs) (plan ∷ plans) same zero n s is there =
    let one : set_view plan ≡ set_plan code tb k g = cc in
    let this : s ≡ plan = cc in
    let number : k ≡ n = omega (arith, is) in (g, refl, ap set_view this ∙ one ∙ ap (λ (m : ℕ). set_plan code tb m g) number)
sets-found code tb k (g ∷ gs) (plan ∷ plans) same (suc i) n s is there =
    let rest : map set_view plans ≡ set_plans code tb (k + 1) gs = cc in sets-found code tb (k + 1) gs plans rest i n s (omega (arith, is)) there

-- and the state
states-found : (names : List Token) (code : List Instr) (tb : ProgramTable) (set k : ℕ) (ss : List StateTree) (plans : List StatePlan) → map state_view plans ≡ state_plans names code tb set k ss →
    (i n : ℕ) (q : StatePlan) → n ≡ k + i → slice_get plans i ≡ Some q → (s : StateTree) × (slice_get ss i ≡ Some s) × (state_view q ≡ state_plan names code tb set n s)
states-found names code tb set k ss [] same i n q is there = absurd (cc)
states-found names code tb set k [] (plan ∷ plans) same i n q is there = absurd (cc)
states-found names code tb set k (s ∷ ss) (plan ∷ plans) same zero n q is there =
    let one : state_view plan ≡ state_plan names code tb set k s = cc in
    let this : q ≡ plan = cc in
    let number : k ≡ n = omega (arith, is) in (s, refl, ap state_view this ∙ one ∙ ap (λ (m : ℕ). state_plan names code tb set m s) number)
states-found names code tb set k (s ∷ ss) (plan ∷ plans) same (suc i) n q is there =
    let rest : map state_view plans ≡ state_plans names code tb set (k + 1) ss = cc in states-found names code tb set (k + 1) ss plans rest i n q (omega (arith, is)) there

-- as many state sets are planned as there are, with numbers from k on
sets-planned : (code : List Instr) (tb : ProgramTable) (k : ℕ) (gs : List StateSetTree) (plans : List SetPlan) → map set_view plans ≡ set_plans code tb k gs → length plans ≡ length gs
sets-planned code tb k [] [] same = refl
sets-planned code tb k [] (plan ∷ plans) same = absurd (cc)
sets-planned code tb k (g ∷ gs) [] same = absurd (cc)
sets-planned code tb k (g ∷ gs) (plan ∷ plans) same = let rest : map set_view plans ≡ set_plans code tb (k + 1) gs = cc in ap suc (sets-planned code tb (k + 1) gs plans rest)

-- all of them
pub as-many : (p : ProgramTree) (ls : List Link) (waits : Bool) (c : Code) (t : Loaded) → IsLoadedOf p ls waits c t → length t.plan.sets.items ≡ length p.state_sets
as-many p ls waits c t is = sets-planned c.instrs.items (table_of c) 0 p.state_sets t.plan.sets.items (ap (λ (v : PlainPlan). v.sets) is.plan)

module _ (stretches : StretchesAreBounded) (p : ProgramTree) (ls : List Link) (waits : Bool) (c : Code) (t : Loaded) (is : IsLoadedOf p ls waits c t)
    (apart : (set state : ℕ) (s : StateTree) (x : StateTable) → state_at p set state ≡ Some s → state_in (table_of c) set state ≡ Some x → x.is_reached ≡ true →
    AreApart p set c.instrs.items (entries_of c) 0 s.clauses x.clauses) where
  -- the code
  abbrev code : List Instr
  code = c.instrs.items

  -- where its functions begin
  abbrev functions : List Entry
  functions = entries_of c

  -- its table
  abbrev tb : ProgramTable
  tb = table_of c

  -- what the code of a state set runs with
  abbrev context : ℕ → PieceContext
  context set = context_of (scene_in p set) functions t.room

  -- there is room for all pieces
  enough : program_depth p ≤ t.room
  enough = omega (arith, is.room, is.counted, is.code_is.depth)

  -- a condition stays in its stretch, but for what its ticks pay for
  stays : (set from : ℕ) (e : ExprTree) (s : ClauseStarts) (h : IsStretch p set code functions from e s) → piece_depth p (Test set e) ≤ t.room → (w : World) →
      steps_of (context set) code h.start w + from + paid (length code) (world_after (run_of (context set) code h.start w)).ticks ≤ s.block + paid (length code) w.ticks
  stays set from e s h deep w =
      let g = context set in
      let run : run_of g (take s.block code) h.start w ≡ then_do (value_of (scene_in p set) e w) ends_with = (h.is t.room deep).is w in
      let over = subst (λ (r : Ran Exit). IsOver r) (sym run) (over-ends (value_of (scene_in p set) e w)) in
      let k = stretches g code s.block h.start w refl over h.within in
      let after = (world_after (run_of g code h.start w)).ticks in
      let kept : after * length code ≤ w.ticks * length code = mul-le-mul_right (length code) (run-keeps g code (suc (credit g w) * length code) h.start [] w) in
      let b = h.begins in
      let len = length code in
      omega (arith, k, b, kept, three after len, three w.ticks len, mul_assoc 2 after len, mul_assoc 2 w.ticks len)

  module _ (set state : ℕ) (st : StateTree) (x : StateTable) (at : state_at p set state ≡ Some st) (there : state_in tb set state ≡ Some x) (held : x.is_reached ≡ true) where
    -- the plan of a clause
    abbrev plan_of : ℕ → ClauseTree → ClausePlan
    plan_of j d = clause_plan (here_in p set).states code tb set state j d

    -- where its block begins
    block-is : (j : ℕ) (s : ClauseStarts) → slice_get x.clauses j ≡ Some s → unwrap_or (start_in tb (Block set state j)) 0 ≡ s.block
    block-is j s found =
        ap (λ (o : Option StateTable). unwrap_or (option_map (λ (y : ClauseStarts). y.block) (option_and_then (λ (y : StateTable). slice_get y.clauses j) o)) 0) there
        ∙ ap (λ (o : Option ClauseStarts). unwrap_or (option_map (λ (y : ClauseStarts). y.block) o) 0) found

    -- where its condition begins
    condition-is : (j : ℕ) (s : ClauseStarts) → slice_get x.clauses j ≡ Some s → start_in tb (Condition set state j) ≡ s.condition
    condition-is j s found =
        ap (λ (o : Option StateTable). option_and_then (λ (y : ClauseStarts). y.condition) (option_and_then (λ (y : StateTable). slice_get y.clauses j) o)) there
        ∙ ap (option_and_then (λ (y : ClauseStarts). y.condition)) found

    -- the condition of a clause is a piece
    piece-is : (j : ℕ) (d : ClauseTree) → slice_get st.clauses j ≡ Some d → piece_of p (Condition set state j) ≡ option_map (Test set) d.condition
    piece-is j d found =
        ap (λ (o : Option StateTree). option_and_then (λ (y : ClauseTree). option_map (Test set) y.condition) (option_and_then (λ (y : StateTree). slice_get y.clauses j) o)) at
        ∙ ap (option_and_then (λ (y : ClauseTree). option_map (Test set) y.condition)) found

    -- where there is none, none is planned
    none-is : (j : ℕ) → piece_of p (Condition set state j) ≡ None → start_in tb (Condition set state j) ≡ None
    none-is j none =
        let name = Condition set state j in
        by (start_in tb name) (subst (λ (o : Option PieceTree). IsPlaced p code functions o (start_in tb name)) kept (is.code_is.placed name))
      where
        kept : kept_piece (holds_in tb) p (Condition set state j) ≡ None
        kept = ap (λ (b : Bool). if b then piece_of p (Condition set state j) else None) (ap is_held there ∙ held) ∙ none

        by : (start : Option ℕ) → IsPlaced p code functions None start → start ≡ None
        by None h = refl
        by (Some start) h = absurd h

    -- a clause
    tested : (j from : ℕ) (d : ClauseTree) (s : ClauseStarts) → slice_get st.clauses j ≡ Some d → slice_get x.clauses j ≡ Some s → IsAlone p set code functions from d.condition s →
        IsTested (context set) code from (plan_of j d)
    tested j from d s found starts = by d.condition refl
      where
        -- up to its block
        to-block : (condition : Option ℕ) → start_in tb (Condition set state j) ≡ condition → s.block ≤ length code →
            ((w : World) → held_steps (context set) code condition w + from + paid (length code) (world_after (test_at (context set) code condition w)).ticks ≤ s.block + paid (length code) w.ticks) →
            IsTested (context set) code from (plan_of j d)
        to-block condition begins within test =
            let b = block-is j s starts in
            record {
              within = omega (arith, b, within);
              test = λ w.
                  let h = test w in
                  let e = ap (λ (o : Option ℕ). held_steps (context set) code o w) begins in
                  let t = ap (λ (o : Option ℕ). paid (length code) (world_after (test_at (context set) code o w)).ticks) begins in
                  omega (arith, b, e, t, h);
            }

        by : (o : Option ExprTree) → d.condition ≡ o → IsAlone p set code functions from o s → IsTested (context set) code from (plan_of j d)
        by None none alone = let le = alone.0 in to-block None (none-is j (piece-is j d found ∙ ap (option_map (Test set)) none)) alone.1 (λ w. omega (arith, le))
        by (Some e) some alone =
            let deep = depth_is_enough p (Condition set state j) (Test set e) (piece-is j d found ∙ ap (option_map (Test set)) some) in
            to-block (Some alone.start) (condition-is j s starts ∙ alone.there) alone.within
            (λ w. let h = stays set from e s alone (omega (arith, deep, enough)) w in let t = ap (paid (length code)) (held-ticks (context set) code alone.start w) in omega (arith, h, t))

    -- clauses with numbers from j on
    rows-tested : (j from : ℕ) (ds : List ClauseTree) (ss : List ClauseStarts) → ((i n : ℕ) (d : ClauseTree) → n ≡ j + i → slice_get ds i ≡ Some d → slice_get st.clauses n ≡ Some d) →
        ((i n : ℕ) (s : ClauseStarts) → n ≡ j + i → slice_get ss i ≡ Some s → slice_get x.clauses n ≡ Some s) → AreApart p set code functions from ds ss →
        AreTested (context set) code from (clause_plans (here_in p set).states code tb set state j ds)
    rows-tested j from [] ss trees starts all = tt
    rows-tested j from (d ∷ ds) [] trees starts all = absurd all
    rows-tested j from (d ∷ ds) (s ∷ ss) trees starts all =
        let first = starts 0 j s (omega arith) refl in (
          tested j from d s (trees 0 j d (omega arith) refl) first all.0,
          subst (λ (b : ℕ). AreTested (context set) code b (clause_plans (here_in p set).states code tb set state (j + 1) ds)) (sym (block-is j s first))
              (rows-tested (j + 1) s.block ds ss (λ i n y same at'. trees (suc i) n y (omega (arith, same)) at') (λ i n y same at'. starts (suc i) n y (omega (arith, same)) at') all.1),
        )

    -- all clauses of a state that the code has
    held-tested : AreTested (context set) code 0 (clause_plans (here_in p set).states code tb set state 0 st.clauses)
    held-tested =
        rows-tested 0 0 st.clauses x.clauses
        (λ i n d same found. let e : n ≡ i = omega (arith, same) in ap (λ (m : ℕ). slice_get st.clauses m) e ∙ found)
        (λ i n s same found. let e : n ≡ i = omega (arith, same) in ap (λ (m : ℕ). slice_get x.clauses m) e ∙ found)
        (apart set state st x at there held)

  -- all clauses that are planned of a state
  state-tested : (set state : ℕ) (st : StateTree) (q : StatePlan) → state_at p set state ≡ Some st → state_view q ≡ state_plan (here_in p set).states code tb set state st →
      AreTested (context set) code 0 q.clauses.items
  state-tested set state st q at planned = by (state_in tb set state) refl
    where
      -- without clauses
      without : holds_in tb set state ≡ false → AreTested (context set) code 0 q.clauses.items
      without left =
          let none : q.clauses.items ≡ [] = ap (λ (v : PlainState). v.clauses) planned ∙ ap (λ (b : Bool). clauses_if b (here_in p set).states code tb set state st.clauses) left in
          subst (λ (cs : List ClausePlan). AreTested (context set) code 0 cs) (sym none) tt

      -- with them
      with_it : (x : StateTable) → state_in tb set state ≡ Some x → (b : Bool) → x.is_reached ≡ b → AreTested (context set) code 0 q.clauses.items
      with_it x there false left = without (ap is_held there ∙ left)
      with_it x there true held =
          let all : q.clauses.items ≡ clause_plans (here_in p set).states code tb set state 0 st.clauses =
          ap (λ (v : PlainState). v.clauses) planned ∙ ap (λ (b : Bool). clauses_if b (here_in p set).states code tb set state st.clauses) (ap is_held there ∙ held) in
          subst (λ (cs : List ClausePlan). AreTested (context set) code 0 cs) (sym all) (held-tested set state st x at there held)

      by : (o : Option StateTable) → state_in tb set state ≡ o → AreTested (context set) code 0 q.clauses.items
      by None none = without (ap is_held none)
      by (Some x) there = with_it x there x.is_reached refl

  -- the code of a state set runs with what is known of it
  contexts : (k : ℕ) (g : StateSetTree) (s : SetPlan) → slice_get p.state_sets k ≡ Some g → set_view s ≡ set_plan code tb k g → context_in t k s ≡ context k
  contexts k g s at one =
      let names : s.name.items ≡ name_by (slice_get p.state_sets k) = ap (λ (v : PlainSet). v.name) one ∙ sym (ap name_by at) in
      let texts : t.formats ≡ formats_of (here_in p k) = is.formats ∙ is.code_is.texts in
      λ j. record { set = k; name = names j; formats = texts j; functions = is.functions j; room = t.room; returns = [] }

  -- the conditions of each state lie beside each other
  pub all-tested : AllTested t
  all-tested k s there n q found =
      let set = sets-found code tb 0 p.state_sets t.plan.sets.items (ap (λ (v : PlainPlan). v.sets) is.plan) k k s (omega arith) there in
      let g : StateSetTree = set.0 in
      let at : slice_get p.state_sets k ≡ Some g = set.1 in
      let planned : map state_view s.states.items ≡ state_plans (here_in p k).states code tb k 0 g.states =
      ap (λ (v : PlainSet). v.states) set.2 ∙ ap (λ (o : Option StateSetTree). state_plans (states_by o) code tb k 0 g.states) (sym at) in
      let state = states-found (here_in p k).states code tb k 0 g.states s.states.items planned n n q (omega arith) found in
      let stands : state_at p k n ≡ Some state.0 = ap (option_and_then (λ (h : StateSetTree). slice_get h.states n)) at ∙ state.1 in
      subst (λ (h : PieceContext). AreTested h t.code 0 q.clauses.items) (sym (contexts k g s at set.2))
      (subst (λ (l : List Instr). AreTested (context k) l 0 q.clauses.items) (sym is.code) (state-tested k n state.0 q stands state.2))
