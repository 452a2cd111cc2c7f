-- The lines of transitions that are kept are those that are told.
use Rattle.std.proofs.Common.{◌≡◌, ◌∙◌, ◌&&◌, if◌then◌else◌, ℕ, zero, suc, Bool, true, false, List, [], ◌∷◌, ◌++◌, Option, None, Some, refl, ap, sym, subst, append-nil, map, slice_get, slice_index_or, codes}
use Rattle.std.specs.Prelude.{IfSome}
use Rattle.snl_meaning.specs.declared.instrs.Instr.{Instr}
use Rattle.snl_meaning.specs.Ran.{Gives}
use Rattle.snl_meaning.specs.Run.{PieceContext}
use Rattle.snl_meaning.specs.World.{World}
use Rattle.snl_output.specs.Devices.{told_more, IsCutShort}
use Rattle.snl_output.specs.Does.{Gave, text_of}
use Rattle.snl_output.specs.Lines.{go_line, go_rest}
use Rattle.snl_schedule.specs.declared.plans.ClausePlan.{ClausePlan}
use Rattle.snl_schedule.specs.declared.plans.Destination.{Destination}
use Rattle.snl_schedule.specs.declared.plans.Destination.TheVariants as to
use Rattle.snl_schedule.specs.declared.plans.SetContext.{SetContext}
use Rattle.snl_schedule.specs.declared.plans.StatePlan.{StatePlan}
use Rattle.snl_schedule.specs.Goes.{Kept, is_short, kept_for, kept_in, kept_of, kept_text, name_at, target_name}
use Rattle.snl_schedule.specs.Plans.{context_on, set_on, state_of}
use Rattle.snl_schedule.specs.Turn.{arrived, crossed, no_state, state_name}
use Rattle.snl_schedule.specs.declared.transitions.Turned.{Turned}
use Rattle.snl_schedule.specs.declared.transitions.Turned.TheVariants.{Exited}
use Rattle.snl_schedule.proofs.Telling.{cut-there}

-- where the clause of a line leads
abbrev target-of : Destination → Option Kept → Destination
target-of other None = other
target-of other (Some k) = k.0

-- what follows the time in it
abbrev text-in : Option Kept → Option (List ℕ)
text-in None = None
text-in (Some k) = k.1

-- a text, where there is one
abbrev text-or : Option (List ℕ) → List ℕ
text-or None = []
text-or (Some text) = text

-- what is kept of a line is what follows the time there
kept-is : (set from to text : List ℕ) → kept_text set from to ≡ Some text → text ≡ go_rest set from to
kept-is set from to text = by (is_short set && is_short from && is_short to)
  where
    by : (b : Bool) → (if b then Some (go_rest set from to) else None) ≡ Some text → text ≡ go_rest set from to
    by true is = sym (ap text-or is)
    by false is = absurd (cc)

module _ (set : List ℕ) (all : List StatePlan) where
  -- the line that is kept of a clause of a state
  kept-row : (from : List ℕ) (cs : List ClausePlan) (n : ℕ) (target : Destination) (text : List ℕ) →
      slice_get (map (kept_for set all from) cs) n ≡ Some (target, Some text) → text ≡ go_rest set from (target_name all target)
  kept-row from [] n target text there = absurd (cc)
  kept-row from (c ∷ cs) zero target text there =
      kept-is set from (target_name all c.target) text (ap text-in there) ∙ ap (λ (t : Destination). go_rest set from (target_name all t)) (ap (target-of c.target) there)
  kept-row from (c ∷ cs) (suc n) target text there = kept-row from cs n target text there

  -- and of a state set
  kept-there : (ss : List StatePlan) (from n : ℕ) (target : Destination) (text : List ℕ) →
      slice_get (slice_index_or (map (kept_in set all) ss) from []) n ≡ Some (target, Some text) → text ≡ go_rest set (name_at ss from) (target_name all target)
  kept-there [] from n target text there = absurd (cc)
  kept-there (s ∷ ss) zero n target text there = kept-row s.name.items s.clauses.items n target text there
  kept-there (s ∷ ss) (suc from) n target text there = kept-there ss from n target text there

-- the line that was found is the one of that transition
pub kept_there : {A : Type 0} (now : A → List ℕ) (set : List ℕ) (states : List StatePlan) (kept : List (List Kept)) (from n : ℕ) (target : Destination) (o : Option A) →
    kept ≡ kept_of set states → IfSome o (λ text. slice_get (slice_index_or kept from []) n ≡ Some (target, Some (now text))) →
    IfSome o (λ text. now text ≡ go_rest set (name_at states from) (target_name states target))
kept_there now set states kept from n target None all there = tt
kept_there now set states kept from n target (Some text) all there =
    kept-there set states states from n target (now text) (ap (λ (rows : List (List Kept)). slice_get (slice_index_or rows from []) n) (sym all) ∙ there)

-- a state has the name of its plan
names-same : (g : PieceContext) (code : List Instr) (ss : List StatePlan) (k : ℕ) → name_at ss k ≡ (slice_index_or (map (state_of g code) ss) k no_state).name
names-same g code [] k = refl
names-same g code (s ∷ ss) zero = refl
names-same g code (s ∷ ss) (suc k) = names-same g code ss k

module _ (t : SetContext) (ms from : ℕ) where
  -- the line of a transition from a state, with a name at its end
  line-from : (to : List ℕ) → go_line ms t.plan.now.name.items (name_at t.plan.now.states.items from) to ≡ go_line ms (set_on t).name (state_name (set_on t) from) to
  line-from to =
      let same = names-same (context_on t) t.code.now t.plan.now.states.items from in
      λ j. go_line ms (sym t.named j) (same j) to

  -- the line of one to a state
  pub line-to : (k : ℕ) →
      go_line ms t.plan.now.name.items (name_at t.plan.now.states.items from) (target_name t.plan.now.states.items (to.State k))
      ≡ go_line ms (set_on t).name (state_name (set_on t) from) (state_name (set_on t) k)
  line-to k =
      let same = names-same (context_on t) t.code.now t.plan.now.states.items k in
      line-from (name_at t.plan.now.states.items k) ∙ ap (λ n. go_line ms (set_on t).name (state_name (set_on t) from) n) same

  -- and of one out of the program
  pub line-out : go_line ms t.plan.now.name.items (name_at t.plan.now.states.items from) (target_name t.plan.now.states.items to.Exit)
      ≡ go_line ms (set_on t).name (state_name (set_on t) from) (codes "exit")
  line-out = line-from (codes "exit")

-- where the line of a transition was cut short, so was all that it writes
pub arrived-cut : (t : SetContext) (from : ℕ) (target : Destination) (w : World) (old new : Option (List ℕ)) →
    IsCutShort (go_line w.time t.plan.now.name.items (name_at t.plan.now.states.items from) (target_name t.plan.now.states.items target)) old new →
    IsCutShort (text_of (arrived (set_on t) from target w)) old new
arrived-cut t from (to.State k) w old new cut =
    cut-there _ (λ _ u. crossed (set_on t) from k u) w old new (subst (λ (text : List ℕ). IsCutShort text old new) (line-to t w.time from k) cut)
arrived-cut t from to.Exit w old new cut =
    cut-there _ (λ _ u. Gives Exited u []) w old new (subst (λ (text : List ℕ). IsCutShort text old new) (line-out t w.time from) cut)

-- where it was told, and leads out of the program, that is all
pub arrived-out : (t : SetContext) (from : ℕ) (target : Destination) (w : World) (old new : Option (List ℕ)) → target ≡ to.Exit →
    new ≡ told_more old (go_line w.time t.plan.now.name.items (name_at t.plan.now.states.items from) (target_name t.plan.now.states.items target)) →
    Gave {A = Turned} Exited w old new (arrived (set_on t) from target w)
arrived-out t from target w old new is told =
    let line = go_line w.time (set_on t).name (state_name (set_on t) from) (codes "exit") in
    let named = λ (d : Destination). go_line w.time t.plan.now.name.items (name_at t.plan.now.states.items from) (target_name t.plan.now.states.items d) in
    subst (λ (d : Destination). Gave {A = Turned} Exited w old new (arrived (set_on t) from d w)) (sym is)
    (record { text = line ++ []; is = refl; told = told ∙ ap (told_more old) (ap named is ∙ line-out t w.time from ∙ sym (append-nil line)) })
